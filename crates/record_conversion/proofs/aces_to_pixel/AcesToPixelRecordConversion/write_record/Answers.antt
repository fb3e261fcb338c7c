-- The numbers of a record that a way back takes are in reach, and the pixel that is found for them is the candidate.
use Rattle.std.specs.Prelude.{Ok, Option, Some}
use Rattle.std.proofs.Common.{List, ℕ, ◌≡◌, ap, ◌∙◌}
use Rattle.rules.specs.declared.Distance.{Distance}
use Rattle.rules.specs.declared.Setting.{Setting}
use Rattle.rules.specs.Triples.{Pixel, Triple}
use Rattle.rules.specs.Conversions.{pixel_found}
use Rattle.rules.specs.Record.{setting_of, triple_in, pixel_record}
use Rattle.rules.specs.Setting.{ValidForAces}
use Rattle.rules.specs.WayBack.{found_check, pixel_by, distance_of}
use Rattle.aces_inverse.specs.Reach.{InReach}
use Rattle.way_back.specs.Back.{pixel_for}
use Rattle.way_back.specs.Candidate.{candidate_pixel}
use Rattle.way_back.proofs.Only.{near_enough, passed_found}
use Rattle.record_conversion.specs.Conversions.{back_within}
use Rattle.record_conversion.proofs.aces_to_pixel.AcesToPixelRecordConversion.write_record.Goals as goal

module _ (d : Distance) (s : Setting) (r : List ℕ) (es : s ≡ setting_of r) (passes : (back_within (distance_of d)).inner r ≡ Ok tt) (valid : ValidForAces s) where
  abbrev a : Triple
  a = triple_in r

  found : (InReach a.red.0 a.green.0 a.blue.0) × (Some (candidate_pixel s a) ≡ pixel_for (distance_of d) s a)
  unfolding pixel_by
  found =
      passed_found (distance_of d) s valid (near_enough d s valid) a (ap (λ (x : Setting). found_check (pixel_for (distance_of d) x a)) es ∙ passes)

  written : pixel_record s (candidate_pixel s a) ≡ (back_within (distance_of d)).bytes r
  written =
      ap (λ (f : Option Pixel). pixel_record s (pixel_found f)) found.1
      ∙ ap (λ (x : Setting). pixel_record x (pixel_found (pixel_for (distance_of d) x a))) es

pub write_back-requires-clause-in_reach : goal.write_back-requires-clause-in_reach
write_back-requires-clause-in_reach c =
    let q = c.requires.s_value in (found c.args.self.distance c.args.d.now.setting c.args.r.now q.0 q.2 q.3).0

pub returns : goal.returns
returns c =
    let q = c.requires.s_value in c.write_back.ensures ∙ written c.args.self.distance c.args.d.now.setting c.args.r.now q.0 q.2 q.3
