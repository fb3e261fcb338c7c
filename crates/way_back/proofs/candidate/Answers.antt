-- `candidate` meets its contract: what the inverse gives may be encoded.
use Rattle.std.specs.Prelude.{Ok}
use Rattle.std.proofs.Common.{◌≡◌, ◌<◌, ap, ◌∙◌, ℕ, ℤ}
use lib.Dec.{lit<}
use Rattle.rules.specs.Triples.{Scenes}
use Rattle.rules.specs.declared.Setting.{Setting}
use Rattle.rules.specs.Setting.{ValidForAces}
use Rattle.rules.specs.Encoding.{scene_check}
use Rattle.aces_inverse.specs.Reach.{InReach}
use Rattle.aces_inverse.specs.Inverse.{candidate}
use Rattle.aces_inverse.proofs.Inverse.{candidate_encodes}
use Rattle.way_back.proofs.candidate.Goals as goal

passes : (s : Setting) → ValidForAces s → {a b c x : ℤ} → InReach a b c → (k : ℕ) → k < 3 → x ≡ candidate s k a b c → scene_check x ≡ Ok tt
passes s v {a} {b} {c} g k h e = ap scene_check e ∙ candidate_encodes s v a b c g k h

pub pixel_of-requires-clause-red_value : goal.pixel_of-requires-clause-red_value
pixel_of-requires-clause-red_value c =
    passes c.args.d.now.setting c.requires.valid_for_aces c.requires.in_reach 0 (lit< tt) (ap (λ (x : Scenes). x.red.0) c.candidate-x.ensures)

pub pixel_of-requires-clause-green_value : goal.pixel_of-requires-clause-green_value
pixel_of-requires-clause-green_value c =
    passes c.args.d.now.setting c.requires.valid_for_aces c.requires.in_reach 1 (lit< tt) (ap (λ (x : Scenes). x.green.0) c.candidate-x.ensures)

pub pixel_of-requires-clause-blue_value : goal.pixel_of-requires-clause-blue_value
pixel_of-requires-clause-blue_value c =
    passes c.args.d.now.setting c.requires.valid_for_aces c.requires.in_reach 2 (lit< tt) (ap (λ (x : Scenes). x.blue.0) c.candidate-x.ensures)
