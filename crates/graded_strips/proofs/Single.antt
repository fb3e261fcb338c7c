-- One graded record: when it passes, what is written for it, and that the graded road gives what the way back gives.
-- Assumes nothing.
use Rattle.std.specs.Prelude.{Ok, Option}
use mathlib.Core.Logic.{◌↔◌}
use mathlib.Core.Path.{◌≡◌, sym, ap, subst}
use mathlib.Core.List.{List}
use Prim.Native.Nat.{ℕ, ◌^◌, ◌<◌}
use lib.IntN.{ℤ}
use Rattle.rules.specs.declared.Distance.TheVariants.{Exact}
use Rattle.rules.specs.Triples.{Pixel, Scenes}
use Rattle.rules.specs.declared.Setting.{Setting}
use Rattle.rules.specs.Calls.{EncodesBy}
use Rattle.rules.specs.Conversions.{channel_checks, pixel_found}
use Rattle.rules.specs.Graded.{graded_checks, GradedWithin, pixel_nearest}
use Rattle.rules.specs.Pixels.{scenes, Small3}
use Rattle.rules.specs.Record.{IsBytes, setting_of, triple_in, pixel_record}
use Rattle.rules.specs.Setting.{aces_check, ValidForAces}
use Rattle.rules.specs.Strip.{record_check}
use Rattle.rules.specs.WayBack.{found_check, pixel_by, exact}
use Rattle.rules.proofs.Between.{scene_small}
use Rattle.rules.proofs.Codes.{code_small}
use Rattle.rules.proofs.Graded.{all_graded, graded_all}
use Rattle.rules.proofs.Settings.{aces_valid, both}
use Rattle.rules.proofs.Written.{fits_setting, setting_read, numbers_read, FitsPixel, pixel_setting, pixel_read}
use Rattle.decode.specs.Decoded.{decoded}
use Rattle.encode.specs.Encoded.{encoded, encoded_step}
use Rattle.encode.proofs.Answers.{code_encodes}
use Rattle.encode.proofs.Theorems.{encoded_nearest}
use Rattle.aces_inverse.specs.Inverse.{candidates}
use Rattle.graded.specs.Graded.{reached, to_scene_result}
use Rattle.graded.proofs.Theorems.{graded_near}
use Rattle.way_back.specs.Back.{pixel_for}
use Rattle.way_back.proofs.Only.{near_enough, passed_found}
use Rattle.record_conversion.specs.Conversions.{scene_to_pixel, aces_to_pixel, graded_to_scene, graded_to_pixel}
use Rattle.promise.specs.Words.{number_in}
use Rattle.graded_strips.specs.Words.{HoldsGraded, Given, GivesScenes, GivesPixel}

-- A RECORD PASSES exactly where its setting is valid and its numbers are within the limits
pub passes_exactly : (r : List ℕ) → (record_check graded_to_pixel r ≡ Ok tt) ↔ HoldsGraded r
passes_exactly r = (
  λ e. let p = both (aces_check (setting_of r)) (graded_checks (triple_in r)) e in record { valid = p.0; numbers = all_graded (triple_in r) p.1 },
  λ h. rw (h.valid, graded_all (triple_in r) h.numbers),
)

-- ---- what is written for a record that passes
module _ (r : List ℕ) (b : IsBytes r) (h : record_check graded_to_pixel r ≡ Ok tt) where
  abbrev s : Setting
  s = setting_of r

  abbrev x : Scenes
  x = candidates (setting_of r) (triple_in r)

  parts : ValidForAces s × (graded_checks (triple_in r) ≡ Ok tt)
  parts = both (aces_check s) (graded_checks (triple_in r)) h

  near : GradedWithin reached s (triple_in r) x
  near = graded_near s (triple_in r) parts.0 parts.1

  given : Given r x
  unfolding to_scene_result
  given = record { near = near; called = rw (parts.0, parts.1) }

  small : Small3 (2 ^ 40) x.red.0 x.green.0 x.blue.0
  small =
      record {
        red = scene_small x.red.0 near.red_encodes;
        green = scene_small x.green.0 near.green_encodes;
        blue = scene_small x.blue.0 near.blue_encodes;
      }

  -- by graded to scene
  same_setting : setting_of (graded_to_scene.bytes r) ≡ s
  same_setting = setting_read s (fits_setting r b) x.red.0 x.green.0 x.blue.0 small

  same_numbers : (number_in 0 (graded_to_scene.bytes r) ≡ x.red.0) × (number_in 1 (graded_to_scene.bytes r) ≡ x.green.0) × (number_in 2 (graded_to_scene.bytes r) ≡ x.blue.0)
  same_numbers = numbers_read s (fits_setting r b) x.red.0 x.green.0 x.blue.0 small

  pub scenes_written : GivesScenes r (graded_to_scene.bytes r)
  scenes_written =
      let e = same_numbers in
      record { setting = same_setting; given = subst (Given r) (λ i. scenes (sym e.0 i) (sym e.1 i) (sym e.2 i)) given }

  -- by graded to pixel
  abbrev p : Pixel
  p = pixel_nearest decoded (setting_of r) (candidates (setting_of r) (triple_in r))

  code_fits : (z : ℤ) → encoded s z < 65536
  code_fits z = code_small s (encoded_step s z) (encoded_nearest s z).in_range

  fits : FitsPixel p
  fits = record { red = code_fits x.red.0; green = code_fits x.green.0; blue = code_fits x.blue.0 }

  encodes : (z : ℤ) → EncodesBy decoded s z (encoded s z)
  encodes = code_encodes s (aces_valid s parts.0)

  pub pixel_written : GivesPixel r (graded_to_pixel.bytes r)
  pixel_written =
      let e = pixel_read s (fits_setting r b) p fits in
      record {
        scene = x;
        given = given;
        setting = pixel_setting s (fits_setting r b) p fits;
        red = subst (λ (q : Pixel). EncodesBy decoded s x.red.0 q.red.0) (sym e) (encodes x.red.0);
        green = subst (λ (q : Pixel). EncodesBy decoded s x.green.0 q.green.0) (sym e) (encodes x.green.0);
        blue = subst (λ (q : Pixel). EncodesBy decoded s x.blue.0 q.blue.0) (sym e) (encodes x.blue.0);
      }

  -- which is what encoding the scene record gives
  pub scenes_encoded : (record_check scene_to_pixel (graded_to_scene.bytes r) ≡ Ok tt) × (scene_to_pixel.bytes (graded_to_scene.bytes r) ≡ graded_to_pixel.bytes r)
  unfolding channel_checks
  scenes_encoded =
      let e = same_numbers in (
        rw (same_setting, aces_valid s parts.0, e.0, near.red_encodes, e.1, near.green_encodes, e.2, near.blue_encodes),
        rw (same_setting, e.0, e.1, e.2),
      )

-- ---- WHERE THE WAY BACK FINDS A PIXEL the graded road gives it
pub as_way_back : (r : List ℕ) → record_check aces_to_pixel r ≡ Ok tt → (record_check graded_to_pixel r ≡ Ok tt) × (graded_to_pixel.bytes r ≡ aces_to_pixel.bytes r)
unfolding pixel_by
as_way_back r e =
    let s = setting_of r in
    let a = triple_in r in
    let v = both (aces_check s) (found_check (pixel_for exact s a)) e in
    let f = passed_found exact s v.0 (near_enough Exact s v.0) a v.1 in
    (rw v.0 (graded_all a f.0), ap (λ (q : Option Pixel). pixel_record s (pixel_found q)) f.1)
