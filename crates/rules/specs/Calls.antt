-- 01, "Refused, by the place of the check" and "Float pixels and the lister", and 02, items 7 and 8: what the calls on one code, number, pixel or record
-- give: values, or the refusal of the first check that fails. The numbers of the codes are a parameter, and so is the scene triple of graded numbers.
-- Assumes nothing.
use Rattle.std.specs.Prelude.{List, [], ◌∷◌, ◌≡◌, ℕ, Float, ℤ}
use Rattle.rules.specs.Refusal.{Check, then}
use Rattle.rules.specs.declared.Setting.{Setting}
use Rattle.rules.specs.Triples.{Pixel}
use Rattle.rules.specs.Triples.{Scenes}
use Rattle.rules.specs.Triples.{Triple}
use Rattle.rules.specs.Result.{Result, single}
use Rattle.rules.specs.Setting.{last_of, code_at, setting_check, aces_check, code_check}
use Rattle.rules.specs.Exact.{scale_of}
use Rattle.rules.specs.Encoding.{IsNearest, TwoThirds, number_at, code_by, scene_check}
use Rattle.rules.specs.Float.{float_of, float_check, units_of, IsFloat}
use Rattle.rules.specs.Pixels.{codes_check}
use Rattle.rules.specs.WayBack.{pixel_by, codes_found, found_check}
use Rattle.rules.specs.Graded.{graded_checks, GradedWithin, scene_numbers}

-- "red, green and blue (each channel's checks before the next channel)", of floats
abbrev pub floats_check : (x y z : Float) → Check
floats_check x y z = then (float_check x) (then (float_check y) (float_check z))

module _ (number : Setting → ℕ → ℤ) (s : Setting) where
  -- decoding one code: 3, 4, 5, then 13, 11 and 6
  abbrev pub decode_by : ℕ → Result ℤ
  decode_by n = single (then (setting_check s) (code_check s n)) (number s n ∷ [])

  -- encoding one scene number: 3, 4, 5, then 7
  abbrev pub encode_by : ℤ → Result ℕ
  encode_by x = single (then (setting_check s) (scene_check x)) (code_by number s x ∷ [])

  -- what 01 asks of the code of a scene number: it is the nearest, and where it is not clipped within two thirds of a code of the exact
  -- curve
  pub record EncodesBy (x : ℤ) (n : ℕ) : Type 0 where
    pub step : ℕ
    pub code : n ≡ code_at s step
    pub nearest : IsNearest (number_at number s) (last_of s) x step
    pub two_thirds : TwoThirds (scale_of s) x step

  -- the way back over one record, of numbers at most e from a pixel's: 3, 4, 5, 12, then 10
  abbrev pub way_back_by : (e : ℕ) → Triple → Result ℕ
  way_back_by e a = single (then (aces_check s) (found_check (pixel_by e number s a))) (codes_found (pixel_by e number s a))

  -- "Decoding one pixel answers either that float pixel or a refusal number": 3, 4, 5, then 13, 11 and 6 for red, green and blue
  abbrev pub decode_floats_by : Pixel → Result Float
  decode_floats_by p =
      single (then (setting_check s) (codes_check s p)) (float_of (number s p.red.0) ∷ float_of (number s p.green.0) ∷ float_of (number s p.blue.0) ∷ [])

  -- each float that is given is the channel's scene number, exactly
  pub data ExactBy (p : Pixel) : List Float → Type 0 where
    three : {x y z : Float} → IsFloat (number s p.red.0) x → IsFloat (number s p.green.0) y → IsFloat (number s p.blue.0) z → ExactBy p (x ∷ y ∷ z ∷ [])
    none : ExactBy p []

  -- "In the other direction a float is .. taken to the nearest unit (a half going up), then encoded.": 3, 4, 5, then 8 and 9 of each channel
  abbrev pub encode_floats_by : (x y z : Float) → Result ℕ
  encode_floats_by x y z =
      single (then (setting_check s) (floats_check x y z)) (code_by number s (units_of x) ∷ code_by number s (units_of y) ∷ code_by number s (units_of z) ∷ [])

-- 02, item 7: "a call on one record gives the triple", where a setting and a graded triple have this one: 3, 4, 5, 12, then 14
abbrev pub graded_by : (scenesFor : Setting → Triple → Scenes) → Setting → Triple → Result ℤ
graded_by scenesFor s a = single (then (aces_check s) (graded_checks a)) (scene_numbers (scenesFor s a))

-- the numbers that are given are a triple that can be encoded, and whose ACES triple is at most e units from the given one in each channel
pub data GivesGraded (e : ℕ) (s : Setting) (a : Triple) : List ℤ → Type 0 where
  three : (x : Scenes) → GradedWithin e s a x → GivesGraded e s a (scene_numbers x)
  none : GivesGraded e s a []
