-- ENCODED FLOAT PIXELS, for every setting and float pixel.
-- Assumes nothing.
use Rattle.std.specs.Prelude.{Ok}
use mathlib.Core.List.{List, [], ◌∷◌}
use mathlib.Core.Path.{◌≡◌, sym, ap, ◌∙◌}
use Prim.Native.Nat.{ℕ, zero, suc}
use lib.Ieee.{Float}
use Rattle.rules.specs.Refusal.{Check, then}
use Rattle.rules.specs.Triples.{Pixel}
use Rattle.rules.specs.declared.Setting.{Setting}
use Rattle.rules.specs.Result.{Result, done, single}
use Rattle.rules.specs.Setting.{setting_check, code_check, Valid}
use Rattle.rules.specs.Float.{float_check, units_of, float_of}
use Rattle.rules.proofs.Results.{zero_passed}
use Rattle.rules.proofs.Settings.{both}
use Rattle.decode.specs.Decoded.{decoded}
use Rattle.encode.specs.Encoded.{encoded}
use Rattle.encode.proofs.Theorems.{encode_decoded}
use Rattle.float_unit.specs.Reading.{read_answer}
use Rattle.float_unit.proofs.Readings.{check_is, scene_is}
use Rattle.float_unit.proofs.Theorems.{own_reading}
use Rattle.float_decode.specs.Answer.{FloatPixel, float_pixel, floats, decode_pixel_result}
use Rattle.float_decode.proofs.Channels.{is_pixel, decoded_fits}
use Rattle.float_encode.specs.Answer.{encode_pixel_result}
use Rattle.rules.specs.Pixels.{IsPixel, pixel, codes, codes_check}

-- the float of a code's number passes the checks, and encodes to that code
module _ (s : Setting) (v : Valid s) (n : ℕ) (h : code_check s n ≡ Ok tt) where
  own : read_answer (float_of (decoded s n)) ≡ Ok (record { 0 = decoded s n })
  own = own_reading (decoded s n) (decoded_fits s v n h)

  own_passes : float_check (float_of (decoded s n)) ≡ Ok tt
  own_passes = check_is (float_of (decoded s n)) (Ok (record { 0 = decoded s n })) own

  own_code : encoded s (units_of (float_of (decoded s n))) ≡ n
  own_code = ap (encoded s) (scene_is (float_of (decoded s n)) (record { 0 = decoded s n }) own) ∙ encode_decoded s v n h

-- the floats of a pixel of a valid setting encode to it
pub floats_encode : (s : Setting) → Valid s → (p : Pixel) → IsPixel s p → encode_pixel_result s (float_pixel s p) ≡ done (codes p)
unfolding encode_pixel_result
floats_encode s v p i =
    rw (v, own_passes s v p.red.0 i.red, own_passes s v p.green.0 i.green, own_passes s v p.blue.0 i.blue)
    (λ j. done (codes (pixel (own_code s v p.red.0 i.red j) (own_code s v p.green.0 i.green j) (own_code s v p.blue.0 i.blue j))))

-- the float pixel of a list of three values
abbrev channel : FloatPixel → ℕ → List Float → Float
channel f i [] = f.red
channel f zero (x ∷ xs) = x
channel f (suc i) (x ∷ xs) = channel f i xs

-- A FLOAT PIXEL THAT WAS DECODED ENCODES TO THE PIXEL IT CAME FROM
pub decoded_encodes : (s : Setting) (p : Pixel) (f : FloatPixel) → decode_pixel_result s p ≡ done (floats f) → encode_pixel_result s f ≡ done (codes p)
unfolding decode_pixel_result
decoded_encodes s p f e = ap (encode_pixel_result s) (sym same) ∙ floats_encode s b.0 p (is_pixel s p b.1)
  where
    passed : then (setting_check s) (codes_check s p) ≡ Ok tt
    passed = zero_passed (then (setting_check s) (codes_check s p)) (floats (float_pixel s p)) (ap (λ (r : Result Float). r.number) e)

    b : (setting_check s ≡ Ok tt) × (codes_check s p ≡ Ok tt)
    b = both (setting_check s) (codes_check s p) passed

    given : done (floats (float_pixel s p)) ≡ done (floats f)
    given = ap (λ (x : Check). single x (floats (float_pixel s p))) (sym passed) ∙ e

    one : (i : ℕ) → channel f i (floats (float_pixel s p)) ≡ channel f i (floats f)
    one i = ap (λ (r : Result Float). channel f i r.values) given

    same : float_pixel s p ≡ f
    same = λ j. record { red = one 0 j; green = one 1 j; blue = one 2 j }
