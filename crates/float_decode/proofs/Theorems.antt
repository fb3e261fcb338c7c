-- DECODED FLOAT PIXELS, for every setting and pixel.
-- Assumes nothing.
use Rattle.std.specs.Prelude.{Err, Ok}
use mathlib.Core.Path.{◌≡◌, refl, sym, subst}
use lib.Ieee.{Float}
use Prim.Native.Nat.{ℕ}
use Rattle.rules.specs.Calls.{ExactBy}
use Rattle.rules.specs.Refusal.{Check, then}
use Rattle.rules.specs.Triples.{Pixel}
use Rattle.rules.specs.declared.Setting.{Setting}
use Rattle.rules.specs.Result.{Result, done, single}
use Rattle.rules.specs.Setting.{setting_check, code_check, Valid}
use Rattle.rules.specs.Float.{IsFloat, float_of}
use Rattle.rules.proofs.Settings.{both}
use Rattle.decode.specs.Decoded.{decoded}
use Rattle.float_unit.proofs.Scaled.{float_exact}
use Rattle.float_decode.specs.Answer.{float_pixel, floats, decode_pixel_result, Exact}
use Rattle.float_decode.proofs.Channels.{is_pixel, decoded_fits}
use Rattle.rules.specs.Pixels.{IsPixel, codes_check}

-- "A scene number v is the float v / 16,777,216, exactly; zero gives plus zero": of every code of a valid setting
pub decoded_exact : (s : Setting) → Valid s → (n : ℕ) → code_check s n ≡ Ok tt → IsFloat (decoded s n) (float_of (decoded s n))
decoded_exact s v n e = float_exact (decoded s n) (decoded_fits s v n e)

-- so of every answer
pub result_exact : (s : Setting) (p : Pixel) → Exact s p (decode_pixel_result s p).values
unfolding decode_pixel_result
result_exact s p = go (then (setting_check s) (codes_check s p)) refl
  where
    go : (c : Check) → then (setting_check s) (codes_check s p) ≡ c → Exact s p (single c (floats (float_pixel s p))).values
    go (Ok tt) e =
        let b = both (setting_check s) (codes_check s p) e in
        let i = is_pixel s p b.1 in
        ExactBy.three (decoded_exact s b.0 p.red.0 i.red) (decoded_exact s b.0 p.green.0 i.green) (decoded_exact s b.0 p.blue.0 i.blue)
    go (Err r) e = ExactBy.none

-- and of an answer of any form, which is said by its result
pub answer_exact : (s : Setting) (p : Pixel) (r : Result Float) → r ≡ decode_pixel_result s p → Exact s p r.values
answer_exact s p r e = subst (λ (x : Result Float). Exact s p x.values) (sym e) (result_exact s p)

-- a pixel of a valid setting is decoded to the floats of its numbers
pub pixel_decodes : (s : Setting) → Valid s → (p : Pixel) → IsPixel s p → decode_pixel_result s p ≡ done (floats (float_pixel s p))
unfolding decode_pixel_result
pixel_decodes s v p i = rw (v, i.red, i.green, i.blue)
