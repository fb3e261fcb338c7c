-- What three codes that pass their checks are.
-- Assumes nothing.
use Rattle.std.specs.Prelude.{Ok}
use mathlib.Core.Path.{◌≡◌}
use Prim.Native.Nat.{ℕ, ◌^◌, ◌≤◌}
use native.Mathlib.Nat.{le_trans}
use lib.Dec.{lit≤}
use lib.IntN.{nat_abs}
use Rattle.rules.specs.Triples.{Pixel}
use Rattle.rules.specs.declared.Setting.{Setting}
use Rattle.rules.specs.Refusal.{then}
use Rattle.rules.specs.Setting.{code_check, Valid}
use Rattle.rules.proofs.Settings.{both}
use Rattle.decode.specs.Decoded.{decoded}
use Rattle.decode.proofs.Distance.{decoded_small}
use Rattle.rules.specs.Pixels.{IsPixel, codes_check}

pub is_pixel : (s : Setting) (p : Pixel) → codes_check s p ≡ Ok tt → IsPixel s p
is_pixel s p e =
    let r = both (code_check s p.red.0) (then (code_check s p.green.0) (code_check s p.blue.0)) e in
    let g = both (code_check s p.green.0) (code_check s p.blue.0) r.1 in
    record { red = r.0; green = g.0; blue = g.1 }

-- a decoded number may be a float
pub decoded_fits : (s : Setting) → Valid s → (n : ℕ) → code_check s n ≡ Ok tt → nat_abs (decoded s n) ≤ 2 ^ 40
decoded_fits s v n e = le_trans (decoded_small s v n e) (lit≤ tt)
