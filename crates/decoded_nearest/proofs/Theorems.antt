-- For every valid setting and each of its codes: the decoded number is the nearest whole number to the exact value in units, and no
-- other number is. (The rules ask less: `Decodes`.)
-- Assumes nothing.
use Rattle.std.specs.Prelude.{Ok}
use mathlib.Core.Path.{◌≡◌}
use Prim.Native.Nat.{ℕ}
use lib.Dec.{lit<}
use lib.IntN.{ℤ}
use Rattle.whole.proofs.Near.{near_same}
use Rattle.rules.specs.declared.Setting.{Setting}
use Rattle.rules.specs.Setting.{last_of, step_of, curve_of, code_check, Valid}
use Rattle.rules.specs.Exact.{scale_of}
use Rattle.rules.proofs.Codes.{code_passed}
use Rattle.curve_table.specs.Table.{table_of}
use Rattle.decode.specs.Decoded.{decoded}
use Rattle.decode.proofs.Distance.{numbers_near}
use Rattle.decode.proofs.Right.{within}
use Rattle.decode.specs.Gap.{gap_of}
use Rattle.decode.proofs.Settings.{source_of, passed}
use Rattle.decoded_margins.specs.Half.{half}
use Rattle.decoded_margins.proofs.Margins.{room_for_half}
use Rattle.decoded_margins.proofs.Settings.{margins}
use Rattle.decoded_nearest.specs.Nearest.{Nearest, NearestNumbers}

-- THE DECODED NUMBERS are the nearest
pub decoded_nearest : NearestNumbers decoded
decoded_nearest s v n e =
    within (curve_of s) (last_of s) (gap_of s) (table_of s) (source_of s) (passed s v) half.plus half.over (lit< tt)
    (λ i from to. room_for_half (passed s v) (margins s v) i from to)
    (step_of s n)
    (code_passed s n e)

-- and no other number is
pub only_nearest : (s : Setting) → Valid s → (n : ℕ) → code_check s n ≡ Ok tt → (y : ℤ) → Nearest (scale_of s) (step_of s n) y → y ≡ decoded s n
only_nearest s v n e y p =
    near_same (numbers_near half.plus half.over (lit< tt) (passed s v) (step_of s n) y (decoded s n) p (decoded_nearest s v n e))

-- so whoever computes nearest numbers computes these
pub nearest_numbers : (number : Setting → ℕ → ℤ) → NearestNumbers number → (s : Setting) → Valid s → (n : ℕ) → code_check s n ≡ Ok tt → number s n ≡ decoded s n
nearest_numbers number near s v n e = only_nearest s v n e (number s n) (near s v n e)
