-- The nearest whole number to a row product over a scale, over naturals.
-- Assumes nothing.
use mathlib.Core.Path.{◌≡◌}
use Prim.Native.Nat.{ℕ, ◌+◌, ◌*◌}
use native.Mathlib.Nat.{mul-one, one-mul, sub-zero}
use lib.IntN.{ℤ, sub_ℕ}
use lib.Signed.{shr_z}
use Rattle.whole.specs.Parts.{up, dn}
use Rattle.rules.specs.Fraction.{integer, whole, ◌/ℚ◌, nearest}

pub nearest_of : (S : ℤ) (s : ℕ) → nearest (integer S /ℚ whole s) ≡ shr_z (sub_ℕ (2 * up S + s) (2 * dn S)) (2 * s)
nearest_of S s = rw (mul-one (up S), mul-one (dn S), one-mul, sub-zero)
