-- A sum and a carry fit a word, and a carry is small.
-- Assumes nothing.
use mathlib.Core.Path.{◌≡◌}
use Prim.Native.Nat.{ℕ, ◌+◌, ◌*◌, ◌^◌, ◌<◌, ◌≤◌}
use native.Mathlib.Nat.{mul-le-mul_left}
use native.Mathlib.Omega.{arith}
use lib.IntN.{ℤ, pos, negsuc, nat_abs, ◌+ℤ◌}
use lib.Signed.{shr_z}
use mir.Syntax.{w64}
use mir.Val.{SFits}
use Rattle.whole.specs.Parts.{up, dn}
use Rattle.whole.proofs.Reflect.{at, add, mul, dif, eq_n, abs_is, one_zero}
use Rattle.whole.proofs.Floor.{mod_z, mod_z-lt, floor_mod}
use Rattle.whole.proofs.Words.{fits_z}
use Rattle.row_product.specs.Row.{Sum}

pub more_fits : (p c : ℤ) → Sum p → nat_abs c ≤ 1000000000000000000 → SFits w64 (p +ℤ c)
more_fits p c s h = fits_z (add (at p) (at c)) (omega (arith, s.small, abs_is p, abs_is c)) (omega (arith, s.small, abs_is p, abs_is c))

pub more_small : (p c : ℤ) → Sum p → nat_abs c ≤ 9000000000001 → nat_abs (p +ℤ c) ≤ 1760000000000000000
more_small p c s h = omega (arith, s.small, abs_is p, abs_is c, abs_is (p +ℤ c), one_zero (p +ℤ c), dif (add (at p) (at c)))

pub halved_small : (p c : ℤ) (k : ℕ) → Sum p → nat_abs c ≤ 9000000000001 → k ≤ 500000 → nat_abs (p +ℤ c +ℤ pos k) ≤ 2 * 10 ^ 18
halved_small p c k s h l = omega (arith, s.small, abs_is p, abs_is c, abs_is (p +ℤ c +ℤ pos k), one_zero (p +ℤ c +ℤ pos k), dif (add (add (at p) (at c)) (at (pos k))))

pub carried_fits : (p c : ℤ) (k : ℕ) → Sum p → nat_abs c ≤ 9000000000001 → k ≤ 500000 → SFits w64 (p +ℤ c +ℤ pos k)
carried_fits p c k s h l =
    fits_z (add (add (at p) (at c)) (at (pos k))) (omega (arith, s.small, abs_is p, abs_is c)) (omega (arith, s.small, abs_is p, abs_is c))

-- a quotient by 10 ^ 6 or more is small
pub quotient_small : (z : ℤ) (b : ℕ) → 1000000 ≤ b → nat_abs z ≤ 1760000000000000000 → nat_abs (shr_z z b) ≤ 9000000000001
quotient_small z b h l =
    bounded (shr_z z b) (omega (arith, eq_n (add (mul (at (shr_z z b)) (at (pos b))) (at (pos (mod_z z b)))) (at z) (floor_mod z b (omega arith)))) (mod_z-lt z b (omega arith))
  where
    bounded : (q : ℤ) → up q * b + mod_z z b + dn z ≡ up z + dn q * b → mod_z z b < b → nat_abs q ≤ 9000000000001
    bounded (pos k) e r = omega (arith, abs_is z, mul-le-mul_left k h)
    bounded (negsuc k) e r = omega (arith, abs_is z, mul-le-mul_left k h)
