-- A scene number with the offset added, as the code computes it: z + 2 ^ 20 as an unsigned word.
-- Assumes nothing.
use mathlib.Core.Bool.{Bool, true, false, not}
use mathlib.Core.Path.{◌≡◌, sym, ap, subst, ◌∙◌}
use Prim.Native.Nat.{◌+◌, ◌-◌, ◌^◌, ◌≤◌, ◌<◌}
use native.Mathlib.Omega.{arith}
use lib.Dec.{T}
use lib.IntN.{ℤ, pos, negsuc, nat_abs, ◌+ℤ◌}
use lib.Signed.{non_neg, lt_z, lt_z_yes, lt_z_no}
use mir.Syntax.{w64}
use mir.Val.{Fits, SFits}
use Rattle.whole.specs.Parts.{up, dn}
use Rattle.whole.proofs.Reflect.{abs_is, at, add, dif, one_zero, le_n-of, lt_n-of}
use Rattle.whole.proofs.Words.{fits_z, read_back, read_back_lem}
use Rattle.decode.specs.Decoded.{offset}

not_negative : (z : ℤ) → dn z ≡ 0 → T (non_neg z)
not_negative (pos n) e = tt
not_negative (negsuc n) e = absurd (omega arith)

-- ---- the test for a number below all that have the offset
pub under : (x : ℤ) → lt_z x (negsuc (offset - 1)) ≡ true → up x + offset ≤ dn x
under x e = omega (arith, lt_n-of (at x) (at (negsuc (offset - 1))) (lt_z_yes (subst T (sym e) tt)))

pub not_under : (x : ℤ) → lt_z x (negsuc (offset - 1)) ≡ false → dn x ≤ up x + offset
not_under x e = omega (arith, le_n-of (at (negsuc (offset - 1))) (at x) (lt_z_no (subst (λ (b : Bool). T (not b)) (sym e) tt)))

-- ---- the sum
module _ (x : ℤ) (word : SFits w64 x) (low : dn x ≤ up x + offset) (high : up x ≤ 2 ^ 40) where
  abbrev sum : ℤ
  sum = x +ℤ pos offset

  sum_fits : SFits w64 sum
  sum_fits = fits_z (add (at x) (at (pos offset))) (omega arith) (omega arith)

  pub add_fits : SFits w64 (read_back x +ℤ pos offset)
  add_fits = rw (read_back_lem word) sum_fits

  sum_is : read_back (read_back x +ℤ pos offset) ≡ sum
  sum_is = ap (λ (z : ℤ). read_back (z +ℤ pos offset)) (read_back_lem word) ∙ read_back_lem sum_fits

  magnitude : up x + offset ≡ nat_abs sum + dn x
  magnitude = omega (arith, abs_is sum, dif (add (at x) (at (pos offset))), one_zero sum)

  pub shifted : up x + offset ≡ nat_abs (read_back (read_back x +ℤ pos offset)) + dn x
  shifted = rw sum_is magnitude

  pub cast_fits : T (non_neg (read_back (read_back x +ℤ pos offset))) × Fits w64 (nat_abs (read_back (read_back x +ℤ pos offset)))
  cast_fits = rw sum_is (not_negative sum (omega (arith, dif (add (at x) (at (pos offset))), one_zero sum)), record { fits = omega (arith, magnitude) })

  pub small : nat_abs (read_back (read_back x +ℤ pos offset)) < 2 ^ 62
  small = rw sum_is (omega (arith, magnitude))
