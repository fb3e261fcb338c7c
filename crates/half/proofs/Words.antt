-- The numbers that the code computes: what they are, and that they fit words.
-- Assumes nothing.
use mathlib.Core.Bool.{true, false}
use mathlib.Core.Path.{◌≡◌, ap, ◌∙◌, subst}
use Prim.Native.Nat.{ℕ, zero, suc, ◌+◌, ◌-◌, ◌*◌, ◌%◌, ◌^◌, ◌≤◌, ◌<◌}
use native.Mathlib.Nat.{mod-eq_of_lt, lt_of_lt_of_le}
use native.Mathlib.Omega.{arith}
use borrow.Author.Tests.{ltb-true}
use lib.Dec.{T, lit≤}
use lib.IntN.{ℤ, pos, negsuc, nat_abs, ◌-ℤ◌}
use lib.Pow.{pow_mono}
use lib.Signed.{lt_z}
use mir.Syntax.{w64}
use mir.Val.{SFits}
use Rattle.whole.proofs.Reflect.{at, sub}
use Rattle.whole.proofs.Words.{fits_z}
use Rattle.rules.specs.Half.{size_units, half_size, half_of}
use Rattle.half.proofs.Sizes.{size_below}

-- ---- reading
pub shifted : (e f : ℕ) → 0 < e → e < 32 → f < 1024 → (1024 + f) * 2 ^ (e - 1) % 18446744073709551616 ≡ size_units e f
shifted zero f z h l = absurd (omega arith)
shifted (suc e) f z h l =
    ap (λ (n : ℕ). (1024 + f) * 2 ^ n % 18446744073709551616) (omega arith) ∙ mod-eq_of_lt (lt_of_lt_of_le (size_below (suc e) f h l) (lit≤ tt))

pub minus_fits : (n : ℕ) → n < 2 ^ 41 → SFits w64 (pos 0 -ℤ pos n)
minus_fits n h = fits_z (sub (at (pos 0)) (at (pos n))) (omega arith) (omega arith)

-- ---- writing: 2^k, by a shift
module _ (k : ℕ) (few : k ≤ 29) where
  pub place_most : 2 ^ k ≤ 2 ^ 29
  place_most = pow_mono {i = k} {j = 29} few

  pub place_is : 1 * 2 ^ k % 18446744073709551616 ≡ 2 ^ k
  place_is = omega (arith, place_most)

-- the sign
pub of_minus : (v : ℤ) → lt_z v (pos 0) ≡ true → 2 ^ 15 + half_size (nat_abs v) ≡ half_of v
unfolding half_of
of_minus (pos n) e = absurd (omega (arith, ltb-true n 0 e))
of_minus (negsuc n) e = omega arith

pub of_plus : (v : ℤ) → lt_z v (pos 0) ≡ false → half_size (nat_abs v) ≡ half_of v
unfolding half_of
of_plus (pos n) e = omega arith
of_plus (negsuc n) e = absurd (subst T e tt)
