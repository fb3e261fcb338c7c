-- How far apart two numbers are, and which of them is the less.
-- Assumes nothing.
use mathlib.Core.Bool.{Bool, true, false, not}
use mathlib.Core.Logic.{◌⊎◌, inl, inr}
use mathlib.Core.Path.{◌≡◌, refl, sym}
use Prim.Native.Nat.{ℕ, zero, suc, ◌+◌, ◌-◌, ◌≤◌, ◌<◌}
use native.Mathlib.Nat.{eq-or-lt_of_le}
use native.Mathlib.Omega.{arith}
use lib.Dec.{T, ltb, ltb→lt, nltb→le}
use lib.IntN.{ℤ, pos, negsuc, nat_abs, ◌-ℤ◌}
use Rattle.whole.specs.Parts.{minus}
use Rattle.whole.proofs.Reflect.{Ex, at, sub, val, hi, lo, dif, abs_is, one_zero, same}

-- of two naturals the first is less, or not
pub less_or_not : (a b : ℕ) → (a < b) ⊎ (b ≤ a)
less_or_not a b = go (ltb a b) (ltb→lt a b) (nltb→le a b)
  where
    go : (t : Bool) → (T t → a < b) → (T (not t) → b ≤ a) → (a < b) ⊎ (b ≤ a)
    go true f g = inl (f tt)
    go false f g = inr (g tt)

pub three_ways : (a b : ℕ) → (a < b) ⊎ ((a ≡ b) ⊎ (b < a))
three_ways a b = elim (less_or_not a b) [ inl l ↦ inl l | inr h ↦ inr (elim (eq-or-lt_of_le h) [ inl e ↦ inl (sym e) | inr l ↦ inr l ]) ]

-- how far apart they are
abbrev pub apart : ℕ → ℕ → ℕ
apart a b = (a - b) + (b - a)

-- and of two integers: of an expression, which is a difference of naturals
pub abs_apart : (e : Ex) → nat_abs (val e) ≡ apart (hi e) (lo e)
abs_apart e = omega (arith, abs_is (val e), dif e, one_zero (val e))

pub not_apart : (v w : ℤ) → nat_abs (v -ℤ w) ≡ 0 → v ≡ w
not_apart v w e = same v w (omega (arith, abs_apart (sub (at v) (at w))))

pub from_itself : (v : ℤ) → nat_abs (v -ℤ v) ≡ 0
from_itself v = omega (arith, abs_apart (sub (at v) (at v)))

-- minus n is 0 less n
pub minus_is : (n : ℕ) → minus n ≡ pos 0 -ℤ pos n
minus_is zero = refl
minus_is (suc n) = same (negsuc n) (pos 0 -ℤ pos (suc n)) (omega (arith, dif (sub (at (pos 0)) (at (pos (suc n))))))
