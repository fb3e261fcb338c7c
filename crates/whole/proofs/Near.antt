-- Two integers at most b apart.
-- Assumes nothing.
use mathlib.Core.Logic.{◌⊎◌, inl, inr}
use mathlib.Core.Path.{◌≡◌, subst}
use Prim.Native.Nat.{ℕ, suc, ◌+◌, ◌*◌, ◌≤◌, ◌<◌}
use native.Mathlib.Nat.{mul-le-mul_left, lt_of_mul-lt-mul_left}
use native.Mathlib.Omega.{arith}
use lib.Dec.{T, leb, leb→le}
use lib.IntN.{ℤ, pos, negsuc, nat_abs, ◌+ℤ◌, ◌-ℤ◌, ◌*ℤ◌}
use Rattle.whole.specs.Parts.{up, dn}
use Rattle.whole.proofs.Apart.{less_or_not}
use Rattle.whole.proofs.Reflect.{Ex, val, hi, lo, at, add, sub, mul, dif, abs_is, one_zero, same}

pub record Near (x y : ℤ) (b : ℕ) : Type 0 where
  pub high : up x + dn y ≤ up y + dn x + b
  pub low : up y + dn x ≤ up x + dn y + b

-- of two expressions over integers
pub near_of : (e f : Ex) (b : ℕ) → hi e + lo f ≤ hi f + lo e + b → hi f + lo e ≤ hi e + lo f + b → Near (val e) (val f) b
near_of e f b h l = record { high = omega (arith, dif e, dif f); low = omega (arith, dif e, dif f) }

pub of_near : (e f : Ex) {b : ℕ} → Near (val e) (val f) b → (hi e + lo f ≤ hi f + lo e + b) × (hi f + lo e ≤ hi e + lo f + b)
of_near e f n = (omega (arith, dif e, dif f, n.high), omega (arith, dif e, dif f, n.low))

pub near_swap : {x y : ℤ} {b : ℕ} → Near x y b → Near y x b
near_swap n = record { high = n.low; low = n.high }

pub near_join : {x y z : ℤ} {b c : ℕ} → Near x y b → Near y z c → Near x z (b + c)
near_join m n = record { high = omega (arith, m.high, n.high); low = omega (arith, m.low, n.low) }

pub near_more : {x y : ℤ} {b c : ℕ} → b ≤ c → Near x y b → Near x y c
near_more h n = record { high = omega (arith, n.high); low = omega (arith, n.low) }

pub near_same : {x y : ℤ} → Near x y 0 → x ≡ y
near_same {x} {y} n = same x y (omega (arith, n.high, n.low))

pub same_near : {x y : ℤ} → x ≡ y → Near x y 0
same_near {x} e = subst (λ (y : ℤ). Near x y 0) e (record { high = omega arith; low = omega arith })

pub near_add : {x y z w : ℤ} {b c : ℕ} → Near x y b → Near z w c → Near (x +ℤ z) (y +ℤ w) (b + c)
near_add {x} {y} {z} {w} {b} {c} m n =
    near_of (add (at x) (at z)) (add (at y) (at w)) (b + c) (omega (arith, m.high, n.high)) (omega (arith, m.low, n.low))

-- a factor multiplies the distance
pub near_mul : (k : ℤ) {x y : ℤ} {b : ℕ} → Near x y b → Near (k *ℤ x) (k *ℤ y) (nat_abs k * b)
near_mul (pos k) {x} {y} {b} n =
    near_of (mul (at (pos k)) (at x)) (mul (at (pos k)) (at y)) (k * b) (omega (arith, mul-le-mul_left k n.high)) (omega (arith, mul-le-mul_left k n.low))
near_mul (negsuc k) {x} {y} {b} n =
    near_of (mul (at (negsuc k)) (at x)) (mul (at (negsuc k)) (at y)) (suc k * b)
    (omega (arith, mul-le-mul_left (suc k) n.low))
    (omega (arith, mul-le-mul_left (suc k) n.high))

-- and is taken out again, with what is less than the factor lost
pub near_cancel : (k : ℕ) {x y : ℤ} {b c : ℕ} → Near (pos k *ℤ x) (pos k *ℤ y) b → b < k * suc c → Near x y c
near_cancel k {x} {y} {b} {c} n h =
    let p = of_near (mul (at (pos k)) (at x)) (mul (at (pos k)) (at y)) n in
    record { high = by k _ _ (omega arith); low = by k _ _ (omega arith) }
  where
    by : (k i j : ℕ) → k * i < k * suc j → i ≤ j
    by k i j h = omega (arith, lt_of_mul-lt-mul_left k h)

-- near 0
pub abs_near : {z : ℤ} {b : ℕ} → nat_abs z ≤ b → Near z (pos 0) b
abs_near {z} h = record { high = omega (arith, abs_is z); low = omega (arith, abs_is z) }

pub near_abs : {z : ℤ} {b : ℕ} → Near z (pos 0) b → nat_abs z ≤ b
near_abs {z} n = omega (arith, abs_is z, one_zero z, n.high, n.low)

-- by the size of their difference, which a test computes
pub abs_dif : {x y : ℤ} {b : ℕ} → nat_abs (x -ℤ y) ≤ b → Near x y b
abs_dif {x} {y} h =
    record {
      high = omega (arith, dif (sub (at x) (at y)), abs_is (x -ℤ y));
      low = omega (arith, dif (sub (at x) (at y)), abs_is (x -ℤ y));
    }

pub near_test : (x y : ℤ) (b : ℕ) → T (leb (nat_abs (x -ℤ y)) b) → Near x y b
near_test x y b t = abs_dif (leb→le (nat_abs (x -ℤ y)) b t)

-- they are at most b apart, or farther, and not both
pub near_or_far : (x y : ℤ) (b : ℕ) → Near x y b ⊎ (b < nat_abs (x -ℤ y))
near_or_far x y b = elim (less_or_not b (nat_abs (x -ℤ y))) [ inl l ↦ inr l | inr h ↦ inl (abs_dif h) ]

pub near_not_far : {x y : ℤ} {b : ℕ} → Near x y b → b < nat_abs (x -ℤ y) → ⊥
near_not_far {x} {y} n h = omega (arith, dif (sub (at x) (at y)), abs_is (x -ℤ y), one_zero (x -ℤ y), n.high, n.low)
