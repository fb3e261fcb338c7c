-- The nearest whole number, by its two bounds.
-- Assumes nothing.
use mathlib.Core.Path.{◌≡◌, refl, ap}
use Prim.Native.Nat.{ℕ, ◌+◌, ◌*◌, ◌≤◌, ◌<◌}
use native.Mathlib.Nat.{mul-le-mul_right, le_of_mul-le-mul_right, mul-lt-mul_of_pos_right, lt_of_mul-lt-mul_right}
use native.Mathlib.Omega.{arith}
use lib.IntN.{ℤ}
use Rattle.whole.specs.Parts.{up, dn}
use Rattle.whole.proofs.Floor.{floor_only, half_bounds}
use Rattle.rules.specs.Fraction.{Fraction, ratio, integer, ◌+ℚ◌, ◌-ℚ◌, Versus, nearest, Less, AtMost}

-- y, which is u - o, is at most x + 1/2, and y + 1 is above that
pub nearest_is : (x : Fraction) (y : ℤ) (u o : ℕ) → up y + o ≡ u + dn y
    → u * (2 * x.over) + 2 * x.minus ≤ 2 * x.plus + x.over + o * (2 * x.over)
    → 2 * x.plus + x.over + o * (2 * x.over) < u * (2 * x.over) + 2 * x.over + 2 * x.minus
    → nearest x ≡ y
nearest_is x y u o e l h =
    floor_only (2 * x.plus + x.over) (2 * x.minus) (2 * x.over) y
    (omega (arith, ap (λ (w : ℕ). w * (2 * x.over)) e))
    (omega (arith, ap (λ (w : ℕ). w * (2 * x.over)) e))

-- the nearest whole number depends on the value alone: p - m over o and p' - m' over o' are equal
module _ (p m o p' m' o' u d : ℕ) (pos : 0 < o) (pos' : 0 < o') (e : p * o' + m' * o ≡ p' * o + m * o') where
  low : u * (2 * o') + 2 * m' ≤ 2 * p' + o' + d * (2 * o') → u * (2 * o) + 2 * m ≤ 2 * p + o + d * (2 * o)
  low h =
      let w : (u * (2 * o') + 2 * m') * o ≤ (2 * p' + o' + d * (2 * o')) * o = mul-le-mul_right o h in
      le_of_mul-le-mul_right (omega arith) pos'

  high : 2 * p' + o' + d * (2 * o') < u * (2 * o') + 2 * o' + 2 * m' → 2 * p + o + d * (2 * o) < u * (2 * o) + 2 * o + 2 * m
  high h =
      let w : (2 * p' + o' + d * (2 * o')) * o < (u * (2 * o') + 2 * o' + 2 * m') * o = mul-lt-mul_of_pos_right h pos in
      lt_of_mul-lt-mul_right o' (omega arith)

pub nearest_same : (x y : Fraction) → 0 < x.over → 0 < y.over → Versus (λ m n. m ≡ n) x y → nearest x ≡ nearest y
nearest_same x y px py e =
    let z = nearest y in
    let b = half_bounds y.plus y.minus y.over py z refl in
    nearest_is x z (up z) (dn z) refl
    (low x.plus x.minus x.over y.plus y.minus y.over (up z) (dn z) px py e b.0)
    (high x.plus x.minus x.over y.plus y.minus y.over (up z) (dn z) px py e b.1)

-- it is at most a half above x, and less than a half below: a half goes up
pub nearest_half : (x : Fraction) → 0 < x.over → Versus AtMost (integer (nearest x) -ℚ ratio 1 2) x × Versus Less x (integer (nearest x) +ℚ ratio 1 2)
nearest_half x p = let b = half_bounds x.plus x.minus x.over p (nearest x) refl in (omega arith, omega arith)
