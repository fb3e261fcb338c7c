-- A quotient that is computed in two steps, and one of two multiples.
-- Assumes nothing.
use mathlib.Core.Path.{◌≡◌, sym, ap, ◌∙◌}
use Prim.Native.Nat.{ℕ, suc, ◌+◌, ◌*◌, ◌/◌, ◌%◌, ◌^◌, ◌≤◌, ◌<◌}
use native.Mathlib.Nat.{div-add-mod, div-lt_iff_lt-mul, mod-lt, mul-add-div, le_antisymm, le_of_suc-le-suc, mul-pos, mul-lt-mul_of_pos_right, lt_of_mul-lt-mul_right, mul-le-mul_right, div-mul-le_self, lt-div-mul-add}
use native.Mathlib.Omega.{arith}

pub two_steps : (h m over : ℕ) → 0 < over → m * h / over ≡ h / over * m + h % over * m / over
two_steps h m over p =
    ap (λ (n : ℕ). n / over) (parts (h / over) (h % over) (div-add-mod h over)) ∙ mul-add-div p (h / over * m) (h % over * m)
  where
    parts : (q r : ℕ) → over * q + r ≡ h → m * h ≡ over * (q * m) + r * m
    parts q r e = rw (sym e) (omega arith)

-- what is at most a sixteenth
module _ (part over : ℕ) (p : 0 < over) (h : 16 * part ≤ over) where
  pub high_small : 2 ^ 40 * part / over ≤ 2 ^ 36
  high_small = let l : 2 ^ 40 * part / over < 2 ^ 36 + 1 = (div-lt_iff_lt-mul p).1 (omega arith) in omega arith

  pub quotient_small : 2 ^ 51 * part / over ≤ 2 ^ 47
  quotient_small = let l : 2 ^ 51 * part / over < 2 ^ 47 + 1 = (div-lt_iff_lt-mul p).1 (omega arith) in omega arith

-- the second step's number
pub rest_small : (x over : ℕ) → 0 < over → over < 2 ^ 29 → x % over * 2048 < 2 ^ 40
rest_small x over p h = omega (arith, mod-lt x p)

-- a factor of both
pub scaled_quotient : (m x over : ℕ) → 0 < m → 0 < over → m * x / (m * over) ≡ x / over
scaled_quotient m x over pm p = le_antisymm (le_of_suc-le-suc low) (le_of_suc-le-suc (lt_of_mul-lt-mul_right (m * over) high))
  where
    low : m * x / (m * over) < suc (x / over)
    low = (div-lt_iff_lt-mul (mul-pos pm p)).1 (more (x / over) (mul-lt-mul_of_pos_right {k = m} (lt-div-mul-add {a = x} {b = over} p) pm))
      where
        more : (q : ℕ) → x * m < (q * over + over) * m → m * x < suc q * (m * over)
        more q h = omega arith

    high : x / over * (m * over) < suc (m * x / (m * over)) * (m * over)
    high = less (x / over) (m * x / (m * over)) (mul-le-mul_right m (div-mul-le_self x over)) (lt-div-mul-add {a = m * x} {b = m * over} (mul-pos pm p))
      where
        less : (q r : ℕ) → q * over * m ≤ x * m → m * x < r * (m * over) + m * over → q * (m * over) < suc r * (m * over)
        less q r h g = omega arith
