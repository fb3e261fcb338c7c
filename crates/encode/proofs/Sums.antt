-- Sums and products of whole numbers, all of them variables: half way between the numbers of two neighbouring codes against a bound.
-- Assumes nothing.
use mathlib.Core.Path.{◌≡◌, ap, ◌∙◌}
use Prim.Native.Nat.{ℕ, ◌+◌, ◌-◌, ◌*◌, ◌≤◌, ◌<◌}
use native.Mathlib.Nat.{mul_comm, mul-sub, mul-le-mul_left, mul-le-mul_right}
use native.Mathlib.Omega.{arith}

-- ---- a difference that stops at 0
cut_le : (A B C w : ℕ) → A * w ≤ B * w + C → (A - B) * w ≤ C
cut_le A B C w h = omega (arith, mul_comm (A - B) w ∙ mul-sub w A B)

cut_ge : (A B C w : ℕ) → C + B * w ≤ A * w → C ≤ (A - B) * w
cut_ge A B C w h = omega (arith, mul_comm (A - B) w ∙ mul-sub w A B)

-- ---- p - m is at most half of A - 2 * o, and that at most a bound N / W (where Y and Z are added and taken off); and at least
pub half_le : (κ W Y Z N A o p m : ℕ) → A * (κ * W) + 2 * (Y * W) ≤ 2 * (κ * N) + (2 * o * (κ * W) + 2 * (Z * W)) → 2 * (p + o) ≤ A + 2 * m
    → (p * κ + Y - (m * κ + Z)) * W ≤ κ * N
half_le κ W Y Z N A o p m t h = cut_le (p * κ + Y) (m * κ + Z) (κ * N) W (omega (arith, mul-le-mul_right (κ * W) h))

pub half_ge : (κ W Y Z N A o p m : ℕ) → 2 * (κ * N) + (2 * o * (κ * W) + 2 * (Z * W)) ≤ A * (κ * W) + 2 * (Y * W) → A + 2 * m ≤ 2 * (p + o)
    → κ * N ≤ (p * κ + Y - (m * κ + Z)) * W
half_ge κ W Y Z N A o p m t h = cut_ge (p * κ + Y) (m * κ + Z) (κ * N) W (omega (arith, mul-le-mul_right (κ * W) h))

-- the same against P / D - M / D, at z a unit
pub half_toe_le : (D M P z A o p m : ℕ) → A * D + 2 * (M * z) ≤ 2 * (P * z) + 2 * o * D → 2 * (p + o) ≤ A + 2 * m → p * D + M * z ≤ P * z + m * D
half_toe_le D M P z A o p m t h = omega (arith, mul-le-mul_right D h)

pub half_toe_ge : (D M P z A o p m : ℕ) → 2 * (P * z) + 2 * o * D ≤ A * D + 2 * (M * z) → A + 2 * m ≤ 2 * (p + o) → P * z + m * D ≤ p * D + M * z
half_toe_ge D M P z A o p m t h = omega (arith, mul-le-mul_right D h)

-- ---- the sum of the numbers a and b of the products v and v' (with the bias i, at w a unit), factor by factor
two_le : (κ w S i v v' a b : ℕ) → a * w ≤ v + i → b * w ≤ v' + i → (a + b) * (κ * (w * S)) ≤ κ * S * v + κ * S * v' + 2 * κ * i * S
two_le κ w S i v v' a b f g = omega (arith, mul-le-mul_left (κ * S) f, mul-le-mul_left (κ * S) g)

two_ge : (κ w S i v v' a b : ℕ) → v + i < a * w + w → v' + i < b * w + w → κ * S * v + κ * S * v' + 2 * κ * i * S ≤ (a + b) * (κ * (w * S)) + 2 * κ * w * S
two_ge κ w S i v v' a b f g = omega (arith, mul-le-mul_left (κ * S) f, mul-le-mul_left (κ * S) g)

next_le : (κ S v v' hi : ℕ) → v' * S ≤ (v + 5) * hi → κ * S * v' ≤ κ * v * hi + 5 * κ * hi
next_le κ S v v' hi h = omega (arith, mul-le-mul_left κ h)

next_ge : (κ S v v' lo : ℕ) → v * lo ≤ (v' + 5) * S → κ * v * lo ≤ κ * S * v' + 5 * κ * S
next_ge κ S v v' lo h = omega (arith, mul-le-mul_left κ h)

first_le : (κ v least δ : ℕ) → least ≤ v + 5 → κ * least * δ ≤ κ * v * δ + 5 * κ * δ
first_le κ v least δ h = omega (arith, mul-le-mul_left (κ * δ) h)

parts_le : (κ S v x δ hi : ℕ) → 2 * x ≡ δ + (S + hi) → 2 * (κ * (v * x)) ≡ κ * v * δ + κ * S * v + κ * v * hi
parts_le κ S v x δ hi e = omega (arith, ap (λ (y : ℕ). κ * v * y) e)

parts_ge : (κ S v x δ lo : ℕ) → S + lo ≡ δ + 2 * x → 2 * (κ * (v * x)) + κ * v * δ ≡ κ * S * v + κ * v * lo
parts_ge κ S v x δ lo e = omega (arith, ap (λ (y : ℕ). κ * v * y) e)

times_five : (κ v x : ℕ) → 2 * (κ * ((v + 5) * x)) ≡ 2 * (κ * (v * x)) + 10 * κ * x
times_five κ v x = omega arith

sum_le : (A Y a a' i h d m R O H D : ℕ) → A ≤ a + a' + i → a' ≤ h + H → m ≤ d + D → R ≡ d + a + h → H + i + Y + D ≤ m + O → A + Y ≤ R + O
sum_le A Y a a' i h d m R O H D f g j e t = omega arith

sum_ge : (A Y a a' i h d m R O W Z F H D : ℕ) → a + a' + i ≤ A + W → h ≤ a' + H → m ≤ d + D → R + d ≡ a + h → Z ≡ R + F → F + D + H + W + O ≤ m + i + Y → Z + O ≤ A + Y
sum_ge A Y a a' i h d m R O W Z F H D f g j e k t = omega arith

-- both codes in the power part: lo and hi are the ratio's bounds at the scale S, x / S the bound of a part of the ratio, least the least product
pub power_le : (κ w S Y O i v v' hi x δ least a b : ℕ) → a * w ≤ v + i → b * w ≤ v' + i → v' * S ≤ (v + 5) * hi → least ≤ v + 5 → 2 * x ≡ δ + (S + hi)
    → 5 * κ * hi + 2 * κ * i * S + Y + 5 * κ * δ ≤ κ * least * δ + O
    → (a + b) * (κ * (w * S)) + Y ≤ 2 * (κ * (v * x)) + O
power_le κ w S Y O i v v' hi x δ least a b ha hb hv hm e t =
    sum_le ((a + b) * (κ * (w * S))) Y (κ * S * v) (κ * S * v') (2 * κ * i * S) (κ * v * hi) (κ * v * δ) (κ * least * δ) (2 * (κ * (v * x))) O (5 * κ * hi) (5 * κ * δ)
    (two_le κ w S i v v' a b ha hb) (next_le κ S v v' hi hv) (first_le κ v least δ hm) (parts_le κ S v x δ hi e) t

pub power_ge : (κ w S Y O i v v' lo x δ least a b : ℕ) → v + i < a * w + w → v' + i < b * w + w → v * lo ≤ (v' + 5) * S → least ≤ v + 5 → S + lo ≡ δ + 2 * x
    → 10 * κ * x + 5 * κ * δ + 5 * κ * S + 2 * κ * w * S + O ≤ κ * least * δ + 2 * κ * i * S + Y
    → 2 * (κ * ((v + 5) * x)) + O ≤ (a + b) * (κ * (w * S)) + Y
power_ge κ w S Y O i v v' lo x δ least a b ha hb hv hm e t =
    sum_ge ((a + b) * (κ * (w * S))) Y (κ * S * v) (κ * S * v') (2 * κ * i * S) (κ * v * lo) (κ * v * δ) (κ * least * δ) (2 * (κ * (v * x))) O (2 * κ * w * S) (2 * (κ * ((v + 5) * x))) (10 * κ * x) (5 * κ * S) (5 * κ * δ)
    (two_ge κ w S i v v' a b ha hb) (next_ge κ S v v' lo hv) (first_le κ v least δ hm) (parts_ge κ S v x δ lo e) (times_five κ v x) t
