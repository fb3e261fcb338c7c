-- That x / s is below or above b ^ (m / q), by the power (x / s) ^ q computed with rounding: squares and products at the scale s,
-- a factor b put aside as soon as there is one. No q-th power is ever formed.
-- Assumes nothing.
use mathlib.Core.Path.{◌≡◌, sym, ap, ◌∙◌, subst}
use mathlib.Core.Bool.{Bool, true, false}
use mathlib.Core.List.{List, [], ◌∷◌}
use Prim.Native.Nat.{ℕ, zero, ◌+◌, ◌-◌, ◌*◌, ◌/◌, ◌^◌, ◌≤◌, ◌<◌}
use native.Mathlib.Nat.{le_refl, le_trans, le_of_eq, le_of_lt, mul_assoc, mul_comm, mul_left_comm, mul-mul-mul_comm, mul-le-mul, mul-le-mul_left, mul-le-mul_right, le_of_mul-le-mul_right, one-le-pow, mul-pos, div-mul-le_self, lt-mul-div-succ}
use native.Mathlib.Omega.{arith}
use lib.Dec.{T, leb, eqb, leb→le, eqb→eq}
use lib.Pow.{pow-add}
use Rattle.whole.proofs.Powers.{pow_one}
use Rattle.whole.proofs.Tests.{both, both_left, both_right}
use Rattle.power.specs.Power.{Below, below, Above, above}

-- (x / s) ^ k is at most b ^ e * z / s
data Up (b x s k e z : ℕ) : Type 0 where
  up : x ^ k * s ≤ b ^ e * z * s ^ k → Up b x s k e z

-- and at least
data Down (b x s k e z : ℕ) : Type 0 where
  down : b ^ e * z * s ^ k ≤ x ^ k * s → Down b x s k e z

sort₁ : (b s k j e f z w : ℕ) → b ^ e * z * s ^ k * (b ^ f * w * s ^ j) ≡ b ^ (e + f) * s ^ (k + j) * (z * w)
sort₁ b s k j e f z w = simp (pow-add, mul_assoc, mul_comm, mul_left_comm)

sort₂ : (b s k j e f c v : ℕ) → b ^ (e + f) * s ^ (k + j) * (b ^ c * v * s) ≡ b ^ (e + f + c) * v * s ^ (k + j) * s
sort₂ b s k j e f c v = simp (pow-add, mul_assoc, mul_comm, mul_left_comm)

sort₃ : (x s k j : ℕ) → x ^ k * s * (x ^ j * s) ≡ x ^ (k + j) * s * s
sort₃ x s k j = simp (pow-add, mul_assoc, mul_comm, mul_left_comm)

up_mul : {b x s k j e f z w : ℕ} (c v : ℕ) → zero < s → z * w ≤ b ^ c * v * s → Up b x s k e z → Up b x s j f w → Up b x s (k + j) (e + f + c) v
up_mul {b} {x} {s} {k} {j} {e} {f} {z} {w} c v p h (up f₁) (up f₂) =
    up (le_of_mul-le-mul_right {k = s}
    (le_trans (le_of_eq (sym (sort₃ x s k j)))
    (le_trans (mul-le-mul f₁ f₂)
    (le_trans (le_of_eq (sort₁ b s k j e f z w))
    (le_trans (mul-le-mul_left (b ^ (e + f) * s ^ (k + j)) h) (le_of_eq (sort₂ b s k j e f c v))))))
    p)

down_mul : {b x s k j e f z w : ℕ} (c v : ℕ) → zero < s → b ^ c * v * s ≤ z * w → Down b x s k e z → Down b x s j f w → Down b x s (k + j) (e + f + c) v
down_mul {b} {x} {s} {k} {j} {e} {f} {z} {w} c v p h (down f₁) (down f₂) =
    down (le_of_mul-le-mul_right {k = s}
    (le_trans (le_of_eq (sym (sort₂ b s k j e f c v)))
    (le_trans (mul-le-mul_left (b ^ (e + f) * s ^ (k + j)) h)
    (le_trans (le_of_eq (sym (sort₁ b s k j e f z w)))
    (le_trans (mul-le-mul f₁ f₂) (le_of_eq (sort₃ x s k j))))))
    p)

-- ---- one step: is there a factor b in the product, and the product at the scale s, rounded up and down

abbrev one_if : Bool → ℕ
one_if true = 1
one_if false = 0

abbrev carry : (b s z w : ℕ) → ℕ
carry b s z w = one_if (leb (b * s * s) (z * w))

abbrev over : (b s z w : ℕ) → ℕ
over b s z w = z * w / (b ^ carry b s z w * s) + 1

abbrev under : (b s z w : ℕ) → ℕ
under b s z w = z * w / (b ^ carry b s z w * s)

over_le : (b s z w : ℕ) → zero < b → zero < s → z * w ≤ b ^ carry b s z w * over b s z w * s
over_le b s z w pb ps =
    le_trans (le_of_lt (lt-mul-div-succ (z * w) {b = b ^ carry b s z w * s} (mul-pos (one-le-pow (carry b s z w) b pb) ps)))
    (le_of_eq (simp (mul_assoc, mul_comm, mul_left_comm)))

under_le : (b s z w : ℕ) → b ^ carry b s z w * under b s z w * s ≤ z * w
under_le b s z w =
    le_trans (le_of_eq (simp (mul_assoc, mul_comm, mul_left_comm))) (div-mul-le_self (z * w) (b ^ carry b s z w * s))

-- ---- the power, by the binary digits of q after the first, the highest first

abbrev pub up_run : (b s q m f y : ℕ) → List Bool → (k e z : ℕ) → Bool
up_run b s q m f y [] k e z = both (eqb k q) (leb (z * b ^ (e - m)) (b ^ (m - e) * s))
up_run b s q m f y (false ∷ l) k e z = up_run b s q m f y l (k + k) (e + e + carry b s z z) (over b s z z)
up_run b s q m f y (true ∷ l) k e z =
    up_run b s q m f y l (k + k + 1) (e + e + carry b s z z + f + carry b s (over b s z z) y) (over b s (over b s z z) y)

abbrev pub down_run : (b s q m f y : ℕ) → List Bool → (k e z : ℕ) → Bool
down_run b s q m f y [] k e z = both (eqb k q) (leb (b ^ (m - e) * s) (z * b ^ (e - m)))
down_run b s q m f y (false ∷ l) k e z = down_run b s q m f y l (k + k) (e + e + carry b s z z) (under b s z z)
down_run b s q m f y (true ∷ l) k e z =
    down_run b s q m f y l (k + k + 1) (e + e + carry b s z z + f + carry b s (under b s z z) y) (under b s (under b s z z) y)

module _ (b x s q m : ℕ) (pb : zero < b) (ps : zero < s) where
  end₁ : (e z : ℕ) → b ^ e * z * s ^ q * b ^ (e - m) ≡ b ^ e * s ^ q * (z * b ^ (e - m))
  end₁ e z = simp (mul_assoc, mul_comm, mul_left_comm)

  same : (e : ℕ) → e + (m - e) ≡ m + (e - m)
  same e = omega arith

  end₂ : (e : ℕ) → b ^ e * s ^ q * (b ^ (m - e) * s) ≡ b ^ m * s ^ q * (s * b ^ (e - m))
  end₂ e =
      mul-mul-mul_comm (b ^ e) (s ^ q) (b ^ (m - e)) s
      ∙ ap (λ (w : ℕ). w * (s ^ q * s)) (sym (pow-add b e (m - e)) ∙ ap (λ (w : ℕ). b ^ w) (same e) ∙ pow-add b m (e - m))
      ∙ sym (mul-mul-mul_comm (b ^ m) (s ^ q) (b ^ (e - m)) s)
      ∙ ap (λ (w : ℕ). b ^ m * s ^ q * w) (mul_comm (b ^ (e - m)) s)

  up_end : {e z : ℕ} → Up b x s q e z → z * b ^ (e - m) ≤ b ^ (m - e) * s → Below b q m x s
  up_end {e} {z} (up f) h =
      below (le_of_mul-le-mul_right {k = s * b ^ (e - m)}
      (le_trans (le_of_eq (sym (mul_assoc (x ^ q) s (b ^ (e - m)))))
      (le_trans (mul-le-mul_right (b ^ (e - m)) f)
      (le_trans (le_of_eq (end₁ e z))
      (le_trans (mul-le-mul_left (b ^ e * s ^ q) h) (le_of_eq (end₂ e))))))
      (mul-pos ps (one-le-pow (e - m) b pb)))

  down_end : {e z : ℕ} → Down b x s q e z → b ^ (m - e) * s ≤ z * b ^ (e - m) → Above b q m x s
  down_end {e} {z} (down f) h =
      above (le_of_mul-le-mul_right {k = s * b ^ (e - m)}
      (le_trans (le_of_eq (sym (end₂ e)))
      (le_trans (mul-le-mul_left (b ^ e * s ^ q) h)
      (le_trans (le_of_eq (sym (end₁ e z)))
      (le_trans (mul-le-mul_right (b ^ (e - m)) f) (le_of_eq (mul_assoc (x ^ q) s (b ^ (e - m))))))))
      (mul-pos ps (one-le-pow (e - m) b pb)))

  start : (f y : ℕ) → b ^ f * y * s ≡ b ^ f * y * s ^ 1
  start f y = ap (λ (w : ℕ). b ^ f * y * w) (sym (pow_one s))

  first : x ^ 1 * s ≡ x * s
  first = ap (λ (w : ℕ). w * s) (pow_one x)

  up_start : (f y : ℕ) → x ≤ b ^ f * y → Up b x s 1 f y
  up_start f y h = up (le_trans (le_of_eq first) (le_trans (mul-le-mul_right s h) (le_of_eq (start f y))))

  down_start : (f y : ℕ) → b ^ f * y ≤ x → Down b x s 1 f y
  down_start f y h = down (le_trans (le_of_eq (sym (start f y))) (le_trans (mul-le-mul_right s h) (le_of_eq (sym first))))

  up_sound : (f y : ℕ) → Up b x s 1 f y → (l : List Bool) (k e z : ℕ) → Up b x s k e z → T (up_run b s q m f y l k e z) → Below b q m x s
  up_sound f y u₁ [] k e z u t =
      up_end (subst (λ (n : ℕ). Up b x s n e z) (eqb→eq k q (both_left (eqb k q) (leb (z * b ^ (e - m)) (b ^ (m - e) * s)) t)) u)
      (leb→le (z * b ^ (e - m)) (b ^ (m - e) * s) (both_right (eqb k q) (leb (z * b ^ (e - m)) (b ^ (m - e) * s)) t))
  up_sound f y u₁ (false ∷ l) k e z u t =
      up_sound f y u₁ l (k + k) (e + e + carry b s z z) (over b s z z)
      (up_mul (carry b s z z) (over b s z z) ps (over_le b s z z pb ps) u u) t
  up_sound f y u₁ (true ∷ l) k e z u t =
      up_sound f y u₁ l (k + k + 1) (e + e + carry b s z z + f + carry b s (over b s z z) y) (over b s (over b s z z) y)
      (up_mul (carry b s (over b s z z) y) (over b s (over b s z z) y) ps (over_le b s (over b s z z) y pb ps)
      (up_mul (carry b s z z) (over b s z z) ps (over_le b s z z pb ps) u u) u₁) t

  down_sound : (f y : ℕ) → Down b x s 1 f y → (l : List Bool) (k e z : ℕ) → Down b x s k e z → T (down_run b s q m f y l k e z) → Above b q m x s
  down_sound f y u₁ [] k e z u t =
      down_end (subst (λ (n : ℕ). Down b x s n e z) (eqb→eq k q (both_left (eqb k q) (leb (b ^ (m - e) * s) (z * b ^ (e - m))) t)) u)
      (leb→le (b ^ (m - e) * s) (z * b ^ (e - m)) (both_right (eqb k q) (leb (b ^ (m - e) * s) (z * b ^ (e - m))) t))
  down_sound f y u₁ (false ∷ l) k e z u t =
      down_sound f y u₁ l (k + k) (e + e + carry b s z z) (under b s z z)
      (down_mul (carry b s z z) (under b s z z) ps (under_le b s z z) u u) t
  down_sound f y u₁ (true ∷ l) k e z u t =
      down_sound f y u₁ l (k + k + 1) (e + e + carry b s z z + f + carry b s (under b s z z) y) (under b s (under b s z z) y)
      (down_mul (carry b s (under b s z z) y) (under b s (under b s z z) y) ps (under_le b s (under b s z z) y)
      (down_mul (carry b s z z) (under b s z z) ps (under_le b s z z) u u) u₁) t

-- x / s is b ^ f * y / s with y / s below b, or at most that, at least that
pub below_by : (b s q m f y : ℕ) (l : List Bool) → zero < b → zero < s → T (up_run b s q m f y l 1 f y) → Below b q m (b ^ f * y) s
below_by b s q m f y l pb ps t =
    up_sound b (b ^ f * y) s q m pb ps f y (up_start b (b ^ f * y) s q m pb ps f y (le_refl (b ^ f * y))) l 1 f y (up_start b (b ^ f * y) s q m pb ps f y (le_refl (b ^ f * y))) t

pub above_by : (b s q m f y : ℕ) (l : List Bool) → zero < b → zero < s → T (down_run b s q m f y l 1 f y) → Above b q m (b ^ f * y) s
above_by b s q m f y l pb ps t =
    down_sound b (b ^ f * y) s q m pb ps f y (down_start b (b ^ f * y) s q m pb ps f y (le_refl (b ^ f * y))) l 1 f y (down_start b (b ^ f * y) s q m pb ps f y (le_refl (b ^ f * y))) t
