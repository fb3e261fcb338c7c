-- How far an ACES number is from the exact row, for any tolerance N / D and bound P / Q: where each of
-- three numbers is less than N / D from its exact value, and the row's weight leaves room for that and
-- for the half of the rounding, the ACES number is less than P / Q from the row of the exact values.
-- Assumes nothing.
use mathlib.Core.Bool.{Bool, true, false, not}
use mathlib.Core.Path.{◌≡◌, ap}
use Prim.Native.Nat.{ℕ, zero, suc, ◌+◌, ◌*◌, ◌^◌, ◌<◌, ◌≤◌}
use native.Mathlib.Nat.{mul-pos, mul-le-mul_left, mul-lt-mul_of_pos_right}
use native.Mathlib.Omega.{arith}
use lib.Dec.{lit<}
use lib.IntN.{ℤ, pos, negsuc, nat_abs, ◌+ℤ◌, ◌*ℤ◌}
use Rattle.whole.specs.Parts.{up, dn}
use Rattle.whole.proofs.Weight.{weight}
use Rattle.whole.proofs.Reflect.{at, add, mul, dif}
use Rattle.whole.proofs.Floor.{half_bounds}
use Rattle.whole.proofs.Tidy.{tidy}
use Rattle.rules.specs.Fraction.{Fraction, ratio, whole, integer, ◌+ℚ◌, ◌-ℚ◌, ◌*ℚ◌, ◌/ℚ◌, nearest, Versus, Less, Greater}
use Rattle.rules.specs.Exact.{Scale, VersusExact}
use Rattle.rules.specs.Decoding.{unit, tolerance}
use Rattle.rules.specs.declared.Setting.{Setting}
use Rattle.rules.specs.Setting.{ValidForAces}
use Rattle.rules.proofs.Bounds.{WeightRoom, RowRoom, row_room}
use Rattle.rules.specs.Matrix.{Matrix, matrix_of, entry, aces_number}
use Rattle.rules.specs.ExactRow.{aces_tolerance, Side, VersusRow, WithinRow}
use Rattle.decode.proofs.Close.{Close}
use Rattle.row_product.proofs.Nearest.{nearest_of}

-- ---- less (true) and greater (false) by one proof: one is the other with plus and minus exchanged
abbrev order : Bool → ℕ → ℕ → Type 0
order true = Less
order false = Greater

abbrev high : Bool → Fraction → ℕ
high true x = x.plus
high false x = x.minus

abbrev low : Bool → Fraction → ℕ
low b x = high (not b) x

-- y with N / D added, or taken off
abbrev moved : Bool → (N D : ℕ) → ℤ → Fraction
moved true N D y = (integer y +ℚ ratio N D) *ℚ unit
moved false N D y = (integer y -ℚ ratio N D) *ℚ unit

-- which of the two 01 asks for under an entry
abbrev sense : Bool → (entry : ℤ) → Bool
sense b (pos e) = b
sense b (negsuc e) = not b

-- ---- one product
module _ (N D : ℕ) where
  abbrev product : Bool → (c y : ℤ) → Fraction
  product b c y = integer c *ℚ moved (sense b c) N D y

  on_side : (b : Bool) (c y : ℤ) {k : Scale} {n : ℕ} → Close (ratio N D) k n y → VersusExact (Side (order b) c) k (whole n) (moved (sense b c) N D y)
  on_side true (pos e) y h = h.over
  on_side true (negsuc e) y h = h.under
  on_side false (pos e) y h = h.under
  on_side false (negsuc e) y h = h.over

  moved_over : (b : Bool) (y : ℤ) → (moved b N D y).over ≡ D * 2 ^ 24
  moved_over true y = simp tidy
  moved_over false y = simp tidy

  product_over : (b : Bool) (c y : ℤ) → (product b c y).over ≡ D * 2 ^ 24
  product_over b c y = simp tidy (moved_over (sense b c) y)

  -- over c * y it gains N / D times c without its sign
  gained : (b : Bool) (c y : ℤ) → high b (product b c y) + D * low b (integer c *ℚ integer y) ≡ low b (product b c y) + D * high b (integer c *ℚ integer y) + N * nat_abs c
  gained true (pos e) y = omega arith
  gained true (negsuc e) y = omega arith
  gained false (pos e) y = omega arith
  gained false (negsuc e) y = omega arith

-- ---- three products, in naturals
-- what they gain over their sum S
gained_three : (N D h₀ h₁ h₂ l₀ l₁ l₂ p₀ p₁ p₂ m₀ m₁ m₂ w₀ w₁ w₂ S⁺ S⁻ : ℕ)
    → h₀ + D * m₀ ≡ l₀ + D * p₀ + N * w₀ → h₁ + D * m₁ ≡ l₁ + D * p₁ + N * w₁ → h₂ + D * m₂ ≡ l₂ + D * p₂ + N * w₂ → S⁺ + (m₀ + m₁ + m₂) ≡ p₀ + p₁ + p₂ + S⁻
    → h₀ + h₁ + h₂ + D * S⁻ ≡ l₀ + l₁ + l₂ + D * S⁺ + N * (w₀ + w₁ + w₂)
gained_three N D h₀ h₁ h₂ l₀ l₁ l₂ p₀ p₁ p₂ m₀ m₁ m₂ w₀ w₁ w₂ S⁺ S⁻ e₀ e₁ e₂ e = omega (arith, ap (λ (n : ℕ). D * n) e)

-- with W for their weight, and S at most a half from its rounding A
bounded : (N D P Q s W h l S⁺ S⁻ A⁺ A⁻ : ℕ) → WeightRoom N D P Q W s → h + D * S⁻ ≡ l + D * S⁺ + N * W → 2 * S⁺ + A⁻ * (2 * s) ≤ A⁺ * (2 * s) + s + 2 * S⁻
    → h * (Q * 2 ^ 24) + A⁻ * Q * (D * 2 ^ 24 * s) < (A⁺ * Q + P) * (D * 2 ^ 24 * s) + l * (Q * 2 ^ 24)
bounded N D P Q s W h l S⁺ S⁻ A⁺ A⁻ w e r = omega (arith, mul-le-mul_left (Q * D) r, ap (λ (n : ℕ). Q * n) e)

-- the same with every denominator
spread : (o s v h₀ h₁ h₂ l₀ l₁ l₂ b c : ℕ) → 0 < o → (h₀ + h₁ + h₂) * v + c * (o * s) < b * (o * s) + (l₀ + l₁ + l₂) * v
    → ((h₀ * o + h₁ * o) * o + h₂ * (o * o)) * v + c * (o * o * o * s) < b * (o * o * o * s) + ((l₀ * o + l₁ * o) * o + l₂ * (o * o)) * v
spread o s v h₀ h₁ h₂ l₀ l₁ l₂ b c p h = omega (arith, mul-lt-mul_of_pos_right {k = o * o} h (mul-pos p p))

-- as the rules write it
shaped : (P Q s o : ℕ) (b : Bool) (x y z : Fraction) (A : ℤ) → x.over ≡ o → y.over ≡ o → z.over ≡ o → 0 < o
    → (high b x + high b y + high b z) * (Q * 2 ^ 24) + low b (integer A) * Q * (o * s) < (high b (integer A) * Q + P) * (o * s) + (low b x + low b y + low b z) * (Q * 2 ^ 24)
    → Versus (order b) ((x +ℚ y +ℚ z) /ℚ whole s) (moved b P Q A)
shaped P Q s o true x y z A ex ey ez p h =
    simp (tidy, ex, ey, ez) (spread o s (Q * 2 ^ 24) x.plus y.plus z.plus x.minus y.minus z.minus (up A * Q + P) (dn A * Q) p h)
shaped P Q s o false x y z A ex ey ez p h =
    simp (tidy, ex, ey, ez) (omega (arith, spread o s (Q * 2 ^ 24) x.minus y.minus z.minus x.plus y.plus z.plus (dn A * Q + P) (up A * Q) p h))

-- a factor of a number above 0
factor_positive : (a b : ℕ) → 0 < a * b → 0 < a
factor_positive zero b h = absurd (omega arith)
factor_positive (suc a) b h = omega arith

-- ---- a row
module _ (N D P Q s : ℕ) (c₀ c₁ c₂ : ℤ) (room : WeightRoom N D P Q (weight c₀ c₁ c₂) s) (x y z : ℤ) where
  abbrev S : ℤ
  S = c₀ *ℤ x +ℤ c₁ *ℤ y +ℤ c₂ *ℤ z

  abbrev A : ℤ
  A = nearest (integer S /ℚ whole s)

  over_positive : 0 < D * 2 ^ 24
  over_positive = mul-pos (factor_positive D (2 * P * s) (omega arith)) (lit< tt)

  scale_positive : 0 < s
  scale_positive = factor_positive s (2 * D * P) (omega arith)

  sum : (b : Bool)
      → high b (integer S) + (low b (integer c₀ *ℚ integer x) + low b (integer c₁ *ℚ integer y) + low b (integer c₂ *ℚ integer z))
      ≡ high b (integer c₀ *ℚ integer x) + high b (integer c₁ *ℚ integer y) + high b (integer c₂ *ℚ integer z) + low b (integer S)
  sum true = omega (arith, dif (add (add (mul (at c₀) (at x)) (mul (at c₁) (at y))) (mul (at c₂) (at z))))
  sum false = omega (arith, dif (add (add (mul (at c₀) (at x)) (mul (at c₁) (at y))) (mul (at c₂) (at z))))

  sum_gained : (b : Bool)
      → high b (product N D b c₀ x) + high b (product N D b c₁ y) + high b (product N D b c₂ z) + D * low b (integer S)
      ≡ low b (product N D b c₀ x) + low b (product N D b c₁ y) + low b (product N D b c₂ z) + D * high b (integer S) + N * weight c₀ c₁ c₂
  sum_gained b =
      gained_three N D (high b (product N D b c₀ x)) (high b (product N D b c₁ y)) (high b (product N D b c₂ z)) (low b (product N D b c₀ x)) (low b (product N D b c₁ y)) (low b (product N D b c₂ z))
      (high b (integer c₀ *ℚ integer x)) (high b (integer c₁ *ℚ integer y)) (high b (integer c₂ *ℚ integer z))
      (low b (integer c₀ *ℚ integer x)) (low b (integer c₁ *ℚ integer y)) (low b (integer c₂ *ℚ integer z))
      (nat_abs c₀) (nat_abs c₁) (nat_abs c₂) (high b (integer S)) (low b (integer S)) (gained N D b c₀ x) (gained N D b c₁ y) (gained N D b c₂ z) (sum b)

  rounded : (b : Bool) → 2 * high b (integer S) + low b (integer A) * (2 * s) ≤ high b (integer A) * (2 * s) + s + 2 * low b (integer S)
  rounded true = omega (arith, (half_bounds (up S) (dn S) s scale_positive A (nearest_of S s)).1)
  rounded false = omega (arith, (half_bounds (up S) (dn S) s scale_positive A (nearest_of S s)).0)

  row : (b : Bool) → Versus (order b) ((product N D b c₀ x +ℚ product N D b c₁ y +ℚ product N D b c₂ z) /ℚ whole s) (moved b P Q A)
  row b =
      shaped P Q s (D * 2 ^ 24) b (product N D b c₀ x) (product N D b c₁ y) (product N D b c₂ z) A (product_over N D b c₀ x) (product_over N D b c₁ y) (product_over N D b c₂ z) over_positive
      (bounded N D P Q s (weight c₀ c₁ c₂) _ _ (high b (integer S)) (low b (integer S)) (high b (integer A)) (low b (integer A)) room (sum_gained b) (rounded b))

-- THE RULE, where the row has room
module _ (N D P Q : ℕ) (m : Matrix) (i : ℕ) (room : RowRoom N D P Q m i) (k : Scale) (r g b : ℕ) (x y z : ℤ)
    (cx : Close (ratio N D) k r x) (cy : Close (ratio N D) k g y) (cz : Close (ratio N D) k b z) where
  versus : (o : Bool) → VersusRow (order o) m i k r g b (moved o P Q (aces_number m i x y z))
  unfolding aces_number
  versus o =
      let p = over_positive N D P Q m.scale (entry m i 0) (entry m i 1) (entry m i 2) room x y z in
      record {
        x = moved (sense o (entry m i 0)) N D x;
        y = moved (sense o (entry m i 1)) N D y;
        z = moved (sense o (entry m i 2)) N D z;
        proper = rw (moved_over N D (sense o (entry m i 0)) x, moved_over N D (sense o (entry m i 1)) y, moved_over N D (sense o (entry m i 2)) z) (mul-pos (mul-pos p p) p);
        red = on_side N D o (entry m i 0) x cx;
        green = on_side N D o (entry m i 1) y cy;
        blue = on_side N D o (entry m i 2) z cz;
        already = row N D P Q m.scale (entry m i 0) (entry m i 1) (entry m i 2) room x y z o;
      }

  pub row_within : WithinRow (ratio P Q) m i k r g b (aces_number m i x y z)
  row_within = record { above = versus true; below = versus false }

-- the published rows have it, for the bounds of the rules
pub matrix_within : (s : Setting) → ValidForAces s → (i : ℕ) → i < 3 → (k : Scale) (r g u : ℕ) (x y z : ℤ) → Close tolerance k r x → Close tolerance k g y → Close tolerance k u z
    → WithinRow aces_tolerance (matrix_of s) i k r g u (aces_number (matrix_of s) i x y z)
matrix_within s v i h = row_within tolerance.plus tolerance.over aces_tolerance.plus aces_tolerance.over (matrix_of s) i (row_room s v i h)
