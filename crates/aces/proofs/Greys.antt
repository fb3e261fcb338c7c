-- A row whose entries sum to the scale, nearly, keeps greys.
-- Assumes nothing.
use mathlib.Core.Path.{◌≡◌, refl, sym, ap, ◌∙◌}
use Prim.Native.Nat.{ℕ, ◌+◌, ◌*◌, ◌^◌, ◌<◌, ◌≤◌}
use native.Mathlib.Nat.{mul-le-mul_right}
use native.Mathlib.Omega.{arith}
use lib.Dec.{lit≤}
use lib.IntN.{ℤ, pos, nat_abs, ◌+ℤ◌, ◌*ℤ◌}
use Rattle.whole.specs.Parts.{up, dn}
use Rattle.whole.proofs.Reflect.{abs_is, at, add, mul, dif, eq_z}
use Rattle.whole.proofs.Floor.{floor_only}
use Rattle.rules.specs.declared.Setting.{Setting}
use Rattle.rules.specs.Setting.{ValidForAces}
use Rattle.rules.specs.Fraction.{integer, whole, ◌/ℚ◌, nearest}
use Rattle.rules.specs.Matrix.{Matrix, log_c3_matrix, log_c4_matrix, matrix_for, matrix_of, entry, aces_number, IsAces}
use Rattle.rules.proofs.Settings.{for_aces}
use Rattle.row_product.specs.Row.{Number}
use Rattle.row_product.proofs.Nearest.{nearest_of}

-- greys: where the entries of a row sum to k, which is near the scale s
grey : (s k t : ℕ) (x : ℤ) → s ≤ k + t → k ≤ s + t → 2 * (t * nat_abs x) < s → nearest (integer (pos k *ℤ x) /ℚ whole s) ≡ x
grey s k t x l h e =
    let d = dif (mul (at (pos k)) (at x)) in
    let lu = mul-le-mul_right (up x) l in
    let ld = mul-le-mul_right (dn x) l in
    let hu = mul-le-mul_right (up x) h in
    let hd = mul-le-mul_right (dn x) h in
    let w = ap (λ (n : ℕ). t * n) (abs_is x) in
    nearest_of (pos k *ℤ x) s
    ∙ floor_only (2 * up (pos k *ℤ x) + s) (2 * dn (pos k *ℤ x)) (2 * s) x (omega arith) (omega arith)

gathered : (a b c x : ℤ) → a *ℤ x +ℤ b *ℤ x +ℤ c *ℤ x ≡ (a +ℤ b +ℤ c) *ℤ x
gathered a b c x = eq_z (add (add (mul (at a) (at x)) (mul (at b) (at x))) (mul (at c) (at x))) (mul (add (add (at a) (at b)) (at c)) (at x)) (omega arith)

row_grey : (m : Matrix) (i k t : ℕ) (x : ℤ) → entry m i 0 +ℤ entry m i 1 +ℤ entry m i 2 ≡ pos k → m.scale ≤ k + t → k ≤ m.scale + t → 2 * (t * nat_abs x) < m.scale
    → x ≡ aces_number m i x x x
unfolding aces_number
row_grey m i k t x e l h w =
    sym
    (ap (λ (w : ℤ). nearest (integer w /ℚ whole m.scale)) (gathered (entry m i 0) (entry m i 1) (entry m i 2) x ∙ ap (λ (w : ℤ). w *ℤ x) e)
    ∙ grey m.scale k t x l h w)

-- GREYS STAY GREY: three equal scene numbers give three ACES numbers equal to them, whatever the setting that is valid for ACES
pub greys_stay : (s : Setting) → ValidForAces s → (x : ℤ) → Number x → IsAces (matrix_of s) x x x x x x
greys_stay s v x n = for_aces (λ c. IsAces (matrix_for c) x x x x x x) log_c3 log_c4 s v
  where
    near : 2 * (200 * nat_abs x) < 10 ^ 18
    near = omega (arith, n.small)

    exact : 2 * (0 * nat_abs x) < 10 ^ 6
    exact = omega arith

    log_c3 : IsAces log_c3_matrix x x x x x x
    log_c3 =
        record {
          red_is = row_grey log_c3_matrix 0 1000000 0 x refl (lit≤ tt) (lit≤ tt) exact;
          green_is = row_grey log_c3_matrix 1 1000000 0 x refl (lit≤ tt) (lit≤ tt) exact;
          blue_is = row_grey log_c3_matrix 2 1000000 0 x refl (lit≤ tt) (lit≤ tt) exact;
        }

    log_c4 : IsAces log_c4_matrix x x x x x x
    log_c4 =
        record {
          red_is = row_grey log_c4_matrix 0 1000000000000000180 200 x refl (lit≤ tt) (lit≤ tt) near;
          green_is = row_grey log_c4_matrix 1 999999999999999818 200 x refl (lit≤ tt) (lit≤ tt) near;
          blue_is = row_grey log_c4_matrix 2 999999999999999928 200 x refl (lit≤ tt) (lit≤ tt) near;
        }
