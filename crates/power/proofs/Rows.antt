-- A row of a table: entry k stands for b ^ ((m + k * a) / q), rounded down. One test, computed over the row, shows it of every entry.
-- Assumes nothing.
use mathlib.Core.Path.{◌≡◌, sym, ap, ◌∙◌, subst}
use mathlib.Core.Bool.{Bool, true}
use mathlib.Core.List.{List, [], ◌∷◌}
use Prim.Native.Nat.{ℕ, zero, suc, ◌+◌, ◌*◌, ◌/◌, ◌^◌, ◌≤◌, ◌<◌}
use native.Mathlib.Nat.{le_trans, le_of_eq, le_of_lt, mul_assoc, mul_comm, mul_left_comm, mul-le-mul_right, mul-le-mul_left, mul-pos, div-mul-le_self, lt-mul-div-succ, zero-mul, add-zero, suc-mul, mul-one, not-suc-le-zero, le_of_suc-le-suc, pow-zero, pow-suc, add_assoc, add_comm, two-mul, add-mul, mul-add, one-mul, lt-div-mul-add}
use native.Mathlib.Numerals.{add-one}
use native.Mathlib.Omega.{arith}
use lib.Dec.{T, leb, leb→le}
use lib.ListN.{length, get_or}
use Rattle.power.specs.Power.{Below, Above}
use Rattle.power.specs.Progression.{square_down, square_up}
use Rattle.power.proofs.Interval.{below_mul, above_mul, below_le, above_le, below_one, above_one}
use Rattle.whole.proofs.Tests.{both, both_left, both_right}

-- b ^ (m / q) lies from lo / s to hi / s
pub record In (b q m lo hi s : ℕ) : Type 0 where
  pub lower : Below b q m lo s
  pub upper : Above b q m hi s

pub in_one : (b q s : ℕ) → In b q 0 s s s
in_one b q s = record { lower = below_one b q s; upper = above_one b q s }

-- the product of two enclosures at the scale s, rounded outwards
pub in_mul : {b q m k lo hi lo₁ hi₁ s : ℕ} → zero < s → In b q m lo hi s → In b q k lo₁ hi₁ s → In b q (m + k) (lo * lo₁ / s) (hi * hi₁ / s + 1) s
in_mul {lo = lo} {hi = hi} {lo₁ = lo₁} {hi₁ = hi₁} {s = s} p f g =
    record {
      lower =
          below_mul (lo * lo₁ / s) s (mul-pos p p)
          (le_trans (le_of_eq (sym (mul_assoc (lo * lo₁ / s) s s))) (mul-le-mul_right s (div-mul-le_self (lo * lo₁) s))) f.lower g.lower;
      upper =
          above_mul (hi * hi₁ / s + 1) s (mul-pos p p)
          (le_trans (mul-le-mul_right s (le_of_lt (lt-mul-div-succ (hi * hi₁) {b = s} p))) (le_of_eq (simp (mul_assoc, mul_comm, mul_left_comm))))
          f.upper
          g.upper;
    }

pub in_at : {b q m lo hi s : ℕ} (k : ℕ) → m ≡ k → In b q m lo hi s → In b q k lo hi s
in_at {b} {q} {lo = lo} {hi = hi} {s = s} k e f = subst (λ (n : ℕ). In b q n lo hi s) e f

double : (m n : ℕ) → (m + m) * 2 ^ n ≡ m * 2 ^ suc n
double m n = ap (λ (w : ℕ). w * 2 ^ n) (sym (two-mul m)) ∙ ap (λ (w : ℕ). w * 2 ^ n) (mul_comm 2 m) ∙ mul_assoc m 2 (2 ^ n) ∙ ap (λ (w : ℕ). m * w) (mul_comm 2 (2 ^ n) ∙ sym (pow-suc 2 n))

pub in_squares : {b q m lo hi s : ℕ} → zero < s → (n : ℕ) → In b q m lo hi s → In b q (m * 2 ^ n) (square_down s n lo) (square_up s n hi) s
in_squares {m = m} p zero f = in_at (m * 2 ^ 0) (sym (ap (λ (w : ℕ). m * w) (pow-zero 2) ∙ mul-one m)) f
in_squares {m = m} p (suc n) f = in_at (m * 2 ^ suc n) (double m n) (in_squares {m = m + m} p n (in_mul p f f))

-- ---- the test

abbrev pub row : (s c t lo₁ hi₁ : ℕ) → (lo hi : ℕ) → List ℕ → Bool
row s c t lo₁ hi₁ lo hi [] = true
row s c t lo₁ hi₁ lo hi (v ∷ vs) =
    both (both (leb (c * v * s) (lo * t)) (leb (hi * t) (c * (v + 1) * s))) (row s c t lo₁ hi₁ (lo * lo₁ / s) (hi * hi₁ / s + 1) vs)

entry : {b q m lo hi s : ℕ} (c t v : ℕ) → zero < s → In b q m lo hi s → T (both (leb (c * v * s) (lo * t)) (leb (hi * t) (c * (v + 1) * s))) → In b q m (c * v) (c * (v + 1)) t
entry {lo = lo} {hi = hi} {s = s} c t v p f h =
    record {
      lower = below_le (c * v) t p (leb→le (c * v * s) (lo * t) (both_left (leb (c * v * s) (lo * t)) (leb (hi * t) (c * (v + 1) * s)) h)) f.lower;
      upper = above_le (c * (v + 1)) t p (leb→le (hi * t) (c * (v + 1) * s) (both_right (leb (c * v * s) (lo * t)) (leb (hi * t) (c * (v + 1) * s)) h)) f.upper;
    }

-- entry v stands for v / (t / c)
pub row_at : {b q a lo₁ hi₁ s : ℕ} (c t : ℕ) → zero < s → In b q a lo₁ hi₁ s → (vs : List ℕ) {m lo hi : ℕ} → In b q m lo hi s → T (row s c t lo₁ hi₁ lo hi vs)
    → (k : ℕ) → k < length vs → In b q (m + k * a) (c * get_or vs k 0) (c * (get_or vs k 0 + 1)) t
row_at c t p g [] f h k l = absurd (not-suc-le-zero l)
row_at {a = a} {lo₁ = lo₁} {hi₁ = hi₁} {s = s} c t p g (v ∷ vs) {m} {lo} {hi} f h zero l =
    in_at (m + 0 * a) (sym (ap (λ (w : ℕ). m + w) (zero-mul a) ∙ add-zero m))
    (entry c t v p f (both_left (both (leb (c * v * s) (lo * t)) (leb (hi * t) (c * (v + 1) * s))) (row s c t lo₁ hi₁ (lo * lo₁ / s) (hi * hi₁ / s + 1) vs) h))
row_at {a = a} {lo₁ = lo₁} {hi₁ = hi₁} {s = s} c t p g (v ∷ vs) {m} {lo} {hi} f h (suc k) l =
    in_at (m + suc k * a) (add_assoc m a (k * a) ∙ ap (λ (w : ℕ). m + w) (add_comm a (k * a) ∙ sym (suc-mul k a)))
    (row_at c t p g vs (in_mul p f g)
    (both_right (both (leb (c * v * s) (lo * t)) (leb (hi * t) (c * (v + 1) * s))) (row s c t lo₁ hi₁ (lo * lo₁ / s) (hi * hi₁ / s + 1) vs) h)
    k
    (le_of_suc-le-suc l))

-- ---- the program's product of two entries, u * v / w, with what is known of them from above: u + d and v + 1

-- u * v / w against (u + d) * (v + 1)
cross : (d u v : ℕ) → (u + d) * (v + 1) ≡ u * v + u + d * (v + 1)
cross d u v = add-mul u d (v + 1) ∙ ap (λ (n : ℕ). n + d * (v + 1)) (mul-add u v 1 ∙ ap (λ (n : ℕ). u * v + n) (mul-one u))

spread : (n d w : ℕ) → (n + (d + 2)) * w ≡ n * w + (d * w + 2 * w)
spread n d w = add-mul n (d + 2) w ∙ ap (λ (i : ℕ). n * w + i) (add-mul d 2 w)

over_product : (d u v w : ℕ) → u < w → v < w → zero < w → (u + d) * (v + 1) ≤ (u * v / w + (d + 2)) * w
over_product d u v w hu hv pw =
    omega (arith, cross d u v, spread (u * v / w) d w, lt-div-mul-add {a = u * v} {b = w} pw, mul-le-mul_left d (le_trans (le_of_eq (add-one v)) hv))

-- a product of entries below w, at the scales t / c and r, is at the scale t₁ / c
pub in_high : {b q m k t r : ℕ} (c d u v w t₁ : ℕ) → zero < t * r → t * r ≡ w * t₁ → u < w → v < w → zero < w
    → In b q m (c * u) (c * (u + d)) t → In b q k (1 * v) (1 * (v + 1)) r → In b q (m + k) (c * (u * v / w)) (c * (u * v / w + (d + 2))) t₁
in_high {t = t} {r = r} c d u v w t₁ p e hu hv pw f g =
    record {
      lower =
          below_mul (c * (u * v / w)) t₁ p
          (le_trans (le_of_eq (ap (λ (n : ℕ). c * (u * v / w) * n) e ∙ mul_regroup c (u * v / w) w t₁))
          (le_trans (mul-le-mul_left (c * t₁) (div-mul-le_self (u * v) w)) (le_of_eq (sym (back u v)))))
          f.lower
          g.lower;
      upper =
          above_mul (c * (u * v / w + (d + 2))) t₁ p
          (le_trans (le_of_eq (back (u + d) (v + 1)))
          (le_trans (mul-le-mul_left (c * t₁) (over_product d u v w hu hv pw))
          (le_of_eq (sym (ap (λ (n : ℕ). c * (u * v / w + (d + 2)) * n) e ∙ mul_regroup c (u * v / w + (d + 2)) w t₁)))))
          f.upper
          g.upper;
    }
  where
    mul_regroup : (i j k l : ℕ) → i * j * (k * l) ≡ i * l * (j * k)
    mul_regroup i j k l = simp (mul_assoc, mul_comm, mul_left_comm)

    back : (i j : ℕ) → c * i * (1 * j) * t₁ ≡ c * t₁ * (i * j)
    back i j = ap (λ (n : ℕ). c * i * n * t₁) (one-mul j) ∙ simp (mul_assoc, mul_comm, mul_left_comm)
