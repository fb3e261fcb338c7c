-- Of a scale whose tests are passed: the product of a step's three entries encloses the step's power.
-- Assumes nothing.
use mathlib.Core.Path.{◌≡◌, ap, ◌∙◌, subst}
use mathlib.Core.Logic.{◌≢◌}
use mathlib.Core.List.{List}
use Prim.Native.Nat.{ℕ, ◌+◌, ◌*◌, ◌/◌, ◌%◌, ◌^◌, ◌≤◌, ◌<◌}
use native.Mathlib.Nat.{le_of_lt, le_refl, le_trans, le_of_eq, lt_of_le_of_lt, mul-le-mul_left, mul-le-mul_right, mul-lt-mul_of_pos_right, mul-pos, div-lt_iff_lt-mul, mul_assoc, mul_comm, mul_left_comm, add-le-add, one-mul, pow-zero, ne_of_gt, le_of_mul-le-mul_right}
use native.Mathlib.Omega.{arith}
use lib.Dec.{lit<}
use lib.ListN.{get_or, take, drop}
use lib.Seq.{get_or-take, get_or-drop}
use Rattle.rules.specs.Exact.{Scale}
use Rattle.power.specs.Power.{Below, Above}
use Rattle.power.proofs.Interval.{below_mul, above_mul, cross, below_up}
use Rattle.power.proofs.Certificate.{below_by, above_by}
use Rattle.power.proofs.Rows.{In, in_one, in_at, in_squares, in_high, row_at}
use Rattle.curve_table.specs.Table.{fine}
use Rattle.decode.specs.Decoded.{product}
use Rattle.decode.proofs.Tests.{Source, Tested, slack, below_at, bits_of, b, by, q, unit, begin, entry, first, count}

-- ---- digits and scales
sums : (m a x y z : ℕ) → m + x * (a * 2 ^ 10) + (0 + y * (a * 2 ^ 5)) + (0 + z * a) ≡ m + (x * 2 ^ 10 + y * 2 ^ 5 + z) * a
sums m a x y z = omega arith

digits : (n : ℕ) → n / 1024 * 2 ^ 10 + n / 32 % 32 * 2 ^ 5 + n % 32 ≡ n
digits n = omega arith

one_times : (m x : ℕ) → m ^ 0 * x ≡ x
one_times m x = ap (λ (w : ℕ). w * x) (pow-zero m) ∙ one-mul x

scale₁ : (h g t : ℕ) → h * g ≡ 2 ^ 63 → 4 * (h * t) * g ≡ 2 ^ 64 * (2 * t)
scale₁ h g t e = omega (arith, ap (λ (x : ℕ). 4 * t * x) e)

scale₂ : (t : ℕ) → 2 * t * 2 ^ 63 ≡ 2 ^ 64 * t
scale₂ t = omega arith

module _ {k : Scale} {g : ℕ} {t : List ℕ} {s : Source} (ok : Tested k g t s) where
  pub q_nonzero : q k ≢ 0
  q_nonzero = λ e. ne_of_gt ok.q_pos e

  -- ---- the seeds
  pub ratio : In (b k) (q k) (by k) s.ratio (s.ratio + slack) fine
  ratio =
      record {
        lower = subst (λ (x : ℕ). Below (b k) (q k) (by k) x fine) (one_times (b k) s.ratio) (below_by (b k) fine (q k) (by k) 0 s.ratio (bits_of (q k)) ok.base_pos (lit< tt) ok.ratio_low);
        upper = subst (λ (x : ℕ). Above (b k) (q k) (by k) x fine) (one_times (b k) (s.ratio + slack)) (above_by (b k) fine (q k) (by k) 0 (s.ratio + slack) (bits_of (q k)) ok.base_pos (lit< tt) ok.ratio_high);
      }

  beginning : In (b k) (q k) (begin k) (b k ^ s.front * s.first) (b k ^ s.front * (s.first + slack)) fine
  beginning =
      record {
        lower = below_by (b k) fine (q k) (begin k) s.front s.first (bits_of (q k)) ok.base_pos (lit< tt) ok.first_low;
        upper = above_by (b k) fine (q k) (begin k) s.front (s.first + slack) (bits_of (q k)) ok.base_pos (lit< tt) ok.first_high;
      }

  -- ---- the entries
  top_at : (j : ℕ) → j < count k → In (b k) (q k) (begin k + j * (by k * 2 ^ 10)) (entry k * get_or t j 0) (entry k * (get_or t j 0 + 1)) (4 * (s.shift * unit k))
  top_at j h =
      subst (λ (x : ℕ). In (b k) (q k) (begin k + j * (by k * 2 ^ 10)) (entry k * x) (entry k * (x + 1)) (4 * (s.shift * unit k)))
      (get_or-take (count k) t j 0 h)
      (row_at (entry k) (4 * (s.shift * unit k)) (lit< tt) (in_squares (lit< tt) 10 ratio) (take (count k) t) beginning ok.top_row j
      (rw ok.top_count h))

  middle_at : (j : ℕ) → j < 32 → In (b k) (q k) (0 + j * (by k * 2 ^ 5)) (1 * get_or t (64 + j) 0) (1 * (get_or t (64 + j) 0 + 1)) (2 ^ 63 / s.shift)
  middle_at j h =
      subst (λ (x : ℕ). In (b k) (q k) (0 + j * (by k * 2 ^ 5)) (1 * x) (1 * (x + 1)) (2 ^ 63 / s.shift))
      (get_or-take 32 (drop 64 t) j 0 h ∙ get_or-drop 64 t j 0)
      (row_at 1 (2 ^ 63 / s.shift) (lit< tt) (in_squares (lit< tt) 5 ratio) (take 32 (drop 64 t)) (in_one (b k) (q k) fine) ok.middle_row j
      (rw ok.middle_count h))

  low_at : (j : ℕ) → j < 32 → In (b k) (q k) (0 + j * by k) (1 * get_or t (96 + j) 0) (1 * (get_or t (96 + j) 0 + 1)) (2 ^ 63)
  low_at j h =
      subst (λ (x : ℕ). In (b k) (q k) (0 + j * by k) (1 * x) (1 * (x + 1)) (2 ^ 63))
      (get_or-take 32 (drop 96 t) j 0 h ∙ get_or-drop 96 t j 0)
      (row_at 1 (2 ^ 63) (lit< tt) ratio (take 32 (drop 96 t)) (in_one (b k) (q k) fine) ok.low_row j
      (rw ok.low_count h))

  entry_small : (j : ℕ) → get_or t j 0 < 2 ^ 64
  entry_small j = below_at (2 ^ 64) (lit< tt) t ok.entries_small j

  positive : (h g u : ℕ) → h * g ≡ 2 ^ 63 → 0 < u → 0 < 4 * (h * u) * g
  positive h g u e p = rw (scale₁ h g u e) (omega arith)

  -- ---- the product of three entries
  enclosed : (n : ℕ) → n ≤ k.last → In (b k) (q k) (begin k + n / 1024 * (by k * 2 ^ 10) + (0 + n / 32 % 32 * (by k * 2 ^ 5)) + (0 + n % 32 * by k)) (entry k * product t n) (entry k * (product t n + 5)) (unit k)
  enclosed n hn =
      in_high (entry k) 3 (get_or t (n / 1024) 0 * get_or t (64 + n / 32 % 32) 0 / 2 ^ 64) (get_or t (96 + n % 32) 0) (2 ^ 64) (unit k)
      (two_pos (unit k) ok.unit_pos) (scale₂ (unit k))
      ((div-lt_iff_lt-mul (lit< tt)).1 (lt_of_le_of_lt (mul-le-mul_left (get_or t (n / 1024) 0) (le_of_lt (entry_small (64 + n / 32 % 32)))) (mul-lt-mul_of_pos_right (entry_small (n / 1024)) (lit< tt))))
      (entry_small (96 + n % 32)) (lit< tt)
      (in_high (entry k) 1 (get_or t (n / 1024) 0) (get_or t (64 + n / 32 % 32) 0) (2 ^ 64) (2 * unit k)
      (positive s.shift (2 ^ 63 / s.shift) (unit k) ok.shifted ok.unit_pos) (scale₁ s.shift (2 ^ 63 / s.shift) (unit k) ok.shifted)
      (entry_small (n / 1024)) (entry_small (64 + n / 32 % 32)) (lit< tt) (top_at (n / 1024) (quotient n k.last hn)) (middle_at (n / 32 % 32) (below_32 (n / 32))))
      (low_at (n % 32) (below_32 n))
    where
      two_pos : (u : ℕ) → 0 < u → 0 < 2 * u * 2 ^ 63
      two_pos u p = omega arith

      quotient : (n m : ℕ) → n ≤ m → n / 1024 < m / 1024 + 1
      quotient n m h = omega arith

      below_32 : (n : ℕ) → n % 32 < 32
      below_32 n = omega arith

  -- THE LAW of a step's product
  pub law : (n : ℕ) → n ≤ k.last → In (b k) (q k) (begin k + n * by k) (entry k * product t n) (entry k * (product t n + 5)) (unit k)
  law n h =
      in_at (begin k + n * by k)
      (sums (begin k) (by k) (n / 1024) (n / 32 % 32) (n % 32) ∙ ap (λ (j : ℕ). begin k + j * by k) (digits n))
      (enclosed n h)

  -- a later step's product is not less, but for the rounding
  pub no_less : (m n : ℕ) → m ≤ n → n ≤ k.last → product t m ≤ product t n + 5
  no_less m n h g =
      le_of_mul-le-mul_right {k = entry k * unit k}
      (sorted (entry k) (unit k) (product t m) (product t n + 5)
      (cross q_nonzero (below_up (begin k + n * by k) ok.base_pos (add-le-add (le_refl (begin k)) (mul-le-mul_right (by k) h)) (law m (le_trans h g)).lower) (law n g).upper))
      ok.cancel_pos
    where
      sorted : (c u x y : ℕ) → c * x * u ≤ c * y * u → x * (c * u) ≤ y * (c * u)
      sorted c u x y h = omega arith

  -- so it is above 0 in the power part
  pub product_positive : (n : ℕ) → first k ≤ n → n ≤ k.last → 0 < product t n
  product_positive n g h = above_five (no_less (first k) n g h) ok.least_large
    where
      above_five : {x y : ℕ} → x ≤ y + 5 → 5 < x → 0 < y
      above_five f g = omega arith

  -- the next step's product
  next_exponent : (n : ℕ) → begin k + (n + 1) * by k ≡ begin k + n * by k + by k
  next_exponent n = omega arith

  in_next : (n : ℕ) → n < k.last → In (b k) (q k) (begin k + n * by k + by k) (entry k * product t (n + 1)) (entry k * (product t (n + 1) + 5)) (unit k)
  in_next n h = in_at (begin k + n * by k + by k) (next_exponent n) (law (n + 1) (one_more k.last h))
    where
      one_more : (m : ℕ) → n < m → n + 1 ≤ m
      one_more m h = omega arith

  pub next_low : (n : ℕ) → n < k.last → product t n * s.ratio ≤ (product t (n + 1) + 5) * fine
  next_low n h =
      cancel (entry k) (unit k) (product t n * s.ratio) (product t (n + 1) + 5) fine ok.cancel_pos
      (cross q_nonzero (below_mul (entry k * (product t n * s.ratio)) (unit k * fine) (mul-pos ok.unit_pos (lit< tt)) (le_of_eq (sort (entry k) (product t n) s.ratio (unit k * fine))) (law n (le_of_lt h)).lower ratio.lower)
      (in_next n h).upper)
    where
      sort : (c v l w : ℕ) → c * (v * l) * w ≡ c * v * l * w
      sort c v l w = omega arith

      cancel : (c u x y w : ℕ) → 0 < c * u → c * x * u ≤ c * y * (u * w) → x ≤ y * w
      cancel c u x y w p h = le_of_mul-le-mul_right {k = c * u} (le_trans (le_of_eq (simp (mul_assoc, mul_comm, mul_left_comm))) (le_trans h (le_of_eq (simp (mul_assoc, mul_comm, mul_left_comm))))) p

  pub next_high : (n : ℕ) → n < k.last → product t (n + 1) * fine ≤ (product t n + 5) * (s.ratio + slack)
  next_high n h =
      cancel (entry k) (unit k) (product t (n + 1)) ((product t n + 5) * (s.ratio + slack)) fine ok.cancel_pos
      (cross q_nonzero (in_next n h).lower
      (above_mul (entry k * ((product t n + 5) * (s.ratio + slack))) (unit k * fine) (mul-pos ok.unit_pos (lit< tt)) (le_of_eq (sort (entry k) (product t n + 5) (s.ratio + slack) (unit k * fine))) (law n (le_of_lt h)).upper ratio.upper))
    where
      sort : (c v l w : ℕ) → c * v * l * w ≡ c * (v * l) * w
      sort c v l w = omega arith

      cancel : (c u x y w : ℕ) → 0 < c * u → c * x * (u * w) ≤ c * y * u → x * w ≤ y
      cancel c u x y w p h = le_of_mul-le-mul_right {k = c * u} (le_trans (le_of_eq (simp (mul_assoc, mul_comm, mul_left_comm))) (le_trans h (le_of_eq (simp (mul_assoc, mul_comm, mul_left_comm))))) p
