-- Of a scale whose tests are passed: the midpoint from a step's number to the next step's lies between the exact values a third and two thirds
-- of the way. So does what is at most, or at least, the midpoint.
-- Assumes nothing.
use mathlib.Core.Bool.{Bool, true, false, not}
use mathlib.Core.List.{List}
use mathlib.Core.Path.{◌≡◌, refl, ◌∙◌, subst, subst₂}
use Prim.Native.Nat.{ℕ, ◌+◌, ◌-◌, ◌*◌, ◌^◌, ◌≤◌, ◌<◌}
use native.Mathlib.Nat.{le_of_eq, le_of_lt, mul-pos, mul-le-mul_right, div-mul-le_self, lt-div-mul-add, not-le_of_lt}
use native.Mathlib.Omega.{arith}
use borrow.Author.Tests.{ltb-true, ltb-false}
use lib.Dec.{T, ltb, leb→le, le→leb, lit<, not_T}
use lib.IntN.{ℤ}
use Rattle.whole.specs.Parts.{up, dn}
use Rattle.whole.proofs.Tidy.{tidy}
use Rattle.rules.specs.Choice.{choose}
use Rattle.rules.specs.Fraction.{Fraction, ratio, integer, ◌*ℚ◌, Versus, VersusPower, AtMost, AtLeast}
use Rattle.rules.specs.Curve.{Curve, log_c4, log_c, Constants, base, exponent, less, factor, border, in_toe, toe_value}
use Rattle.rules.specs.Exact.{Scale, power_for, VersusPart, VersusExact}
use Rattle.rules.specs.Decoding as decoding
use Rattle.rules.proofs.Values as values
use Rattle.power.specs.Power.{Below, below, Above, above}
use Rattle.power.proofs.Interval.{below_mul, above_mul, below_le, above_le, below_raise, above_raise, below_root, above_root}
use Rattle.power.proofs.Rows.{In, in_mul}
use Rattle.curve_table.specs.Table.{lift, fine}
use Rattle.decode.specs.Decoded.{offset, product, raw_by, decoder_of, first_of, toe_of, over_of}
use Rattle.decode.proofs.Cleared.{exponent_at}
use Rattle.decode.proofs.Tests.{Source, Tested, slack, b, by, q, times, kappa, plus_less, minus_less, begin, entry, unit, first, bias}
use Rattle.decode.proofs.Law as law
use Rattle.decode.proofs.Right.{raw_toe, raw_power, passed, failed}
use Rattle.decode.proofs.Compare.{wanted, wanted_is, lifted_ok, by_rules}
use Rattle.encode.proofs.Sums.{half_le, half_ge, half_toe_le, half_toe_ge, power_le, power_ge}
use Rattle.encode.proofs.ThirdTests.{third, two_thirds, wide, added, taken, under_product, over_product, under_value, over_value, signal_at, under_two_thirds, over_third, spare_up, spare_down, Thirds}

-- a scene number as a value, as the tests write it
abbrev units : ℤ → Fraction
units x = record { plus = up x; minus = dn x; over = 2 ^ 24 }

same_units : (x : ℤ) → Versus (λ i j. i ≡ j) (units x) (integer x *ℚ decoding.unit)
same_units x = simp tidy (omega arith)

-- what the tests say at the scale of the program, as the powers want it
scaled_le : (X B T H M S N : ℕ) → X * (2 ^ 27 * S) ≤ H * M * N → X * B * (2 ^ 51 * T * S) ≤ H * B * N * (2 ^ 24 * T * M)
scaled_le X B T H M S N h = omega (arith, mul-le-mul_right (B * T * 2 ^ 24) h)

scaled_ge : (X B T H M S N : ℕ) → H * M * N ≤ X * (2 ^ 27 * S) → H * B * N * (2 ^ 24 * T * M) ≤ X * B * (2 ^ 51 * T * S)
scaled_ge X B T H M S N h = omega (arith, mul-le-mul_right (B * T * 2 ^ 24) h)

at_most_power : {b q m x s : ℕ} → Below b q m x s → x ^ q ≤ b ^ m * s ^ q
at_most_power (below h) = h

at_least_power : {b q m x s : ℕ} → Above b q m x s → b ^ m * s ^ q ≤ x ^ q
at_least_power (above h) = h

-- the midpoint against a value
value_at_most : (y : ℤ) (v : Fraction) (A : ℕ) → T (under_value A v) → 2 * (up y + offset) ≤ A + 2 * dn y → Versus AtMost (integer y *ℚ decoding.unit) v
value_at_most y v A g i = simp tidy (half_toe_le v.over v.minus v.plus (2 ^ 24) A offset (up y) (dn y) (leb→le _ _ g) i)

value_at_least : (y : ℤ) (v : Fraction) (A : ℕ) → T (over_value A v) → A + 2 * dn y ≤ 2 * (up y + offset) → Versus AtLeast (integer y *ℚ decoding.unit) v
value_at_least y v A g i = simp tidy (half_toe_ge v.over v.minus v.plus (2 ^ 24) A offset (up y) (dn y) (leb→le _ _ g) i)

split : (x y : ℕ) → y ≤ x → x ≡ x - y + y
split x y h = omega arith

module _ {k : Scale} {g : ℕ} {t : List ℕ} {s : Source} (ok : Tested k g t s) (thirds : Thirds k t s) where
  -- ---- the power of a step and a third, or two thirds
  third_in : In (b k) (q k * 3) (by k) (third s) (third s + slack) fine
  third_in =
      record {
        lower = below_root 3 (third s) (lit< tt) thirds.third_low (law.ratio ok).lower;
        upper = above_root 3 (third s + slack) (lit< tt) thirds.third_high (law.ratio ok).upper;
      }

  over₃ : q k * 3 ≡ (exponent_at k 0 3).over
  over₃ = omega arith

  plus₃ : (n j : ℕ) → (begin k + n * by k) * 3 + j * by k ≡ (exponent_at k (3 * n + j) 3).plus + (lift * (exponent_at k 0 3).over - (exponent_at k 0 3).minus)
  plus₃ n j = omega (arith, lifted_ok ok 0 1 (lit< tt))

  scale_pos : 0 < unit k * fine
  scale_pos = mul-pos ok.unit_pos (lit< tt)

  -- the exponent of the step n + j / 3, lifted
  abbrev exponent₃ : (n j : ℕ) → ℕ
  exponent₃ n j = (exponent_at k (3 * n + j) 3).plus + (lift * (exponent_at k 0 3).over - (exponent_at k 0 3).minus)

  above_third : (n : ℕ) → n ≤ k.last → Above (b k) (exponent_at k 0 3).over (exponent₃ n 1) (entry k * ((product t n + 5) * (third s + slack))) (unit k * fine)
  above_third n h =
      subst (λ (d : ℕ). Above (b k) d (exponent₃ n 1) (entry k * ((product t n + 5) * (third s + slack))) (unit k * fine)) over₃
      (subst (λ (m : ℕ). Above (b k) (q k * 3) m (entry k * ((product t n + 5) * (third s + slack))) (unit k * fine)) (once ((begin k + n * by k) * 3) (by k) ∙ plus₃ n 1)
      (above_mul (entry k * ((product t n + 5) * (third s + slack))) (unit k * fine) scale_pos (le_of_eq (sort (entry k) (product t n + 5) (third s + slack) (unit k * fine)))
      (above_raise 3 (law.law ok n h).upper) third_in.upper))
    where
      once : (m a : ℕ) → m + a ≡ m + 1 * a
      once m a = omega arith

      sort : (c v l w : ℕ) → c * v * l * w ≡ c * (v * l) * w
      sort c v l w = omega arith

  below_thirds : (n : ℕ) → n ≤ k.last → Below (b k) (exponent_at k 0 3).over (exponent₃ n 2) (entry k * (product t n * two_thirds s)) (unit k * fine)
  below_thirds n h =
      subst (λ (d : ℕ). Below (b k) d (exponent₃ n 2) (entry k * (product t n * two_thirds s)) (unit k * fine)) over₃
      (subst (λ (m : ℕ). Below (b k) (q k * 3) m (entry k * (product t n * two_thirds s)) (unit k * fine)) (twice ((begin k + n * by k) * 3) (by k) ∙ plus₃ n 2)
      (below_mul (entry k * (product t n * two_thirds s)) (unit k * fine) scale_pos (le_of_eq (sort (entry k) (product t n) (two_thirds s) (unit k * fine)))
      (below_raise 3 (law.law ok n h).lower) (in_mul (lit< tt) third_in third_in).lower))
    where
      twice : (m a : ℕ) → m + (a + a) ≡ m + 2 * a
      twice m a = omega arith

      sort : (c v l w : ℕ) → c * (v * l) * w ≡ c * v * l * w
      sort c v l w = omega arith

  -- ---- where the place a third or two thirds on is of the power part: the midpoint is half of A, with the offset
  abbrev Power : (ℕ → ℕ → Type 0) → ℕ → ℤ → Type 0
  Power R x y = VersusPower R (power_for k.curve (integer y *ℚ decoding.unit)) (base k.curve) (exponent k.curve (signal_at k x))

  at_most_product : (n A : ℕ) (y : ℤ) → n ≤ k.last → T (under_product k A (product t n * two_thirds s)) → 2 * (up y + offset) ≤ A + 2 * dn y → Power AtMost (3 * n + 2) y
  at_most_product n A y h g i =
      by_rules ok (3 * n + 2) 3 (lit< tt) values.at_most_lem (units y) (integer y *ℚ decoding.unit) (lit< tt) (lit< tt) (same_units y)
      (at_most_power (below_le (wanted k (units y) * b k ^ lift) (power_for k.curve (units y)).over scale_pos
      (scaled_le (wanted k (units y)) (b k ^ lift) (times k) (factor k.curve).over (less k.curve).over fine (product t n * two_thirds s)
      (rw (wanted_is k (units y)) (half_le (kappa k) wide (2 ^ 24 * plus_less k) (2 ^ 24 * minus_less k) (product t n * two_thirds s) A offset (up y) (dn y) (leb→le _ _ g) i)))
      (below_thirds n h)))

  at_least_product : (n A : ℕ) (y : ℤ) → n ≤ k.last → T (over_product k A ((product t n + 5) * (third s + slack))) → A + 2 * dn y ≤ 2 * (up y + offset) → Power AtLeast (3 * n + 1) y
  at_least_product n A y h g i =
      by_rules ok (3 * n + 1) 3 (lit< tt) (values.flip values.at_most_lem) (units y) (integer y *ℚ decoding.unit) (lit< tt) (lit< tt) (same_units y)
      (at_least_power (above_le (wanted k (units y) * b k ^ lift) (power_for k.curve (units y)).over scale_pos
      (scaled_ge (wanted k (units y)) (b k ^ lift) (times k) (factor k.curve).over (less k.curve).over fine ((product t n + 5) * (third s + slack))
      (rw (wanted_is k (units y)) (half_ge (kappa k) wide (2 ^ 24 * plus_less k) (2 ^ 24 * minus_less k) ((product t n + 5) * (third s + slack)) A offset (up y) (dn y) (leb→le _ _ g) i)))
      (above_third n h)))

  -- FROM THE MIDPOINT to a number that is at most, at least that
  pub at_most_half : (n A : ℕ) (y : ℤ) → n ≤ k.last → T (under_two_thirds k t s n A) → 2 * (up y + offset) ≤ A + 2 * dn y → VersusExact AtMost k (ratio (3 * n + 2) 3) (integer y *ℚ decoding.unit)
  at_most_half n A y h g i = go (in_toe k.curve (signal_at k (3 * n + 2))) g
    where
      go : (x : Bool) → T (choose x (under_value A (toe_value k.curve (signal_at k (3 * n + 2)))) (under_product k A (product t n * two_thirds s)))
          → VersusPart AtMost k.curve (signal_at k (3 * n + 2)) (integer y *ℚ decoding.unit) x
      go true g = VersusPart.toe (value_at_most y (toe_value k.curve (signal_at k (3 * n + 2))) A g i)
      go false g = VersusPart.power (at_most_product n A y h g i)

  pub at_least_half : (n A : ℕ) (y : ℤ) → n ≤ k.last → T (over_third k t s n A) → A + 2 * dn y ≤ 2 * (up y + offset) → VersusExact AtLeast k (ratio (3 * n + 1) 3) (integer y *ℚ decoding.unit)
  at_least_half n A y h g i = go (in_toe k.curve (signal_at k (3 * n + 1))) g
    where
      go : (x : Bool) → T (choose x (over_value A (toe_value k.curve (signal_at k (3 * n + 1)))) (over_product k A ((product t n + 5) * (third s + slack))))
          → VersusPart AtLeast k.curve (signal_at k (3 * n + 1)) (integer y *ℚ decoding.unit) x
      go true g = VersusPart.toe (value_at_least y (toe_value k.curve (signal_at k (3 * n + 1))) A g i)
      go false g = VersusPart.power (at_least_product n A y h g i)

  -- ---- both steps of the power part
  abbrev u : ℕ → ℕ
  u n = raw_by (decoder_of k) t n

  product_low : (n : ℕ) → first k ≤ n → u n * 2 ^ 27 ≤ product t n + bias k
  product_low n h = rw (raw_power (decoder_of k) t n h) (div-mul-le_self (product t n + bias k) (2 ^ 27))

  product_high : (n : ℕ) → first k ≤ n → product t n + bias k < u n * 2 ^ 27 + 2 ^ 27
  product_high n h = rw (raw_power (decoder_of k) t n h) (lt-div-mul-add {a = product t n + bias k} {b = 2 ^ 27} (lit< tt))

  further : (n : ℕ) → first k ≤ n → first k ≤ n + 1
  further n h = more (first k) h
    where
      more : (f : ℕ) → f ≤ n → f ≤ n + 1
      more f h = omega arith

  powers_under : (n : ℕ) → first k ≤ n → n < k.last → T (under_product k (u n + u (n + 1)) (product t n * two_thirds s))
  powers_under n g h =
      le→leb _ _
      (power_le (kappa k) (2 ^ 27) fine (added k) (taken k) (bias k) (product t n) (product t (n + 1)) (s.ratio + slack) (two_thirds s) (spare_up s) (product t (first k)) (u n) (u (n + 1))
      (product_low n g) (product_low (n + 1) (further n g)) (law.next_high ok n h) (law.no_less ok (first k) n g (le_of_lt h))
      (split (2 * two_thirds s) (fine + (s.ratio + slack)) thirds.apart_up)
      thirds.room_up)

  powers_over : (n : ℕ) → first k ≤ n → n < k.last → T (over_product k (u n + u (n + 1)) ((product t n + 5) * (third s + slack)))
  powers_over n g h =
      le→leb _ _
      (power_ge (kappa k) (2 ^ 27) fine (added k) (taken k) (bias k) (product t n) (product t (n + 1)) s.ratio (third s + slack) (spare_down s) (product t (first k)) (u n) (u (n + 1))
      (product_high n g) (product_high (n + 1) (further n g)) (law.next_low ok n h) (law.no_less ok (first k) n g (le_of_lt h))
      (split (fine + s.ratio) (2 * (third s + slack)) thirds.apart_down)
      thirds.room_down)

-- ---- the toe
module _ (c : Constants) (last : ℕ) where
  abbrev scale : Scale
  scale = record { curve = log_c c; last = last }

  toe_third : 1000000 * dn c.f ≤ c.e * c.cut + 1000000 * up c.f → (x n : ℕ) → n < first_of (log_c c) last → x ≤ 3 * n → T (in_toe (log_c c) (signal_at scale x))
  toe_third border_above x n h g = values.pass_test (signal_at scale x) (border c) (simp tidy (omega (arith, mul-le-mul_right last border_above)))

  below_first : (x n : ℕ) → 3 * n ≤ x → T (in_toe (log_c c) (signal_at scale x)) → n < first_of (log_c c) last
  below_first x n g h = omega (arith, simp tidy at (values.test_passed (signal_at scale x) (border c) h))

  power_third : (x n : ℕ) → first_of (log_c c) last ≤ n → 3 * n ≤ x → T (not (in_toe (log_c c) (signal_at scale x)))
  power_third x n h g = not_T (in_toe (log_c c) (signal_at scale x)) (λ t. not-le_of_lt (below_first x n g t) h)

  module _ (room : 2 ^ 25 * (up c.f * last) ≤ c.e * last * (2 * offset + 1) + 2 ^ 25 * (dn c.f * last)) (apart : 6 * (c.e * last) ≤ 2 ^ 25 * 1000000) where
    toe_le : (n a b : ℕ) → a * over_of (log_c c) last ≤ 2 ^ 25 * 1000000 * n + toe_of (log_c c) last → b * over_of (log_c c) last ≤ 2 ^ 25 * 1000000 * (n + 1) + toe_of (log_c c) last
        → (a + b) * (toe_value (log_c c) (signal_at scale (3 * n + 2))).over + 2 * ((toe_value (log_c c) (signal_at scale (3 * n + 2))).minus * 2 ^ 24)
        ≤ 2 * ((toe_value (log_c c) (signal_at scale (3 * n + 2))).plus * 2 ^ 24) + 2 * offset * (toe_value (log_c c) (signal_at scale (3 * n + 2))).over
    toe_le n a b f g = simp tidy (omega arith)

    toe_ge : (n a b : ℕ) → 2 ^ 25 * 1000000 * n + toe_of (log_c c) last < a * over_of (log_c c) last + over_of (log_c c) last
        → 2 ^ 25 * 1000000 * (n + 1) + toe_of (log_c c) last < b * over_of (log_c c) last + over_of (log_c c) last
        → 2 * ((toe_value (log_c c) (signal_at scale (3 * n + 1))).plus * 2 ^ 24) + 2 * offset * (toe_value (log_c c) (signal_at scale (3 * n + 1))).over
        ≤ (a + b) * (toe_value (log_c c) (signal_at scale (3 * n + 1))).over + 2 * ((toe_value (log_c c) (signal_at scale (3 * n + 1))).minus * 2 ^ 24)
    toe_ge n a b f g = simp tidy (omega arith)

-- ---- curve 4: the power part alone
module _ {last g : ℕ} {t : List ℕ} {s : Source} (ok : Tested (record { curve = log_c4; last = last }) g t s) (thirds : Thirds (record { curve = log_c4; last = last }) t s) where
  abbrev k4 : Scale
  k4 = record { curve = log_c4; last = last }

  under4 : (n : ℕ) → n < last → T (under_two_thirds k4 t s n (raw_by (decoder_of k4) t n + raw_by (decoder_of k4) t (n + 1)))
  under4 n h = powers_under ok thirds n (omega arith) h

  over4 : (n : ℕ) → n < last → T (over_third k4 t s n (raw_by (decoder_of k4) t n + raw_by (decoder_of k4) t (n + 1)))
  over4 n h = powers_over ok thirds n (omega arith) h

-- ---- a curve with a toe

-- the last step of the toe, and the first of the power part
at_border : (P : ℕ → ℕ → Type 0) (f n : ℕ) → f ≤ n + 1 → n < f → P (f - 1) f → P n (n + 1)
at_border P f n h g p = subst₂ P (before h g) (after h g) p
  where
    before : f ≤ n + 1 → n < f → f - 1 ≡ n
    before h g = omega arith

    after : f ≤ n + 1 → n < f → f ≡ n + 1
    after h g = omega arith

module _ {c : Constants} {last g : ℕ} {t : List ℕ} {s : Source} (ok : Tested (record { curve = log_c c; last = last }) g t s) (thirds : Thirds (record { curve = log_c c; last = last }) t s) where
  abbrev kc : Scale
  kc = record { curve = log_c c; last = last }

  abbrev uc : ℕ → ℕ
  uc n = raw_by (decoder_of kc) t n

  toe_low : (n : ℕ) → n < first kc → uc n * over_of (log_c c) last ≤ 2 ^ 25 * 1000000 * n + toe_of (log_c c) last
  toe_low n h = rw (raw_toe (decoder_of kc) t n h) (div-mul-le_self (2 ^ 25 * 1000000 * n + toe_of (log_c c) last) (over_of (log_c c) last))

  toe_high : (n : ℕ) → n < first kc → 2 ^ 25 * 1000000 * n + toe_of (log_c c) last < uc n * over_of (log_c c) last + over_of (log_c c) last
  toe_high n h =
      rw (raw_toe (decoder_of kc) t n h)
      (lt-div-mul-add {a = 2 ^ 25 * 1000000 * n + toe_of (log_c c) last} {b = over_of (log_c c) last} (twice (c.e * last) ok.toe.divisor))
    where
      twice : (d : ℕ) → 0 < d → 0 < 2 * d
      twice d h = omega arith

  earlier : (n : ℕ) → n + 1 < first kc → n < first kc
  earlier n h = before (first kc) h
    where
      before : (f : ℕ) → n + 1 < f → n < f
      before f h = omega arith

  toes_under : (n : ℕ) → n + 1 < first kc → T (under_two_thirds kc t s n (uc n + uc (n + 1)))
  toes_under n h =
      rw (passed (in_toe (log_c c) (signal_at kc (3 * n + 2))) (toe_third c last ok.toe.border_above (3 * n + 2) (n + 1) h (omega arith)))
      (le→leb _ _ (toe_le c last ok.toe.room thirds.border.apart n (uc n) (uc (n + 1)) (toe_low n (earlier n h)) (toe_low (n + 1) h)))

  toes_over : (n : ℕ) → n + 1 < first kc → T (over_third kc t s n (uc n + uc (n + 1)))
  toes_over n h =
      rw (passed (in_toe (log_c c) (signal_at kc (3 * n + 1))) (toe_third c last ok.toe.border_above (3 * n + 1) (n + 1) h (omega arith)))
      (le→leb _ _ (toe_ge c last ok.toe.room thirds.border.apart n (uc n) (uc (n + 1)) (toe_high n (earlier n h)) (toe_high (n + 1) h)))

  -- a fact of neighbouring steps, from the three places where they may be
  by_place : (P : ℕ → ℕ → Type 0) → ((n : ℕ) → n + 1 < first kc → P n (n + 1)) → P (first kc - 1) (first kc) → ((n : ℕ) → first kc ≤ n → n < last → P n (n + 1))
      → (n : ℕ) → n < last → P n (n + 1)
  by_place P f g h n l = go (ltb (n + 1) (first kc)) refl (ltb n (first kc)) refl
    where
      go : (x : Bool) → ltb (n + 1) (first kc) ≡ x → (y : Bool) → ltb n (first kc) ≡ y → P n (n + 1)
      go true e y i = f n (ltb-true (n + 1) (first kc) e)
      go false e true i = at_border P (first kc) n (ltb-false (n + 1) (first kc) e) (ltb-true n (first kc) i) g
      go false e false i = h n (ltb-false n (first kc) i) l

  under_c : (n : ℕ) → n < last → T (under_two_thirds kc t s n (uc n + uc (n + 1)))
  under_c =
      by_place (λ m n. T (under_two_thirds kc t s m (uc m + uc n))) toes_under thirds.border.up
      (λ n g h. rw (failed (in_toe (log_c c) (signal_at kc (3 * n + 2))) (power_third c last (3 * n + 2) n g (omega arith))) (powers_under ok thirds n g h))

  over_c : (n : ℕ) → n < last → T (over_third kc t s n (uc n + uc (n + 1)))
  over_c =
      by_place (λ m n. T (over_third kc t s m (uc m + uc n))) toes_over thirds.border.down
      (λ n g h. rw (failed (in_toe (log_c c) (signal_at kc (3 * n + 1))) (power_third c last (3 * n + 1) n g (omega arith))) (powers_over ok thirds n g h))

-- ---- of any curve
pub under : (c : Curve) (last g : ℕ) (t : List ℕ) (s : Source) → Tested (record { curve = c; last = last }) g t s → Thirds (record { curve = c; last = last }) t s
    → (n : ℕ) → n < last → T (under_two_thirds (record { curve = c; last = last }) t s n (raw_by (decoder_of (record { curve = c; last = last })) t n + raw_by (decoder_of (record { curve = c; last = last })) t (n + 1)))
under log_c4 last g t s ok thirds = under4 ok thirds
under (log_c c) last g t s ok thirds = under_c ok thirds

pub over : (c : Curve) (last g : ℕ) (t : List ℕ) (s : Source) → Tested (record { curve = c; last = last }) g t s → Thirds (record { curve = c; last = last }) t s
    → (n : ℕ) → n < last → T (over_third (record { curve = c; last = last }) t s n (raw_by (decoder_of (record { curve = c; last = last })) t n + raw_by (decoder_of (record { curve = c; last = last })) t (n + 1)))
over log_c4 last g t s ok thirds = over4 ok thirds
over (log_c c) last g t s ok thirds = over_c ok thirds
