-- Of a scale whose tests are passed: in the power part the decoded number is less than a tolerance from the exact value, where there is room
-- for it at the step. For the tolerance of the rules there is.
-- Assumes nothing.
use mathlib.Core.Path.{◌≡◌, ap, ◌∙◌, subst}
use mathlib.Core.List.{List}
use Prim.Native.Nat.{ℕ, ◌+◌, ◌-◌, ◌*◌, ◌^◌, ◌≤◌, ◌<◌}
use native.Mathlib.Nat.{mul-lt-mul_of_pos_right, mul_comm, mul-sub, mul-le-mul_left, mul-pos, div-mul-le_self, lt-div-mul-add}
use native.Mathlib.Omega.{arith}
use lib.Dec.{T, ltb, ltb→lt, lit<}
use lib.IntN.{ℤ, sub_ℕ}
use Rattle.whole.specs.Parts.{up, dn}
use Rattle.whole.proofs.Reflect.{sub_dif}
use Rattle.whole.proofs.Tidy.{tidy}
use Rattle.rules.specs.Fraction.{Fraction, ratio, whole, integer, ◌+ℚ◌, ◌-ℚ◌, ◌*ℚ◌, Versus, VersusPower, Less, Greater}
use Rattle.rules.specs.Curve.{base, exponent, factor}
use Rattle.rules.specs.Curve as curve
use Rattle.rules.specs.Exact.{Scale, signal, power_for}
use Rattle.rules.specs.Decoding.{tolerance}
use Rattle.rules.specs.Decoding as decoding
use Rattle.rules.proofs.Values.{less, flip}
use Rattle.power.specs.Power.{Below, Above}
use Rattle.power.proofs.Interval.{below_lt, above_lt}
use Rattle.curve_table.specs.Table.{lift}
use Rattle.decode.specs.Decoded.{offset, product, power_raw, decoder_of}
use Rattle.decode.proofs.Cleared.{above, exponent_at}
use Rattle.whole.proofs.Tests.{nth, passes, every}
use Rattle.decode.proofs.Tests.{Source, Tested, b, by, q, times, kappa, plus_less, minus_less, begin, entry, unit, first, bias, room_tests}
use Rattle.decode.proofs.Law.{q_nonzero, law, product_positive}
use Rattle.decode.proofs.Compare.{lift_pos, wanted, wanted_is, lifted_ok, by_rules}

-- ---- naturals: a difference that stops at 0
cut_lt : (A B C w : ℕ) → 0 < C → A * w < B * w + C → (A - B) * w < C
cut_lt A B C w p h = omega (arith, mul_comm (A - B) w ∙ mul-sub w A B)

cut_gt : (A B C w : ℕ) → C + B * w < A * w → C < (A - B) * w
cut_gt A B C w h = omega (arith, mul_comm (A - B) w ∙ mul-sub w A B)

-- the number u of the product v (with the bias i, at w a unit): u - o - N / D is too small for v, and u - o + N / D too large for v + 5
low_enough : (D N κ u v i w Y Z o : ℕ) → 0 < D * κ * v → u * w ≤ v + i → T (ltb (D * κ * i + Y * w) (κ * (D * o + N) * w + Z * w))
    → (D * u * κ + Y - ((D * o + N) * κ + Z)) * w < D * κ * v
low_enough D N κ u v i w Y Z o p h t =
    cut_lt (D * u * κ + Y) ((D * o + N) * κ + Z) (D * κ * v) w p (omega (arith, ltb→lt, mul-le-mul_left (D * κ) h))

high_enough : (D N κ u v i w Y Z o : ℕ) → v + i < u * w + w → T (ltb (D * κ * w + 4 * (D * κ) + D * o * κ * w + Z * w) (N * κ * w + Y * w + D * κ * i))
    → D * κ * (v + 5) < ((D * u + N) * κ + Y - (D * o * κ + Z)) * w
high_enough D N κ u v i w Y Z o h t =
    cut_gt ((D * u + N) * κ + Y) (D * o * κ + Z) (D * κ * (v + 5)) w (omega (arith, ltb→lt, mul-le-mul_left (D * κ) h))

-- what the tests say at the scale of the program, as the powers want it
scaled_low : (X B T H M D v : ℕ) → 0 < B * T → X * 2 ^ 27 < D * (H * M) * v → X * B * (2 ^ 51 * T) < H * B * v * (D * 2 ^ 24 * T * M)
scaled_low X B T H M D v p h = omega (arith, mul-lt-mul_of_pos_right {k = B * T} h p)

scaled_high : (X B T H M D v : ℕ) → 0 < B * T → D * (H * M) * v < X * 2 ^ 27 → H * B * v * (D * 2 ^ 24 * T * M) < X * B * (2 ^ 51 * T)
scaled_high X B T H M D v p h = omega (arith, mul-lt-mul_of_pos_right {k = B * T} h p)

-- the number less N / D, and with it, as the tests and as the rules write them: u is y with the offset
less_bound : (N D : ℕ) (y : ℤ) (u : ℕ) → up y + offset ≡ u + dn y
    → Versus (λ i j. i ≡ j) (record { plus = D * u; minus = D * offset + N; over = D * 2 ^ 24 }) ((integer y -ℚ ratio N D) *ℚ decoding.unit)
less_bound N D y u e = simp tidy (omega (arith, ap (λ (w : ℕ). w * (D * D * 2 ^ 24)) e))

with_bound : (N D : ℕ) (y : ℤ) (u : ℕ) → up y + offset ≡ u + dn y
    → Versus (λ i j. i ≡ j) (record { plus = D * u + N; minus = D * offset; over = D * 2 ^ 24 }) ((integer y +ℚ ratio N D) *ℚ decoding.unit)
with_bound N D y u e = simp tidy (omega (arith, ap (λ (w : ℕ). w * (D * D * 2 ^ 24)) e))

-- ROOM at the step n for a tolerance N / D: the number less N / D is too small for the product v, and with it too large for v + 5, between
-- which the power is
pub record Room (k : Scale) (t : List ℕ) (n N D : ℕ) : Type 0 where
  pub low :
      (D * power_raw (decoder_of k) t n * kappa k + D * 2 ^ 24 * plus_less k - ((D * offset + N) * kappa k + D * 2 ^ 24 * minus_less k)) * 2 ^ 27
      < D * kappa k * product t n
  pub high :
      D * kappa k * (product t n + 5)
      < ((D * power_raw (decoder_of k) t n + N) * kappa k + D * 2 ^ 24 * plus_less k - (D * offset * kappa k + D * 2 ^ 24 * minus_less k)) * 2 ^ 27

module _ {k : Scale} {g : ℕ} {t : List ℕ} {s : Source} (ok : Tested k g t s) (n : ℕ) (from : first k ≤ n) (to : n ≤ k.last) where
  -- the number, with the offset
  abbrev u : ℕ
  u = power_raw (decoder_of k) t n

  -- room where the product with two biases, i below and j above, is rounded down to the number
  pub room_by : (N D : ℕ) → 0 < D → (i j : ℕ) → u * 2 ^ 27 ≤ product t n + i → product t n + j < u * 2 ^ 27 + 2 ^ 27
      → T (every (room_tests k N D i j)) → Room k t n N D
  unfolding nth
  room_by N D pD i j below above r =
      record {
        low =
            low_enough D N (kappa k) u (product t n) i (2 ^ 27) (D * 2 ^ 24 * plus_less k) (D * 2 ^ 24 * minus_less k) offset
            (mul-pos (mul-pos pD ok.kappa_pos) (product_positive ok n from to)) below (passes (room_tests k N D i j) r 0);
        high = high_enough D N (kappa k) u (product t n) j (2 ^ 27) (D * 2 ^ 24 * plus_less k) (D * 2 ^ 24 * minus_less k) offset above (passes (room_tests k N D i j) r 1);
      }

  -- for the rules' tolerance, by the tests
  pub room : Room k t n tolerance.plus tolerance.over
  room =
      room_by tolerance.plus tolerance.over (lit< tt) (bias k) (bias k) (div-mul-le_self (product t n + bias k) (2 ^ 27)) (lt-div-mul-add {a = product t n + bias k} {b = 2 ^ 27} (lit< tt))
      ok.has_room

  exponent_at_lem : begin k + n * by k ≡ (exponent_at k n 1).plus + (lift * q k - (exponent_at k n 1).minus)
  exponent_at_lem = omega (arith, lifted_ok ok n 1 (lit< tt))

  -- the value (p - m) / (D * 2 ^ 24) is below the exact value, above it
  module _ (D : ℕ) (pD : 0 < D) (p m : ℕ) (y : Fraction) (py : 0 < y.over) (e : Versus (λ i j. i ≡ j) (record { plus = p; minus = m; over = D * 2 ^ 24 }) y) where
    abbrev value : Fraction
    value = record { plus = p; minus = m; over = D * 2 ^ 24 }

    below_power : (p * kappa k + D * 2 ^ 24 * plus_less k - (m * kappa k + D * 2 ^ 24 * minus_less k)) * 2 ^ 27 < D * kappa k * product t n
        → VersusPower Less (power_for k.curve y) (base k.curve) (exponent k.curve (signal k (whole n)))
    below_power h =
        by_rules ok n 1 (lit< tt) less value y (mul-pos pD (lit< tt)) py e
        (below_lt (wanted k value * b k ^ lift) (power_for k.curve value).over (q_nonzero ok)
        (scaled_low (wanted k value) (b k ^ lift) (times k) (factor k.curve).over (curve.less k.curve).over D (product t n) (lift_pos ok) (rw (wanted_is k value) h))
        (subst (λ (i : ℕ). Below (b k) (q k) i (entry k * product t n) (unit k)) exponent_at_lem (law ok n to).lower))

    above_power : D * kappa k * (product t n + 5) < (p * kappa k + D * 2 ^ 24 * plus_less k - (m * kappa k + D * 2 ^ 24 * minus_less k)) * 2 ^ 27
        → VersusPower Greater (power_for k.curve y) (base k.curve) (exponent k.curve (signal k (whole n)))
    above_power h =
        by_rules ok n 1 (lit< tt) (flip less) value y (mul-pos pD (lit< tt)) py e
        (above_lt (wanted k value * b k ^ lift) (power_for k.curve value).over (q_nonzero ok)
        (scaled_high (wanted k value) (b k ^ lift) (times k) (factor k.curve).over (curve.less k.curve).over D (product t n + 5) (lift_pos ok) (rw (wanted_is k value) h))
        (subst (λ (i : ℕ). Above (b k) (q k) i (entry k * (product t n + 5)) (unit k)) exponent_at_lem (law ok n to).upper))

  -- THE BOUND: where there is room, the number less N / D is below the exact value, and with it above
  module _ (N D : ℕ) (pD : 0 < D) (r : Room k t n N D) where
    pub below_exact : VersusPower Less (power_for k.curve ((integer (sub_ℕ u offset) -ℚ ratio N D) *ℚ decoding.unit)) (base k.curve) (exponent k.curve (signal k (whole n)))
    below_exact =
        below_power D pD (D * u) (D * offset + N) ((integer (sub_ℕ u offset) -ℚ ratio N D) *ℚ decoding.unit) (mul-pos (mul-pos (lit< tt) pD) (lit< tt))
        (less_bound N D (sub_ℕ u offset) u (sub_dif u offset))
        r.low

    pub above_exact : VersusPower Greater (power_for k.curve ((integer (sub_ℕ u offset) +ℚ ratio N D) *ℚ decoding.unit)) (base k.curve) (exponent k.curve (signal k (whole n)))
    above_exact =
        above_power D pD (D * u + N) (D * offset) ((integer (sub_ℕ u offset) +ℚ ratio N D) *ℚ decoding.unit) (mul-pos (mul-pos (lit< tt) pD) (lit< tt))
        (with_bound N D (sub_ℕ u offset) u (sub_dif u offset))
        r.high
