-- What is computed of a scale for the rule of two thirds, as one list of tests; and the facts that it shows, by name.
-- Assumes nothing.
use mathlib.Core.Bool.{Bool}
use mathlib.Core.List.{List, [], ◌∷◌}
use Prim.Native.Nat.{ℕ, zero, suc, ◌+◌, ◌-◌, ◌*◌, ◌/◌, ◌^◌, ◌≤◌}
use lib.Dec.{T, leb, leb→le}
use Rattle.rules.specs.Choice.{choose}
use Rattle.rules.specs.Fraction.{Fraction, ratio}
use Rattle.rules.specs.Curve.{Curve, log_c4, log_c, Constants, in_toe, toe_value}
use Rattle.rules.specs.Exact.{Scale, signal}
use Rattle.curve_table.specs.Table.{fine}
use Rattle.decode.specs.Decoded.{offset, product, raw_by, decoder_of, first_of}
use Rattle.whole.proofs.Tests.{every, nth, passes}
use Rattle.decode.proofs.Tests.{Source, slack, kappa, plus_less, minus_less, first, bias}

-- ---- the cube root of the ratio, at the scale of the seeds: Newton's steps from a third of what the ratio is above 1
abbrev newton : (steps cube x : ℕ) → ℕ
newton zero cube x = x
newton (suc steps) cube x = newton steps cube ((2 * x + cube / (x * x)) / 3)

-- rounded down, and with slack up (the first two tests show it)
abbrev pub third : Source → ℕ
third s = newton 4 (s.ratio * fine ^ 2) (fine + (s.ratio - fine) / 3) - 1

-- its square, rounded down
abbrev pub two_thirds : Source → ℕ
two_thirds s = third s * third s / fine

-- ---- the midpoint of two numbers, whose sum, with the offset in each, is A

-- a unit, at the scale of a product and of the seeds
abbrev pub wide : ℕ
wide = 2 ^ 27 * fine

module _ (k : Scale) where
  -- what a comparison with the power part has besides: the curve's less, and the offset
  abbrev pub added : ℕ
  added = 2 * (2 ^ 24 * plus_less k * wide)

  abbrev pub taken : ℕ
  taken = 2 * offset * (kappa k * wide) + 2 * (2 ^ 24 * minus_less k * wide)

  -- it is at most, at least what the product N, at the scale of the seeds, stands for
  abbrev pub under_product : (A N : ℕ) → Bool
  under_product A N = leb (A * (kappa k * wide) + added) (2 * (kappa k * N) + taken)

  abbrev pub over_product : (A N : ℕ) → Bool
  over_product A N = leb (2 * (kappa k * N) + taken) (A * (kappa k * wide) + added)

-- it is at most, at least the value v
abbrev pub under_value : (A : ℕ) (v : Fraction) → Bool
under_value A v = leb (A * v.over + 2 * (v.minus * 2 ^ 24)) (2 * (v.plus * 2 ^ 24) + 2 * offset * v.over)

abbrev pub over_value : (A : ℕ) (v : Fraction) → Bool
over_value A v = leb (2 * (v.plus * 2 ^ 24) + 2 * offset * v.over) (A * v.over + 2 * (v.minus * 2 ^ 24))

-- ---- the midpoint from the step n to the next

-- the signal at the step x / 3
abbrev pub signal_at : Scale → ℕ → Fraction
signal_at k x = signal k (ratio x 3)

module _ (k : Scale) (t : List ℕ) (s : Source) (n A : ℕ) where
  -- it is at most the exact value at n + 2 / 3, and at least that at n + 1 / 3
  abbrev pub under_two_thirds : Bool
  under_two_thirds =
      choose (in_toe k.curve (signal_at k (3 * n + 2))) (under_value A (toe_value k.curve (signal_at k (3 * n + 2))))
      (under_product k A (product t n * two_thirds s))

  abbrev pub over_third : Bool
  over_third =
      choose (in_toe k.curve (signal_at k (3 * n + 1))) (over_value A (toe_value k.curve (signal_at k (3 * n + 1))))
      (over_product k A ((product t n + 5) * (third s + slack)))

-- ---- the toe, of a curve that has one: its steps are not too near; and the midpoint over the border, from the last step of the toe, l, to
-- the first of the power part, f
abbrev border_tests_at : (k : Scale) (den l f : ℕ) → List ℕ → Source → List Bool
border_tests_at k den l f t s =
    leb (6 * den) (2 ^ 25 * 1000000)
    ∷ under_two_thirds k t s l (raw_by (decoder_of k) t l + raw_by (decoder_of k) t f)
    ∷ over_third k t s l (raw_by (decoder_of k) t l + raw_by (decoder_of k) t f)
    ∷ []

abbrev pub border_tests : Curve → (last : ℕ) → List ℕ → Source → List Bool
border_tests log_c4 last t s = []
border_tests (log_c c) last t s =
    border_tests_at (record { curve = log_c c; last = last }) (c.e * last) (first_of (log_c c) last - 1) (first_of (log_c c) last) t s

abbrev border_sum : (k : Scale) (f : ℕ) → List ℕ → ℕ
border_sum k f t = raw_by (decoder_of k) t (f - 1) + raw_by (decoder_of k) t f

pub record Border (c : Constants) (last : ℕ) (t : List ℕ) (s : Source) : Type 0 where
  pub apart : 6 * (c.e * last) ≤ 2 ^ 25 * 1000000
  pub up : T (under_two_thirds (record { curve = log_c c; last = last }) t s (first_of (log_c c) last - 1) (border_sum (record { curve = log_c c; last = last }) (first_of (log_c c) last) t))
  pub down : T (over_third (record { curve = log_c c; last = last }) t s (first_of (log_c c) last - 1) (border_sum (record { curve = log_c c; last = last }) (first_of (log_c c) last) t))

abbrev pub HasBorder : Curve → (last : ℕ) → List ℕ → Source → Type 0
HasBorder log_c4 last t s = Unit {0}
HasBorder (log_c c) last t s = Border c last t s

border_tested : (c : Curve) (last : ℕ) (t : List ℕ) (s : Source) → T (every (border_tests c last t s)) → HasBorder c last t s
unfolding nth
border_tested log_c4 last t s h = tt
border_tested (log_c c) last t s h =
    let test = passes (border_tests (log_c c) last t s) h in
    record { apart = leb→le _ _ (test 0); up = test 1; down = test 2 }

-- ---- all of them

-- how much twice the two thirds are above a step and the next step's ratio, and twice the third is below it
abbrev pub spare_up : Source → ℕ
spare_up s = 2 * two_thirds s - (fine + (s.ratio + slack))

abbrev pub spare_down : Source → ℕ
spare_down s = fine + s.ratio - 2 * (third s + slack)

abbrev pub third_tests : (k : Scale) (t : List ℕ) (s : Source) → List Bool
third_tests k t s =
    leb (third s ^ 3 * fine) (s.ratio * fine ^ 3)
    ∷ leb ((s.ratio + slack) * fine ^ 3) ((third s + slack) ^ 3 * fine)
    ∷ leb (fine + (s.ratio + slack)) (2 * two_thirds s)
    ∷ leb (2 * (third s + slack)) (fine + s.ratio)
    ∷ leb (5 * kappa k * (s.ratio + slack) + 2 * kappa k * bias k * fine + added k + 5 * kappa k * spare_up s) (kappa k * product t (first k) * spare_up s + taken k)
    ∷ leb (10 * kappa k * (third s + slack) + 5 * kappa k * spare_down s + 5 * kappa k * fine + 2 * kappa k * 2 ^ 27 * fine + taken k) (kappa k * product t (first k) * spare_down s + 2 * kappa k * bias k * fine + added k)
    ∷ every (border_tests k.curve k.last t s)
    ∷ []

pub record Thirds (k : Scale) (t : List ℕ) (s : Source) : Type 0 where
  pub third_low : third s ^ 3 * fine ≤ s.ratio * fine ^ 3
  pub third_high : (s.ratio + slack) * fine ^ 3 ≤ (third s + slack) ^ 3 * fine
  pub apart_up : fine + (s.ratio + slack) ≤ 2 * two_thirds s
  pub apart_down : 2 * (third s + slack) ≤ fine + s.ratio
  pub room_up : 5 * kappa k * (s.ratio + slack) + 2 * kappa k * bias k * fine + added k + 5 * kappa k * spare_up s ≤ kappa k * product t (first k) * spare_up s + taken k
  pub room_down :
      10 * kappa k * (third s + slack) + 5 * kappa k * spare_down s + 5 * kappa k * fine + 2 * kappa k * 2 ^ 27 * fine + taken k
      ≤ kappa k * product t (first k) * spare_down s + 2 * kappa k * bias k * fine + added k
  pub border : HasBorder k.curve k.last t s

-- ONE LEMMA: the tests by their places in the list
pub thirds_tested : (k : Scale) (t : List ℕ) (s : Source) → T (every (third_tests k t s)) → Thirds k t s
unfolding nth
thirds_tested k t s h =
    let test = passes (third_tests k t s) h in
    record {
      third_low = leb→le _ _ (test 0);
      third_high = leb→le _ _ (test 1);
      apart_up = leb→le _ _ (test 2);
      apart_down = leb→le _ _ (test 3);
      room_up = leb→le _ _ (test 4);
      room_down = leb→le _ _ (test 5);
      border = border_tested k.curve k.last t s (test 6);
    }
