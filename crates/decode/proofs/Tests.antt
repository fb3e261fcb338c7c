-- What is computed of a scale and its table, as one list of tests; and the facts that it shows, by name.
-- Assumes nothing.
use mathlib.Core.Bool.{Bool, true}
use mathlib.Core.List.{List, [], ◌∷◌}
use mathlib.Core.Path.{◌≡◌}
use Prim.Native.Nat.{ℕ, zero, suc, ◌+◌, ◌-◌, ◌*◌, ◌/◌, ◌%◌, ◌^◌, ◌≤◌, ◌<◌}
use lib.Dec.{T, leb, ltb, eqb, leb→le, ltb→lt, eqb→eq}
use lib.ListN.{length, get_or, take, drop}
use Rattle.whole.specs.Parts.{up, dn}
use Rattle.rules.specs.Choice.{choose}
use Rattle.rules.specs.Curve.{Curve, log_c4, log_c, Constants, base, less, factor}
use Rattle.rules.specs.Exact.{Scale}
use Rattle.rules.specs.Decoding.{tolerance}
use Rattle.power.specs.Progression.{square_down, square_up}
use Rattle.whole.proofs.Tests.{both, both_left, both_right, every, nth, passes}
use Rattle.power.proofs.Certificate.{up_run, down_run}
use Rattle.power.proofs.Rows.{row}
use Rattle.curve_table.specs.Table.{lift, fine, first_digits}
use Rattle.decode.specs.Decoded.{offset, product, raw_by, decoder_of, first_of, bias_of, toe_of}
use Rattle.decode.proofs.Cleared.{rise, exponent_at}

-- every number of a list is below m
abbrev pub all_below : ℕ → List ℕ → Bool
all_below m [] = true
all_below m (v ∷ vs) = both (ltb v m) (all_below m vs)

pub below_at : (m : ℕ) → 0 < m → (vs : List ℕ) → T (all_below m vs) → (k : ℕ) → get_or vs k 0 < m
below_at m p [] h k = p
below_at m p (v ∷ vs) h zero = ltb→lt v m (both_left (ltb v m) (all_below m vs) h)
below_at m p (v ∷ vs) h (suc k) = below_at m p vs (both_right (ltb v m) (all_below m vs) h) k

-- the binary digits of n after the first, the highest first
abbrev bits_from : (count n : ℕ) → List Bool → List Bool
bits_from zero n found = found
bits_from (suc count) n found = choose (leb n 1) found (bits_from count (n / 2) (eqb (n % 2) 1 ∷ found))

abbrev pub bits_of : ℕ → List Bool
bits_of n = bits_from 64 n []

-- ---- what a scale's table was made from: the seed's numbers, and the middle entries' shift
pub record Source : Type 0 where
  pub front : ℕ
  pub first : ℕ
  pub ratio : ℕ
  pub shift : ℕ

-- the seeds' upper bounds
abbrev pub slack : ℕ
slack = 4

-- ---- the numbers of the tests

module _ (k : Scale) where
  abbrev pub b : ℕ
  b = base k.curve

  abbrev pub by : ℕ
  by = rise k.curve

  abbrev pub q : ℕ
  q = (exponent_at k 0 1).over

  -- the factor and less, and their product's parts: a value (p - n) / z needs the power (p * kappa + z * plus-less - (n * kappa + z * minus-less)) / ..
  abbrev pub times : ℕ
  times = (factor k.curve).plus - (factor k.curve).minus

  abbrev pub kappa : ℕ
  kappa = (factor k.curve).over * (less k.curve).over

  abbrev pub plus_less : ℕ
  plus_less = times * (less k.curve).plus

  abbrev pub minus_less : ℕ
  minus_less = times * (less k.curve).minus

  -- the exponent of step 0, lifted
  abbrev pub begin : ℕ
  begin = (exponent_at k 0 1).plus + (lift * q - (exponent_at k 0 1).minus)

  -- a product stands for the power times this, over unit
  abbrev pub entry : ℕ
  entry = (factor k.curve).over * b ^ lift

  abbrev pub unit : ℕ
  unit = 2 ^ 51 * times

  -- the first step of the power part
  abbrev pub first : ℕ
  first = first_of k.curve k.last

  abbrev pub bias : ℕ
  bias = bias_of k.curve

  -- room for a tolerance N / D, where the product with two biases, i below and j above, is rounded down to the number
  abbrev pub room_tests : (N D i j : ℕ) → List Bool
  room_tests N D i j =
      ltb (D * kappa * i + D * 2 ^ 24 * plus_less * 2 ^ 27) (kappa * (D * offset + N) * 2 ^ 27 + D * 2 ^ 24 * minus_less * 2 ^ 27)
      ∷ ltb (D * kappa * 2 ^ 27 + 4 * (D * kappa) + D * offset * kappa * 2 ^ 27 + D * 2 ^ 24 * minus_less * 2 ^ 27) (N * kappa * 2 ^ 27 + D * 2 ^ 24 * plus_less * 2 ^ 27 + D * kappa * j)
      ∷ []

  -- how many entries the first digit has
  abbrev pub count : ℕ
  count = first_digits k.last

-- ---- the toe, of a curve that has one. Numbers are to be g apart.

-- its number at the last step before the power part, and at the first step of that
abbrev border_raw : (c : Constants) (last : ℕ) (t : List ℕ) → ℕ → ℕ
border_raw c last t i = raw_by (decoder_of (record { curve = log_c c; last = last })) t i

abbrev pub toe_tests : Curve → (last g : ℕ) → List ℕ → List Bool
toe_tests log_c4 last g t = []
toe_tests (log_c c) last g t =
    leb (2 ^ 25 * (up c.f * last)) (c.e * last * (2 * offset + 1) + 2 ^ 25 * (dn c.f * last))
    ∷ ltb 0 (c.e * last)
    ∷ leb (g * (2 * (c.e * last))) (2 ^ 25 * 1000000)
    ∷ leb (border_raw c last t (first_of (log_c c) last - 1) + g) (border_raw c last t (first_of (log_c c) last))
    ∷ leb (1000000 * dn c.f) (c.e * c.cut + 1000000 * up c.f)
    ∷ []

pub record Toe (c : Constants) (last g : ℕ) (t : List ℕ) : Type 0 where
  pub room : 2 ^ 25 * (up c.f * last) ≤ c.e * last * (2 * offset + 1) + 2 ^ 25 * (dn c.f * last)
  pub divisor : 0 < c.e * last
  pub steps : g * (2 * (c.e * last)) ≤ 2 ^ 25 * 1000000
  pub border_rises : border_raw c last t (first_of (log_c c) last - 1) + g ≤ border_raw c last t (first_of (log_c c) last)
  pub border_above : 1000000 * dn c.f ≤ c.e * c.cut + 1000000 * up c.f

abbrev pub HasToe : Curve → (last g : ℕ) → List ℕ → Type 0
HasToe log_c4 last g t = Unit {0}
HasToe (log_c c) last g t = Toe c last g t

toe_tested : (c : Curve) (last g : ℕ) (t : List ℕ) → T (every (toe_tests c last g t)) → HasToe c last g t
unfolding nth
toe_tested log_c4 last g t h = tt
toe_tested (log_c c) last g t h =
    let test = passes (toe_tests (log_c c) last g t) h in
    record {
      room = leb→le _ _ (test 0);
      divisor = ltb→lt _ _ (test 1);
      steps = leb→le _ _ (test 2);
      border_rises = leb→le _ _ (test 3);
      border_above = leb→le _ _ (test 4);
    }

-- ---- all of them, of a scale k, its table t and what that was made from
abbrev pub tests : (k : Scale) (g : ℕ) (t : List ℕ) (s : Source) → List Bool
tests k g t s =
    ltb 0 (b k)
    ∷ up_run (b k) fine (q k) (by k) 0 s.ratio (bits_of (q k)) 1 0 s.ratio
    ∷ down_run (b k) fine (q k) (by k) 0 (s.ratio + slack) (bits_of (q k)) 1 0 (s.ratio + slack)
    ∷ up_run (b k) fine (q k) (begin k) s.front s.first (bits_of (q k)) 1 s.front s.first
    ∷ down_run (b k) fine (q k) (begin k) s.front (s.first + slack) (bits_of (q k)) 1 s.front (s.first + slack)
    ∷ ltb 0 (unit k)
    ∷ eqb (s.shift * (2 ^ 63 / s.shift)) (2 ^ 63)
    ∷ all_below (2 ^ 64) t
    ∷ row fine (entry k) (4 * (s.shift * unit k)) (square_down fine 10 s.ratio) (square_up fine 10 (s.ratio + slack)) (b k ^ s.front * s.first) (b k ^ s.front * (s.first + slack)) (take (count k) t)
    ∷ row fine 1 (2 ^ 63 / s.shift) (square_down fine 5 s.ratio) (square_up fine 5 (s.ratio + slack)) fine fine (take 32 (drop 64 t))
    ∷ row fine 1 (2 ^ 63) s.ratio (s.ratio + slack) fine fine (take 32 (drop 96 t))
    ∷ eqb (length (take (count k) t)) (count k)
    ∷ eqb (length (take 32 (drop 64 t))) 32
    ∷ eqb (length (take 32 (drop 96 t))) 32
    ∷ ltb 0 (q k)
    ∷ ltb 0 (entry k * unit k)
    ∷ leb (exponent_at k 0 1).minus (lift * q k)
    ∷ leb fine s.ratio
    ∷ leb ((g * 2 ^ 27 + 5) * fine + 5 * (s.ratio - fine)) (product t (first k) * (s.ratio - fine))
    ∷ ltb 5 (product t (first k))
    ∷ every (room_tests k tolerance.plus tolerance.over (bias k) (bias k))
    ∷ ltb 0 (kappa k)
    ∷ every (toe_tests k.curve k.last g t)
    ∷ all_below (3 * 2 ^ 62) (drop 96 t)
    ∷ ltb (2 ^ 25 * 1000000 * k.last + toe_of k.curve k.last) (2 ^ 62)
    ∷ ltb (bias k) (2 ^ 62)
    ∷ []

pub record Tested (k : Scale) (g : ℕ) (t : List ℕ) (s : Source) : Type 0 where
  -- the seeds: below and above the powers
  pub base_pos : 0 < b k
  pub ratio_low : T (up_run (b k) fine (q k) (by k) 0 s.ratio (bits_of (q k)) 1 0 s.ratio)
  pub ratio_high : T (down_run (b k) fine (q k) (by k) 0 (s.ratio + slack) (bits_of (q k)) 1 0 (s.ratio + slack))
  pub first_low : T (up_run (b k) fine (q k) (begin k) s.front s.first (bits_of (q k)) 1 s.front s.first)
  pub first_high : T (down_run (b k) fine (q k) (begin k) s.front (s.first + slack) (bits_of (q k)) 1 s.front (s.first + slack))
  pub unit_pos : 0 < unit k
  -- the entries of the three digits
  pub shifted : s.shift * (2 ^ 63 / s.shift) ≡ 2 ^ 63
  pub entries_small : T (all_below (2 ^ 64) t)
  pub top_row : T (row fine (entry k) (4 * (s.shift * unit k)) (square_down fine 10 s.ratio) (square_up fine 10 (s.ratio + slack)) (b k ^ s.front * s.first) (b k ^ s.front * (s.first + slack)) (take (count k) t))
  pub middle_row : T (row fine 1 (2 ^ 63 / s.shift) (square_down fine 5 s.ratio) (square_up fine 5 (s.ratio + slack)) fine fine (take 32 (drop 64 t)))
  pub low_row : T (row fine 1 (2 ^ 63) s.ratio (s.ratio + slack) fine fine (take 32 (drop 96 t)))
  pub top_count : length (take (count k) t) ≡ count k
  pub middle_count : length (take 32 (drop 64 t)) ≡ 32
  pub low_count : length (take 32 (drop 96 t)) ≡ 32
  -- the exponent
  pub q_pos : 0 < q k
  pub cancel_pos : 0 < entry k * unit k
  pub lifted : (exponent_at k 0 1).minus ≤ lift * q k
  -- the numbers rise, and have room for the tolerance
  pub ratio_above_one : fine ≤ s.ratio
  pub steps : (g * 2 ^ 27 + 5) * fine + 5 * (s.ratio - fine) ≤ product t (first k) * (s.ratio - fine)
  pub least_large : 5 < product t (first k)
  pub has_room : T (every (room_tests k tolerance.plus tolerance.over (bias k) (bias k)))
  pub kappa_pos : 0 < kappa k
  pub toe : HasToe k.curve k.last g t
  -- what is computed fits words
  pub lows_small : T (all_below (3 * 2 ^ 62) (drop 96 t))
  pub toe_small : 2 ^ 25 * 1000000 * k.last + toe_of k.curve k.last < 2 ^ 62
  pub bias_small : bias k < 2 ^ 62

-- ONE LEMMA: the tests by their places in the list
pub tested : (k : Scale) (g : ℕ) (t : List ℕ) (s : Source) → T (every (tests k g t s)) → Tested k g t s
unfolding nth
tested k g t s h =
    let test = passes (tests k g t s) h in
    record {
      base_pos = ltb→lt _ _ (test 0);
      ratio_low = test 1;
      ratio_high = test 2;
      first_low = test 3;
      first_high = test 4;
      unit_pos = ltb→lt _ _ (test 5);
      shifted = eqb→eq _ _ (test 6);
      entries_small = test 7;
      top_row = test 8;
      middle_row = test 9;
      low_row = test 10;
      top_count = eqb→eq _ _ (test 11);
      middle_count = eqb→eq _ _ (test 12);
      low_count = eqb→eq _ _ (test 13);
      q_pos = ltb→lt _ _ (test 14);
      cancel_pos = ltb→lt _ _ (test 15);
      lifted = leb→le _ _ (test 16);
      ratio_above_one = leb→le _ _ (test 17);
      steps = leb→le _ _ (test 18);
      least_large = ltb→lt _ _ (test 19);
      has_room = test 20;
      kappa_pos = ltb→lt _ _ (test 21);
      toe = toe_tested k.curve k.last g t (test 22);
      lows_small = test 23;
      toe_small = ltb→lt _ _ (test 24);
      bias_small = ltb→lt _ _ (test 25);
    }
