-- What is computed at every step: its product, with the bias, is not near a whole unit. One recursion, over the entries of each digit.
-- Assumes nothing.
use mathlib.Core.Bool.{Bool, true}
use mathlib.Core.List.{List, [], ◌∷◌}
use mathlib.Core.Path.{◌≡◌, ◌∙◌, subst}
use Prim.Native.Nat.{ℕ, zero, suc, ◌+◌, ◌-◌, ◌*◌, ◌/◌, ◌%◌, ◌^◌, max, ◌≤◌, ◌<◌}
use native.Mathlib.Nat.{not-suc-le-zero, le_of_suc-le-suc, le_trans, le-max_left, le-max_right}
use native.Mathlib.Omega.{arith}
use lib.Dec.{T, leb, leb→le, lit<}
use lib.ListN.{length, get_or, take, drop}
use lib.Seq.{get_or-take, get_or-drop}
use Rattle.whole.proofs.Tests.{both, both_left, both_right, every}
use Rattle.rules.specs.Exact.{Scale}
use Rattle.decode.specs.Decoded.{product}
use Rattle.decode.proofs.Tests.{Source, Tested, first, bias, count, room_tests}
use Rattle.decode.proofs.Near.{Room, room_by}
use Rattle.decoded_margins.specs.Half.{half}

-- ---- lists

-- every number of a list passes the test
abbrev all : (ℕ → Bool) → List ℕ → Bool
all p [] = true
all p (x ∷ xs) = both (p x) (all p xs)

all_at : (p : ℕ → Bool) (xs : List ℕ) → T (all p xs) → (j : ℕ) → j < length xs → T (p (get_or xs j 0))
all_at p [] h j g = absurd (not-suc-le-zero g)
all_at p (x ∷ xs) h zero g = both_left (p x) (all p xs) h
all_at p (x ∷ xs) h (suc j) g = all_at p xs (both_right (p x) (all p xs) h) j (le_of_suc-le-suc g)

-- the largest value of a function on a list (a test of each value would take half as long again to compute)
abbrev largest : (ℕ → ℕ) → List ℕ → ℕ
largest f [] = 0
largest f (x ∷ xs) = max (f x) (largest f xs)

largest_at : (f : ℕ → ℕ) (xs : List ℕ) (j : ℕ) → j < length xs → f (get_or xs j 0) ≤ largest f xs
largest_at f [] j g = absurd (not-suc-le-zero g)
largest_at f (x ∷ xs) zero g = le-max_left (f x) (largest f xs)
largest_at f (x ∷ xs) (suc j) g = le_trans (largest_at f xs j (le_of_suc-le-suc g)) (le-max_right (f x) (largest f xs))

-- ---- the tests of a scale and its table

-- with the entries of a step's digits, the highest first: the product of the upper two is made once for the steps that share them
abbrev remainders : (i w z : ℕ) (tops middles lows : List ℕ) → Bool
remainders i w z tops middles lows = all (λ t. all (λ m. leb (largest (λ l. (t * m / 2 ^ 64 * l + i) % w) lows) z) middles) tops

-- with the bias, no product is a multiple of 2 ^ 27, nor less than 6 below one. The numbers stand at 2 ^ 91 a unit, so that a step takes one
-- product, one sum and one remainder.
abbrev clear : (k : Scale) (t : List ℕ) → Bool
clear k t =
    remainders ((bias k + (2 ^ 27 - 1)) * 2 ^ 64) (2 ^ 91) ((2 ^ 27 - 6) * 2 ^ 64 - 1) (take (count k) t) (take 32 (drop 64 t)) (take 32 (drop 96 t))

-- and the bias itself is rounded by less than 1
abbrev bias_tests : Scale → List Bool
bias_tests k = room_tests k half.plus half.over (bias k - 1) (bias k + 5)

abbrev pub margin_test : (k : Scale) (t : List ℕ) → Bool
margin_test k t = both (every (bias_tests k)) (clear k t)

-- ---- what the remainder says of the number that is rounded down
coarse : (x i : ℕ) → (x + (i + (2 ^ 27 - 1)) * 2 ^ 64) % 2 ^ 91 ≤ (2 ^ 27 - 6) * 2 ^ 64 - 1 → (x / 2 ^ 64 + i + (2 ^ 27 - 1)) % 2 ^ 27 ≤ 2 ^ 27 - 7
coarse x i h = omega arith

from_below : (v i : ℕ) → (v + i + (2 ^ 27 - 1)) % 2 ^ 27 ≤ 2 ^ 27 - 7 → (v + i) / 2 ^ 27 * 2 ^ 27 ≤ v + (i - 1)
from_below v i h = omega arith

from_above : (v i : ℕ) → (v + i + (2 ^ 27 - 1)) % 2 ^ 27 ≤ 2 ^ 27 - 7 → v + (i + 5) < (v + i) / 2 ^ 27 * 2 ^ 27 + 2 ^ 27
from_above v i h = omega arith

module _ {k : Scale} {g : ℕ} {t : List ℕ} {s : Source} (ok : Tested k g t s) (margin : T (margin_test k t)) (n : ℕ) (from : first k ≤ n) (to : n ≤ k.last) where
  abbrev tops : List ℕ
  tops = take (count k) t

  abbrev middles : List ℕ
  middles = take 32 (drop 64 t)

  abbrev lows : List ℕ
  lows = take 32 (drop 96 t)

  abbrev i : ℕ
  i = (bias k + (2 ^ 27 - 1)) * 2 ^ 64

  abbrev z : ℕ
  z = (2 ^ 27 - 6) * 2 ^ 64 - 1

  quotient : n / 1024 < count k
  quotient = less k.last to
    where
      less : (m : ℕ) → n ≤ m → n / 1024 < m / 1024 + 1
      less m h = omega arith

  below_32 : (m : ℕ) → m % 32 < 32
  below_32 m = omega arith

  tops_long : n / 1024 < length tops
  tops_long = rw ok.top_count quotient

  middles_long : n / 32 % 32 < length middles
  middles_long = rw ok.middle_count (below_32 (n / 32))

  lows_long : n % 32 < length lows
  lows_long = rw ok.low_count (below_32 n)

  -- the product of the entries of the upper two digits
  abbrev h : ℕ
  h = get_or tops (n / 1024) 0 * get_or middles (n / 32 % 32) 0 / 2 ^ 64

  at_upper : T (leb (largest (λ l. (h * l + i) % 2 ^ 91) lows) z)
  at_upper =
      all_at (λ m. leb (largest (λ l. (get_or tops (n / 1024) 0 * m / 2 ^ 64 * l + i) % 2 ^ 91) lows) z) middles
      (all_at (λ x. all (λ m. leb (largest (λ l. (x * m / 2 ^ 64 * l + i) % 2 ^ 91) lows) z) middles) tops (both_right (every (bias_tests k)) (clear k t) margin) (n / 1024) tops_long)
      (n / 32 % 32)
      middles_long

  at_digits : (h * get_or lows (n % 32) 0 + i) % 2 ^ 91 ≤ z
  at_digits = le_trans (largest_at (λ l. (h * l + i) % 2 ^ 91) lows (n % 32) lows_long) (leb→le (largest (λ l. (h * l + i) % 2 ^ 91) lows) z at_upper)

  top_entry : get_or tops (n / 1024) 0 ≡ get_or t (n / 1024) 0
  top_entry = get_or-take (count k) t (n / 1024) 0 quotient

  middle_entry : get_or middles (n / 32 % 32) 0 ≡ get_or t (64 + n / 32 % 32) 0
  middle_entry = get_or-take 32 (drop 64 t) (n / 32 % 32) 0 (below_32 (n / 32)) ∙ get_or-drop 64 t (n / 32 % 32) 0

  low_entry : get_or lows (n % 32) 0 ≡ get_or t (96 + n % 32) 0
  low_entry = get_or-take 32 (drop 96 t) (n % 32) 0 (below_32 n) ∙ get_or-drop 96 t (n % 32) 0

  at_step : (product t n + bias k + (2 ^ 27 - 1)) % 2 ^ 27 ≤ 2 ^ 27 - 7
  at_step =
      coarse (get_or t (n / 1024) 0 * get_or t (64 + n / 32 % 32) 0 / 2 ^ 64 * get_or t (96 + n % 32) 0) (bias k)
      (subst (λ (l : ℕ). (get_or t (n / 1024) 0 * get_or t (64 + n / 32 % 32) 0 / 2 ^ 64 * l + i) % 2 ^ 91 ≤ z) low_entry
      (subst (λ (m : ℕ). (get_or t (n / 1024) 0 * m / 2 ^ 64 * get_or lows (n % 32) 0 + i) % 2 ^ 91 ≤ z) middle_entry
      (subst (λ (x : ℕ). (x * get_or middles (n / 32 % 32) 0 / 2 ^ 64 * get_or lows (n % 32) 0 + i) % 2 ^ 91 ≤ z) top_entry at_digits)))

  biased : T (every (bias_tests k))
  biased = both_left (every (bias_tests k)) (clear k t) margin

  -- ROOM FOR A HALF: the number less a half is below the exact value, and with it above
  pub room_for_half : Room k t n half.plus half.over
  room_for_half = room_by ok n from to half.plus half.over (lit< tt) (bias k - 1) (bias k + 5) (from_below (product t n) (bias k) at_step) (from_above (product t n) (bias k) at_step) biased
