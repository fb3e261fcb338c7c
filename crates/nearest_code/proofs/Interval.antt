-- The interval of steps that a search narrows: what holds of its two ends, and what the search ends with.
-- Assumes nothing.
use mathlib.Core.Path.{◌≡◌, subst}
use Prim.Native.Nat.{ℕ, ◌+◌, ◌-◌, ◌*◌, ◌/◌, ◌%◌, ◌^◌, ◌≤◌, ◌<◌, min}
use native.Mathlib.Omega.{arith}
use Rattle.nearest_code.specs.Search.{NearestStep}

-- y is above the number of the step low, unless that is 0, and at most the number of the step high, unless that is past the last; below and above
-- are these numbers
pub record Between (u : ℕ → ℕ) (last y low high below above : ℕ) : Type 0 where
  pub small : last < 2 ^ 16
  pub apart : low < high
  pub in_range : high ≤ last + 1
  pub from : 0 < low → u low < y
  pub to : high ≤ last → y ≤ u high
  pub below_is : 0 < low → below ≡ u low
  pub above_is : high ≤ last → above ≡ u high

-- the step that is tried next, and the stride after it
pub record Next (low high middle stride : ℕ) : Type 0 where
  pub inside : low + 1 < high → (low < middle) × (middle < high)
  pub stride_positive : 0 < stride
  pub stride_small : stride ≤ 65536

pub begin : (u : ℕ → ℕ) (last y : ℕ) → last < 2 ^ 16 → Between u last y 0 (last + 1) 0 0
begin u last y h =
    record {
      small = h;
      apart = omega arith;
      in_range = omega arith;
      from = λ p. absurd (omega arith);
      to = λ p. absurd (omega arith);
      below_is = λ p. absurd (omega arith);
      above_is = λ p. absurd (omega arith);
    }

module _ {u : ℕ → ℕ} {last y low high below above : ℕ} (b : Between u last y low high below above) where
  -- any step strictly between the ends may be the next end
  pub raise : (n number : ℕ) → n < high → number ≡ u n → number < y → Between u last y n high number above
  raise n number h e g =
      record { small = b.small; apart = h; in_range = b.in_range; from = λ p. rw e at g; to = b.to; below_is = λ p. e; above_is = b.above_is }

  pub lower : (n number : ℕ) → low < n → n < high → number ≡ u n → y ≤ number → Between u last y low n below number
  lower n number h i e g =
      record { small = b.small; apart = h; in_range = omega (arith, b.in_range); from = b.from; to = λ p. rw e at g; below_is = b.below_is; above_is = λ p. e }

  -- the ends are neighbours
  module _ (rises : (m n : ℕ) → m < n → n ≤ last → u m < u n) (next : high ≤ low + 1) where
    above_low : low ≤ last → (m : ℕ) → m + 1 ≡ low → u m + u low < 2 * y
    above_low h m e = omega (arith, rises m low (omega arith) h, b.from (omega arith))

    pub end_last : last < high → NearestStep u last y low
    end_last h =
        record { in_range = omega (arith, b.apart, b.in_range); above = above_low (omega (arith, b.apart, b.in_range)); below = λ p. absurd (omega arith) }

    pub end_low : high ≤ last → 2 * y ≤ u low + u high → NearestStep u last y low
    end_low h i =
        record {
          in_range = omega (arith, b.apart);
          above = above_low (omega (arith, b.apart));
          below = λ p. subst (λ (n : ℕ). 2 * y ≤ u low + u n) (omega (arith, b.apart)) i;
        }

    pub end_high : high ≤ last → u low + u high < 2 * y → NearestStep u last y high
    end_high h i =
        record {
          in_range = h;
          above = λ m e. subst (λ (n : ℕ). u n + u high < 2 * y) (omega (arith, b.apart)) i;
          below = λ p. omega (arith, b.to h, rises high (high + 1) (omega arith) (omega arith));
        }

-- ---- the step that is tried next
pub first_try : (last guess middle : ℕ) → middle ≡ min (guess % 65536 + 1) last → Next 0 (last + 1) middle 1
first_try last guess middle e = record { inside = λ h. (omega arith, omega arith); stride_positive = omega arith; stride_small = omega arith }

module _ (low high reach stride : ℕ) (p : 0 < reach) (e : stride ≡ min (4 * reach) 65536) where
  pub next_up : (by : ℕ) → by ≡ min reach ((high - low) / 2) → Next low high (low + by) stride
  next_up by f = record { inside = λ h. (omega (arith, p), omega arith); stride_positive = omega (arith, p, e); stride_small = omega (arith, e) }

  pub next_down : (by : ℕ) → by ≡ min reach ((high - low) / 2) → Next low high (high - by) stride
  next_down by f = record { inside = λ h. (omega (arith, p), omega (arith, p)); stride_positive = omega (arith, p, e); stride_small = omega (arith, e) }

-- what is nearer to the number of a step than half the gap has that step
pub near_found : (g : ℕ) (u : ℕ → ℕ) (last y n : ℕ) → ((i j : ℕ) → i < j → j ≤ last → u i + g ≤ u j) → n ≤ last → 2 * u n < 2 * y + g → 2 * y < 2 * u n + g → NearestStep u last y n
near_found g u last y n apart h l f =
    record {
      in_range = h;
      above = λ m e. omega (arith, apart m n (omega arith) h);
      below = λ k. omega (arith, apart n (n + 1) (omega arith) (omega arith));
    }
