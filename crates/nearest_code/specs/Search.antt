-- The search for a step: what it asks of the numbers of the steps, and what it finds.
-- Assumes nothing.
use Rattle.std.specs.Prelude.{List, ◌≡◌, ℕ, ◌+◌, ◌*◌, ◌^◌, ◌≤◌, ◌<◌}
use Rattle.decode.specs.declared.decoder.Decoder.{Decoder}
use Rattle.decode.specs.Decoded.{raw_by, Fits}

-- the numbers of the steps 0 to last, with the offset, fit words, and they rise, each by the gap at least
pub record Rising (d : Decoder) (t : List ℕ) (last gap : ℕ) : Type 0 where
  pub small : last < 2 ^ 16
  pub fits : (i : ℕ) → i ≤ last → Fits d t i
  pub rises : (i j : ℕ) → i < j → j ≤ last → raw_by d t i < raw_by d t j
  pub apart : (i j : ℕ) → i < j → j ≤ last → raw_by d t i + gap ≤ raw_by d t j

-- where u i is the number of the step i: y is above half way from the step before n to n, and at most half way from n to the step after it
pub record NearestStep (u : ℕ → ℕ) (last y n : ℕ) : Type 0 where
  pub in_range : n ≤ last
  pub above : (m : ℕ) → m + 1 ≡ n → u m + u n < 2 * y
  pub below : n < last → 2 * y ≤ u n + u (n + 1)
