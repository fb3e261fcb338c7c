-- What a conversion of strips writes, record by record and channel by channel: each is R to what it is written for.
-- Assumes nothing.
use Rattle.std.specs.Prelude.{List, [], ◌∷◌, ◌≡◌, ℕ, ◌<◌}
use Rattle.rules.specs.declared.Setting.{Setting}
use Rattle.rules.specs.Result.{done}
use Rattle.rules.specs.Record.{setting_of, channel_at}
use Rattle.rules.specs.Strip.{Conversion, record_at, result_of, strip_after}

-- what a record r with channels of a bytes became, with channels of b bytes: "A conversion copies
-- the setting", and each channel is R to the same channel of r
pub record EachChannel (a b : ℕ) (R : Setting → (from to : ℕ) → Type 0) (r out : List ℕ) : Type 0 where
  pub setting : setting_of out ≡ setting_of r
  pub channel : (i : ℕ) → i < 3 → R (setting_of r) (channel_at a r i) (channel_at b out i)

-- n records are converted, and what is written for each is R to it
pub record ConvertedEach (c : Conversion) (R : (r out : List ℕ) → Type 0) (input output : List ℕ) (n : ℕ) : Type 0 where
  pub answers : result_of c input output ≡ done (n ∷ [])
  pub each : (k : ℕ) → k < n → R (record_at c.from k input) (record_at c.to k (strip_after c input output))
