-- How many records go through in one pass, and what the pass leaves in the buffer.
-- Assumes nothing.
use Rattle.std.specs.Prelude.{List, ◌≡◌, ℕ, ◌*◌, take, Ok}
use Rattle.rules.specs.Refusal.{Answer}
use Rattle.rules.specs.Strip.{records, written}
use Rattle.record_conversion.specs.Conversions.{back_within}

-- the most records
abbrev pub most : ℕ
most = 4096

-- where no record was refused, the buffer begins with the records of all pixels, of the way back at the distance e
pub record Kept (e : ℕ) (input : List ℕ) (a : Answer) (after : List ℕ) : Type 0 where
  pub pixels : (m : ℕ) → a ≡ Ok m → take (m * (back_within e).to) after ≡ written (back_within e).bytes (records (back_within e).from m input)
