-- 01, "Refused, by the place of the check", and the strips of "Records and settings": a strip is a list of bytes, records of one size
-- one after the other. These definitions hold for every conversion; a conversion is a value.
-- Assumes nothing.
use Rattle.std.specs.Prelude.{List, [], ◌∷◌, ◌++◌, ◌≡◌, ℕ, zero, suc, ◌*◌, ◌/◌, ◌%◌, leb, eqb, length, take, drop, Err, Ok}
use Rattle.rules.specs.Refusal.{Answer, refused_at, Check, then}
use Rattle.rules.specs.declared.Refusal.TheVariants.{PartialRecord, ShortOutput}
use Rattle.rules.specs.declared.Setting.{Setting}
use Rattle.rules.specs.Choice.{choose}
use Rattle.rules.specs.Result.{Result, strip_result}
use Rattle.rules.specs.Record.{setting_of}

-- a conversion: the bytes of a record, and of what is written for one; the checks of a record's setting, and of the record after them; what
-- is written for a record that passes
pub record Conversion : Type 0 where
  pub from : ℕ
  pub to : ℕ
  pub setting : Setting → Check
  pub inner : List ℕ → Check
  pub bytes : List ℕ → List ℕ

-- "Within a record: setting, then red, green and blue (..), then the record."
abbrev pub record_check : Conversion → List ℕ → Check
record_check c r = then (c.setting (setting_of r)) (c.inner r)

-- the first n records of a strip
unfoldable pub records : (size n : ℕ) → List ℕ → List (List ℕ)
records size zero strip = []
records size (suc n) strip = take size strip ∷ records size n (drop size strip)

-- the k-th record of a strip, from 0
abbrev pub record_at : (size k : ℕ) → List ℕ → List ℕ
record_at size k strip = take size (drop (k * size) strip)

-- what is written for records, "one record for each of its records, in order"
unfoldable pub written : (List ℕ → List ℕ) → List (List ℕ) → List ℕ
written bytes [] = []
written bytes (r ∷ rs) = bytes r ++ written bytes rs

-- the answer for a record that is the k-th, and for those after it
abbrev pub or_next : Check → ℕ → Answer → Answer
or_next (Ok tt) k next = next
or_next (Err why) k next = refused_at why k

-- "record by record": the refusal of the first record that is refused, counted from k, or the count
unfoldable pub scan : (List ℕ → Check) → ℕ → List (List ℕ) → Answer
scan f k [] = Ok k
scan f k (r ∷ rs) = or_next (f r) k (scan f (suc k) rs)

abbrev pub scan_of : Conversion → (n : ℕ) → List ℕ → Answer
scan_of c n strip = scan (record_check c) 0 (records c.from n strip)

-- "Checks run in table order, strips first, then record by record."
unfoldable pub answer_of : Conversion → (input output : List ℕ) → Answer
answer_of c input output =
    choose (eqb (length input % c.from) 0)
    (choose (leb (length input / c.from * c.to) (length output)) (scan_of c (length input / c.from) input) (refused_at ShortOutput 0))
    (refused_at PartialRecord 0)

-- "A refusal .. no output byte differs. Success carries the count of records; each record is written in its own stretch of the output strip,
-- and bytes beyond the last are unchanged."
unfoldable pub output_after : Conversion → (input output : List ℕ) → Answer → List ℕ
output_after c input output (Ok n) = written c.bytes (records c.from n input) ++ drop (n * c.to) output
output_after c input output (Err e) = output

-- what the call gives, and the output strip after it
abbrev pub result_of : Conversion → (input output : List ℕ) → Result ℕ
result_of c input output = strip_result (answer_of c input output)

abbrev pub strip_after : Conversion → (input output : List ℕ) → List ℕ
strip_after c input output = output_after c input output (answer_of c input output)

-- the contract of a conversion of strips
pub record Converts (c : Conversion) (input output : List ℕ) (answer : Answer) (after : List ℕ) : Type 0 where
  pub answers : answer ≡ answer_of c input output
  pub writes : after ≡ output_after c input output answer
