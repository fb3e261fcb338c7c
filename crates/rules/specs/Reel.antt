-- 02, item 9: "Keep with a reel of pixel records, up to 4,096 of them, the three sums of its scene numbers, one for each channel." First what a
-- list of calls makes of a reel that is a list of records; then what is kept of a reel in memory, and what a call does to it, whatever is there.
-- The numbers of the codes are a parameter.
-- Assumes nothing.
use Rattle.std.specs.Prelude.{Bool, false, List, [], ◌∷◌, ◌++◌, ◌≡◌, ℕ, suc, ◌+◌, ◌-◌, ◌*◌, ◌/◌, ◌%◌, ◌^◌, leb, ltb, ℤ, pos, ◌+ℤ◌, length, take, drop, Err, Ok}
use Rattle.rules.specs.Refusal.{Check, OrRefusal, number_of, then, refuse_unless}
use Rattle.rules.specs.declared.Refusal.TheVariants.{ReelFull, NotHeld}
use Rattle.rules.specs.Triples.{Scenes}
use Rattle.rules.specs.declared.Setting.{Setting}
use Rattle.rules.specs.declared.Totals.{Totals}
use Rattle.rules.specs.Choice.{choose}
use Rattle.rules.specs.Result.{Result, done, refused_by}
use Rattle.rules.specs.Setting.{aces_check, code_check}
use Rattle.rules.specs.Pixels.{scenes}
use Rattle.rules.specs.Record.{to_bits, of_bits, setting_of, channel_at, code_bytes, pixel_size}
use Rattle.rules.specs.Strip.{record_at}
use Rattle.rules.specs.Conversions.{channel_checks}

-- ---- calls

-- "Appending a record, replacing one and dropping the last": records are their bytes, an index counts from 0
pub data Call : Type 0 where
  append : (r : List ℕ) → Call
  replace : (index : ℕ) (r : List ℕ) → Call
  drop_last : Call

-- its record, where it has one, has as many bytes as a pixel record
abbrev pub WholeRecord : Call → Type 0
WholeRecord (append r) = length r ≡ pixel_size
WholeRecord (replace i r) = length r ≡ pixel_size
WholeRecord drop_last = Unit {0}

-- "up to 4,096 of them"
abbrev pub reel_most : ℕ
reel_most = 4096

-- the checks of a record: 3, 4, 5, "Curve 2 is refused by 12 here too", then those of its codes
unfoldable pub meter_check : List ℕ → Check
meter_check r = then (aces_check (setting_of r)) (channel_checks code_bytes (code_check (setting_of r)) r)

-- whether an index is held, of a reel of so many records in a place with room for so many
abbrev pub held : (room count index : ℕ) → Bool
held room count i = choose (ltb i count) (ltb i room) false

-- "Two refusals join the table, both checked before the record: 15, append to a full reel; 16, replace at an index not held or drop from an
-- empty reel." (The last of no records is at no index that is held.)
unfoldable pub call_check : (room count : ℕ) → Call → Check
call_check room count (append r) = then (refuse_unless (ltb count room) ReelFull) (meter_check r)
call_check room count (replace i r) = then (refuse_unless (held room count i) NotHeld) (meter_check r)
call_check room count drop_last = refuse_unless (held room count (count - 1)) NotHeld

-- a where the check passes, else b
abbrev pub if_passed : {A : Type 0} → Check → A → A → A
if_passed (Ok tt) a b = a
if_passed (Err why) a b = b

-- ---- a reel as a list of records: what accepted calls make of it

abbrev pub changed : List (List ℕ) → Call → List (List ℕ)
changed rs (append r) = rs ++ (r ∷ [])
changed rs (replace i r) = take i rs ++ (r ∷ drop (suc i) rs)
changed rs drop_last = take (length rs - 1) rs

-- "refused calls changing neither reel nor sums"
abbrev pub after_call : (room : ℕ) → List (List ℕ) → Call → List (List ℕ)
after_call room rs c = if_passed (call_check room (length rs) c) (changed rs c) rs

-- one call after the other
unfoldable pub fold : {A : Type 0} → (A → Call → A) → A → List Call → A
fold f a [] = a
fold f a (c ∷ cs) = fold f (f a c) cs

-- "after any list of these calls from an empty reel": the records that it then holds
abbrev pub records_after : (room : ℕ) → List Call → List (List ℕ)
records_after room calls = fold (after_call room) [] calls

-- ---- a reel in memory: a strip that is lent, of which the first records are held, and what is kept beside it
pub record Reel : Type 0 where
  pub strip : List ℕ
  pub totals : Totals

abbrev pub reel_of : (strip : List ℕ) → Totals → Reel
reel_of strip t = record { strip = strip; totals = t }

-- how many records a strip has room for, up to 4,096
abbrev pub room_in : (strip : List ℕ) → ℕ
room_in strip = choose (leb reel_most (length strip / pixel_size)) reel_most (length strip / pixel_size)

-- an empty reel: whatever is in the strip, it holds none of it
abbrev pub no_totals : Totals
no_totals = record { count = 0; red = 0; green = 0; blue = 0 }

abbrev pub empty_reel : (strip : List ℕ) → Reel
empty_reel strip = reel_of strip no_totals

abbrev pub reel_check : Reel → Call → Check
reel_check reel c = call_check (room_in reel.strip) reel.totals.count c

-- the strip with the record of an index written in its stretch
abbrev pub with_record : (strip : List ℕ) (index : ℕ) (r : List ℕ) → List ℕ
with_record strip i r = take (i * pixel_size) strip ++ (r ++ drop (i * pixel_size + pixel_size) strip)

abbrev pub strip_after_call : Reel → Call → List ℕ
strip_after_call reel (append r) = with_record reel.strip reel.totals.count r
strip_after_call reel (replace i r) = with_record reel.strip i r
strip_after_call reel drop_last = reel.strip

-- a sum is kept as a signed number of so many bytes, by its bits
abbrev pub sum_bytes : ℕ
sum_bytes = 8

-- a sum with one number taken off and another added: its bits, whatever they were, modulo 2^64
abbrev pub sum_after : (sum : ℕ) (old new : ℤ) → ℕ
sum_after sum old new = (sum + to_bits sum_bytes new + (256 ^ sum_bytes - to_bits sum_bytes old)) % 256 ^ sum_bytes

abbrev pub totals_with : (count : ℕ) → Totals → (old new : Scenes) → Totals
totals_with n t old new =
    record {
      count = n;
      red = sum_after t.red old.red.0 new.red.0;
      green = sum_after t.green old.green.0 new.green.0;
      blue = sum_after t.blue old.blue.0 new.blue.0;
    }

-- no record: nothing to take off, or to add
abbrev pub no_scenes : Scenes
no_scenes = scenes (pos 0) (pos 0) (pos 0)

-- the sum of a number of each record
unfoldable pub sum_of : (List ℕ → ℤ) → List (List ℕ) → ℤ
sum_of f [] = pos 0
sum_of f (r ∷ rs) = f r +ℤ sum_of f rs

-- what a call answers where its check is so and this is kept after it
abbrev pub answer_to : Check → Totals → OrRefusal Totals
answer_to (Ok tt) t = Ok t
answer_to (Err why) t = Err why

-- ---- where codes have these numbers
module _ (number : Setting → ℕ → ℤ) where
  -- the scene numbers of a record, as it is added to the sums. (A record that would be refused, which somebody else wrote into the strip, adds
  -- nothing.)
  abbrev pub scene_at : (r : List ℕ) (channel : ℕ) → ℤ
  scene_at r i = number (setting_of r) (channel_at code_bytes r i)

  unfoldable pub metered : (r : List ℕ) → Scenes
  metered r = if_passed (meter_check r) (scenes (scene_at r 0) (scene_at r 1) (scene_at r 2)) no_scenes

  -- the record at an index of a reel in memory
  abbrev pub metered_at : Reel → (index : ℕ) → Scenes
  metered_at reel i = metered (record_at pixel_size i reel.strip)

  -- the count and the sums after a call that is accepted
  abbrev pub totals_after_call : Reel → Call → Totals
  totals_after_call reel (append r) = totals_with (suc reel.totals.count) reel.totals no_scenes (metered r)
  totals_after_call reel (replace i r) = totals_with reel.totals.count reel.totals (metered_at reel i) (metered r)
  totals_after_call reel drop_last = totals_with (reel.totals.count - 1) reel.totals (metered_at reel (reel.totals.count - 1)) no_scenes

  -- what a call answers, and the reel after it
  unfoldable pub reel_answer : Reel → Call → OrRefusal Totals
  reel_answer reel c = answer_to (reel_check reel c) (totals_after_call reel c)

  unfoldable pub reel_after : Reel → Call → Reel
  reel_after reel c = if_passed (reel_check reel c) (reel_of (strip_after_call reel c) (totals_after_call reel c)) reel

  -- the contract of a call: what it answers, and every byte of the strip after it
  pub record Answers (strip : List ℕ) (t : Totals) (c : Call) (answer : OrRefusal Totals) (after : List ℕ) : Type 0 where
    pub answers : answer ≡ reel_answer (reel_of strip t) c
    pub writes : after ≡ (reel_after (reel_of strip t) c).strip

  -- and after any list of calls
  abbrev pub reel_after_all : Reel → List Call → Reel
  reel_after_all reel calls = fold reel_after reel calls

  -- "the three sums of its scene numbers, one for each channel": the count and the sums are those of the records
  pub record TrueSums (rs : List (List ℕ)) (t : Totals) : Type 0 where
    pub count : t.count ≡ length rs
    pub red : of_bits sum_bytes t.red ≡ sum_of (λ r. scene_at r 0) rs
    pub green : of_bits sum_bytes t.green ≡ sum_of (λ r. scene_at r 1) rs
    pub blue : of_bits sum_bytes t.blue ≡ sum_of (λ r. scene_at r 2) rs

-- the number and the values of each case of the answer: "success (with the count of records then held) or a refusal"
abbrev pub reel_result : OrRefusal Totals → Result ℕ
reel_result (Ok t) = done (t.count ∷ [])
reel_result (Err why) = refused_by (number_of why) 0
