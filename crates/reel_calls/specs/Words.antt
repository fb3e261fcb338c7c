-- 02, item 9, of any list of calls on a reel in memory, with the decoded numbers: the reel after them, the records that it holds, and what is
-- said of a record's numbers, of the sums and of answers.
-- Assumes nothing.
use Rattle.std.specs.Prelude.{List, [], ◌∷◌, ◌≡◌, ℕ, ◌^◌, ◌<◌, nat_abs, Err, Ok}
use Rattle.rules.specs.Refusal.{OrRefusal}
use Rattle.rules.specs.declared.Totals.{Totals}
use Rattle.rules.specs.Decoding.{DecodesCode}
use Rattle.rules.specs.Record.{setting_of, channel_at, of_bits, code_bytes, pixel_size}
use Rattle.rules.specs.Reel.{Call, Reel, meter_check, empty_reel, reel_after_all, reel_answer, reel_result, scene_at, sum_bytes, Answers}
use Rattle.rules.specs.Strip.{records}
use Rattle.decode.specs.Decoded.{decoded}

-- "after any list of these calls from an empty reel", which is lent a strip with anything in it
abbrev pub after_calls : (strip : List ℕ) → List Call → Reel
after_calls strip calls = reel_after_all decoded (empty_reel strip) calls

-- the records that a reel in memory holds: the first of its strip, as many as are counted
abbrev pub held_in : Reel → List (List ℕ)
held_in reel = records pixel_size reel.totals.count reel.strip

-- a record that the checks let in
abbrev pub LetIn : List ℕ → Type 0
LetIn r = meter_check r ≡ Ok tt

-- the three scene numbers that are added for a record are what the rules ask of the decoded numbers of its codes
abbrev pub AddsDecoded : List ℕ → Type 0
AddsDecoded r = (channel : ℕ) → channel < 3 → DecodesCode (setting_of r) (channel_at code_bytes r channel) (scene_at decoded r channel)

-- how far from 0 a sum may come: 4,096 records, and each number below 2 ^ 33 without its sign
abbrev pub sum_limit : ℕ
sum_limit = 2 ^ 45

pub record SmallSums (t : Totals) : Type 0 where
  pub red : nat_abs (of_bits sum_bytes t.red) < sum_limit
  pub green : nat_abs (of_bits sum_bytes t.green) < sum_limit
  pub blue : nat_abs (of_bits sum_bytes t.blue) < sum_limit

-- the number of the answer to a call: 0, or the refusal's
abbrev pub answer_number : Reel → Call → ℕ
answer_number reel c = (reel_result (reel_answer decoded reel c)).number

-- what is kept after an answer, and a list of calls as a caller makes them: each is made on what the one before it left, and does what its
-- contract says. (A record is lent as ten bytes, by its type: so each call has a whole record.)
abbrev pub kept_after : OrRefusal Totals → Totals → Totals
kept_after (Ok t') t = t'
kept_after (Err why) t = t

pub data Made : (strip : List ℕ) (t : Totals) → List Call → (strip' : List ℕ) (t' : Totals) → Type 0 where
  none : {strip : List ℕ} {t : Totals} → Made strip t [] strip t
  next : {strip after strip' : List ℕ} {t t' : Totals} {c : Call} {cs : List Call} (answer : OrRefusal Totals) → Answers decoded strip t c answer after
      → Made after (kept_after answer t) cs strip' t' → Made strip t (c ∷ cs) strip' t'
