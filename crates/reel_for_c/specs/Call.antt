-- What a caller in C gets of a call on a reel: the number, the count, the three sums, and every byte of the strip.
-- Assumes nothing.
use Rattle.std.specs.Prelude.{List, [], ◌∷◌, ◌≡◌, ℕ, get_or, Err, Ok}
use Rattle.rules.specs.Refusal.{OrRefusal}
use Rattle.rules.specs.declared.Totals.{Totals}
use Rattle.rules.specs.Reel.{Call, reel_of, reel_result, reel_answer, reel_after}
use Rattle.decode.specs.Decoded.{decoded}

-- the count and the sums that C lends, and the sums as it has them
abbrev pub totals : (count : ℕ) (sums : List ℕ) → Totals
totals n sums = record { count = n; red = get_or sums 0 0; green = get_or sums 1 0; blue = get_or sums 2 0 }

abbrev pub sums_of : Totals → List ℕ
sums_of t = t.red ∷ t.green ∷ t.blue ∷ []

-- what stands in C's words after an answer: what is then kept, or what was there
abbrev pub count_after : OrRefusal Totals → ℕ → ℕ
count_after (Ok t) count = t.count
count_after (Err why) count = count

abbrev pub sums_after : OrRefusal Totals → List ℕ → List ℕ
sums_after (Ok t) sums = sums_of t
sums_after (Err why) sums = sums

-- the answer to a call on what C lends
abbrev pub answer_for : (strip : List ℕ) (count : ℕ) (sums : List ℕ) → Call → OrRefusal Totals
answer_for strip n sums c = reel_answer decoded (reel_of strip (totals n sums)) c

-- the number (0 where the call is accepted), the count, the sums and the strip after the call are those that the rules give
pub record GivesReel (strip : List ℕ) (count : ℕ) (sums : List ℕ) (c : Call) (number count' : ℕ) (sums' strip' : List ℕ) : Type 0 where
  pub numbered : number ≡ (reel_result (answer_for strip count sums c)).number
  pub counted : count' ≡ count_after (answer_for strip count sums c) count
  pub summed : sums' ≡ sums_after (answer_for strip count sums c) sums
  pub writes : strip' ≡ (reel_after decoded (reel_of strip (totals count sums)) c).strip
