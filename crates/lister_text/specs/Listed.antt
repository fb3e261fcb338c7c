-- What the lister's function writes: all that the rules say it prints, where there is room.
-- Assumes nothing.
use Rattle.rules.specs.Triples.{Triple}
use Rattle.std.specs.Prelude.{Bool, false, List, [], ◌++◌, ◌≡◌, ℕ, ◌+◌, ◌*◌, ◌/◌, ◌^◌, leb, ltb, length, drop}
use Rattle.rules.specs.Choice.{choose}
use Rattle.rules.specs.Refusal.{OrRefusal}
use Rattle.rules.specs.Lister.{size, outcome_by, lines_by, listed_by}
use Rattle.decode.specs.Decoded.{decoded}
use Rattle.lister_line.specs.Line.{longest, longest_tail}

-- the rules' text, with the decoded numbers put in
abbrev pub outcome_of : List ℕ → OrRefusal Triple
outcome_of = outcome_by decoded

abbrev pub lines : (k : ℕ) → List (List ℕ) → List ℕ
lines = lines_by decoded

abbrev pub listed : (k : ℕ) → List ℕ → List ℕ
listed = listed_by decoded

-- room for the longest text of so many bytes, and for their indices
abbrev pub enough : (k : ℕ) → (input output : List ℕ) → Bool
enough k input output = choose (leb (longest * (length input / size) + longest_tail) (length output)) (ltb (k + length input / size) (2 ^ 64)) false

-- the text that is made of bytes: what is printed for them, or none where the output has not room for the longest or the index after the last
-- is 2^64
unfoldable pub text_for : (k : ℕ) → (input output : List ℕ) → List ℕ
text_for k input output = choose (enough k input output) (listed k input) []

-- the contract of the lister's function: the count of bytes, and the output after it
pub record Lists (k : ℕ) (input output : List ℕ) (count : ℕ) (after : List ℕ) : Type 0 where
  pub counts : count ≡ length (text_for k input output)
  pub writes : after ≡ text_for k input output ++ drop count output
