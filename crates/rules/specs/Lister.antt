-- 01, "Float pixels and the lister": all that the lister prints, as bytes of text (ASCII). The numbers of the codes are a parameter.
-- Assumes nothing.
use Rattle.std.specs.Prelude.{List, [], ◌∷◌, ◌++◌, ℕ, suc, ◌/◌, ◌%◌, eqb, ℤ, length, Err, Ok}
use Rattle.rules.specs.Refusal.{Check, OrRefusal, number_of}
use Rattle.rules.specs.declared.Setting.{Setting}
use Rattle.rules.specs.Triples.{Triple}
use Rattle.rules.specs.Choice.{choose}
use Rattle.rules.specs.Decimal.{decimal, signed}
use Rattle.rules.specs.Pixels.{aces_by}
use Rattle.rules.specs.Record.{code_bytes, size_of, setting_of, pixel_in}
use Rattle.rules.specs.Strip.{record_check, records}
use Rattle.rules.specs.Conversions.{pixel_to_aces}

-- a word and the byte behind it
abbrev pub followed : (word : List ℕ) (byte : ℕ) → List ℕ
followed w b = w ++ (b ∷ [])

-- `ok`, `refused` and `tail`
abbrev pub ok : List ℕ
ok = 111 ∷ 107 ∷ []

abbrev pub refused : List ℕ
refused = 114 ∷ 101 ∷ 102 ∷ 117 ∷ 115 ∷ 101 ∷ 100 ∷ []

abbrev pub tail : List ℕ
tail = 116 ∷ 97 ∷ 105 ∷ 108 ∷ []

-- the words of a line, "single spaces between" (32), and its end (10): each word with the byte behind it
abbrev pub line_of : List (List ℕ) → List ℕ
line_of [] = []
line_of (w ∷ []) = followed w 10
line_of (w ∷ v ∷ ws) = followed w 32 ++ line_of (v ∷ ws)

-- "`ok` with three ACES numbers or `refused` with the number"
abbrev pub words : OrRefusal Triple → List (List ℕ)
words (Ok a) = ok ∷ signed a.red.0 ∷ signed a.green.0 ∷ signed a.blue.0 ∷ []
words (Err why) = refused ∷ decimal (number_of why) ∷ []

-- "index .., a space, then" the words of the record
abbrev pub line : (index : ℕ) → OrRefusal Triple → List ℕ
line k o = line_of (decimal k ∷ words o)

-- "Bytes short of a record at the end print `tail`, a space and their count; none print nothing."
abbrev pub tail_line : (count : ℕ) → List ℕ
tail_line n = choose (eqb n 0) [] (line_of (tail ∷ decimal n ∷ []))

-- "Pixel record, 10 bytes"
abbrev pub size : ℕ
size = size_of code_bytes

-- what becomes of a record, which is judged alone: the pixel's three ACES numbers, or the refusal
abbrev pub after_check : Check → Triple → OrRefusal Triple
after_check (Ok tt) a = Ok a
after_check (Err why) a = Err why

abbrev pub outcome_by : (number : Setting → ℕ → ℤ) → List ℕ → OrRefusal Triple
outcome_by number r = after_check (record_check (pixel_to_aces number) r) (aces_by number (setting_of r) (pixel_in r))

-- "a line each: index from 0", or from k
unfoldable pub lines_by : (number : Setting → ℕ → ℤ) (k : ℕ) → List (List ℕ) → List ℕ
lines_by number k [] = []
lines_by number k (r ∷ rs) = line k (outcome_by number r) ++ lines_by number (suc k) rs

-- all that is printed for bytes whose first record has the index k
unfoldable pub listed_by : (number : Setting → ℕ → ℤ) (k : ℕ) → List ℕ → List ℕ
listed_by number k s = lines_by number k (records size (length s / size) s) ++ tail_line (length s % size)
