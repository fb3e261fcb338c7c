-- THE LISTER: the text of an input that is read in pieces is the texts of the pieces, one behind the other.
-- Assumes nothing.
use mathlib.Core.Path.{◌≡◌, ap}
use mathlib.Core.List.{List, ◌++◌, append_assoc, append-nil}
use Prim.Native.Nat.{ℕ, ◌+◌, ◌*◌, ◌/◌, ◌%◌, ◌≤◌}
use native.Mathlib.Omega.{arith}
use lib.ListN.{length, drop, length-append}
use Rattle.rules.specs.Lister.{size, listed_by}
use Rattle.rules.specs.Strip.{records}
use Rattle.rules.proofs.Strips.{records_append, length_records}
use Rattle.lister_line.proofs.Parts.{tail_none}
use Rattle.lister_text.specs.Listed.{lines, listed, text_for, Lists}
use Rattle.lister_text.proofs.Lines.{lines_append}

-- THE PIECES: a piece of m whole records, and what follows it, whose first record has the index k + m
module _ (k m : ℕ) (a b : List ℕ) (whole : length a ≡ m * size) where
  count : length (a ++ b) / size ≡ m + length b / size
  count = rw length-append (omega arith)

  over : length (a ++ b) % size ≡ length b % size
  over = rw length-append (omega arith)

  alone : listed k a ≡ lines k (records size m a)
  unfolding listed_by
  alone =
      let n : length a / size ≡ m = omega arith in
      let z : length a % size ≡ 0 = omega arith in
      rw (n, tail_none (length a % size) z) (append-nil (lines k (records size m a)))

  pub listed_pieces : listed k (a ++ b) ≡ listed k a ++ listed (k + m) b
  unfolding listed_by
  listed_pieces =
      rw (count, over, records_append size m (length b / size) a b whole, lines_append, length_records, alone, append_assoc)

-- THE COUNT is of bytes within the output
pub count_within : {k count : ℕ} {input output after : List ℕ} → Lists k input output count after → count ≤ length after
count_within {k} {count} {input} {output} l =
    omega (arith, l.counts, ap length l.writes, length-append (text_for k input output) (drop count output))
