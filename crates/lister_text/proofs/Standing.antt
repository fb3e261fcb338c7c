-- The loop over records: where it stands.
-- Assumes nothing.
use mathlib.Core.Path.{◌≡◌, refl, ◌∙◌}
use mathlib.Core.List.{List, ◌++◌}
use Prim.Native.Nat.{ℕ, ◌+◌, ◌*◌, ◌^◌, ◌≤◌, ◌<◌}
use native.Mathlib.Omega.{arith}
use lib.ListN.{length, length-append}
use Rattle.rules.specs.Strip.{records, record_at}
use Rattle.text.specs.Put.{Room, Put}
use Rattle.text.proofs.Putting.{put_none, put_both, put_length}
use Rattle.lister_line.specs.Line.{longest}
use Rattle.lister_text.specs.Listed.{outcome_of, lines}
use Rattle.lister_text.proofs.Lengths.{line_long, lines_long}
use Rattle.lister_text.proofs.Lines.{lines_none, lines_more}
use Rattle.rules.specs.Lister.{size, line}

-- behind the lines of the first i records
pub record Stands (k : ℕ) (input : List ℕ) (n : ℕ) (buffer : List ℕ) (i : ℕ) (out : List ℕ) (at : ℕ) : Type 0 where
  pub upto : i ≤ n
  pub long : length out ≡ length buffer
  pub is : Put (lines k (records size i input)) buffer 0 out at

module _ (k : ℕ) (input : List ℕ) (n : ℕ) (buffer : List ℕ) (room : longest * n ≤ length buffer) (indices : k + n < 2 ^ 64) where
  pub stands_start : Stands k input n buffer 0 buffer 0
  stands_start = record { upto = omega arith; long = refl; is = rw (lines_none k input) (put_none buffer 0) }

  module _ (i : ℕ) (h : i < n) (out : List ℕ) (at : ℕ) (w : Stands k input n buffer i out at) where
    abbrev next : List ℕ
    next = line (k + i) (outcome_of (record_at size i input))

    short : at ≤ longest * i
    short = omega (arith, w.is.ends, lines_long k i input (omega arith))

    next_long : length next ≤ longest
    next_long = line_long (k + i) (omega arith) (record_at size i input)

    pub next_room : Room next out at
    next_room = record { within = omega (arith, next_long, short, w.long) }

    both_room : Room (lines k (records size i input) ++ next) buffer 0
    both_room = record { within = omega (arith, length-append (lines k (records size i input)) next, next_long, short, w.is.ends) }

    pub stands_more : {after : List ℕ} {end : ℕ} → Put next out at after end → Stands k input n buffer (i + 1) after end
    stands_more p =
        record {
          upto = omega arith;
          long = put_length next_room p ∙ w.long;
          is = rw (lines_more k i input) (put_both (lines k (records size i input)) next both_room w.is p);
        }
