-- What the lister's function answers: the text of the bytes, or none where the room or the indices are not enough.
-- Assumes nothing.
use mathlib.Core.Bool.{Bool, true, false}
use mathlib.Core.Path.{◌≡◌, refl}
use mathlib.Core.List.{List, ◌++◌}
use Prim.Native.Nat.{ℕ, ◌+◌, ◌*◌, ◌/◌, ◌%◌, ◌^◌, ◌≤◌, ◌<◌}
use native.Mathlib.Omega.{arith}
use lib.Dec.{leb}
use lib.ListN.{length, length-append}
use borrow.Author.Tests.{le-leb, lt-leb, lt-ltb, le-ltb}
use Rattle.rules.specs.Choice.{choose}
use Rattle.rules.specs.Strip.{records}
use Rattle.text.specs.Put.{Room, Put}
use Rattle.text.proofs.Putting.{room_next, put_both}
use Rattle.lister_line.specs.Line.{longest, longest_tail}
use Rattle.lister_line.proofs.Lengths.{tail_long}
use Rattle.lister_text.specs.Listed.{lines, enough, text_for, Lists}
use Rattle.lister_text.proofs.Lengths.{lines_long}
use Rattle.rules.specs.Lister.{size, tail_line, listed_by}

none : (k : ℕ) (input output : List ℕ) → enough k input output ≡ false → Lists k input output 0 output
unfolding text_for
none k input output e = record { counts = rw e; writes = rw e }

neither : (b : Bool) → choose b false false ≡ false
neither true = refl
neither false = refl

module _ (k : ℕ) (input output : List ℕ) where
  pub no_room : length output < longest * (length input / size) + longest_tail → Lists k input output 0 output
  no_room h = none k input output (rw (lt-leb (longest * (length input / size) + longest_tail) (length output) h))

  pub no_index : 2 ^ 64 ≤ k + length input / size → Lists k input output 0 output
  no_index h =
      none k input output
      (rw (le-ltb (k + length input / size) (2 ^ 64) h) (neither (leb (longest * (length input / size) + longest_tail) (length output))))

  module _ (room : longest * (length input / size) + longest_tail ≤ length output) (indices : k + length input / size < 2 ^ 64) where
    abbrev upper : List ℕ
    upper = lines k (records size (length input / size) input)

    abbrev lower : List ℕ
    lower = tail_line (length input % size)

    all_room : Room (upper ++ lower) output 0
    all_room =
        record {
          within = omega (arith, length-append upper lower, lines_long k (length input / size) input indices, tail_long (length input % size) (omega arith));
        }

    module _ {after : List ℕ} {at : ℕ} (p : Put upper output 0 after at) where
      pub lower_room : Room lower after at
      lower_room = room_next upper lower all_room p

      pub all_listed : {last : List ℕ} {end : ℕ} → Put lower after at last end → Lists k input output end last
      unfolding text_for listed_by
      all_listed q =
          let w = put_both upper lower all_room p q in
          let h = le-leb (longest * (length input / size) + longest_tail) (length output) room in
          let i = lt-ltb (k + length input / size) (2 ^ 64) indices in
          record { counts = rw (h, i) (omega (arith, w.ends)); writes = rw (h, i) w.is }
