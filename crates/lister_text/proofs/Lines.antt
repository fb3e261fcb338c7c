-- Lines, one record after the other.
-- Assumes nothing.
use mathlib.Core.Path.{◌≡◌, refl}
use mathlib.Core.List.{List, [], ◌∷◌, ◌++◌, append_assoc, append-nil}
use Prim.Native.Nat.{ℕ, suc, ◌+◌}
use native.Mathlib.Nat.{add-zero}
use native.Mathlib.Omega.{arith}
use lib.ListN.{length}
use Rattle.rules.specs.Strip.{records, record_at}
use Rattle.rules.proofs.Strips.{records_more, length_records}
use Rattle.lister_text.specs.Listed.{outcome_of, lines}
use Rattle.rules.specs.Lister.{size, line, lines_by}

pub lines_append : (k : ℕ) (xs ys : List (List ℕ)) → lines k (xs ++ ys) ≡ lines k xs ++ lines (k + length xs) ys
unfolding lines_by
lines_append k [] ys = rw add-zero
lines_append k (x ∷ xs) ys =
    let e : suc k + length xs ≡ k + suc (length xs) = omega arith in
    rw (lines_append (suc k) xs ys, e, append_assoc)

lines_one : (k : ℕ) (r : List ℕ) → lines k (r ∷ []) ≡ line k (outcome_of r)
unfolding lines_by
lines_one k r = append-nil (line k (outcome_of r))

pub lines_more : (k i : ℕ) (s : List ℕ) → lines k (records size (i + 1) s) ≡ lines k (records size i s) ++ line (k + i) (outcome_of (record_at size i s))
lines_more k i s =
    rw (records_more, lines_append, lines_one, length_records)

pub lines_none : (k : ℕ) (s : List ℕ) → lines k (records size 0 s) ≡ []
unfolding lines_by records
lines_none k s = refl
