-- The records of a strip, as the passes read and write them.
-- Assumes nothing.
use mathlib.Core.Path.{◌≡◌, ap, ◌∙◌}
use mathlib.Core.List.{List, [], ◌∷◌}
use Prim.Native.Nat.{ℕ, suc, ◌+◌, ◌-◌, ◌*◌, ◌≤◌, ◌<◌}
use native.Mathlib.Nat.{zero-mul, sub-zero, sub_self}
use native.Mathlib.Omega.{arith}
use lib.ListN.{length, drop}
use lib.Seq.{drop-drop}
use Rattle.rules.specs.Strip.{records, record_at}
use Rattle.rules.proofs.Strips.{next, length_at}

-- the records from the k-th up to the n-th
abbrev pub rest : ℕ → ℕ → ℕ → List ℕ → List (List ℕ)
rest size n k s = records size (n - k) (drop (k * size) s)

-- the record that the code reads at a size, of those at the size that a conversion has
pub record Read (from k : ℕ) (s r : List ℕ) : Type 0 where
  pub is : r ≡ record_at from k s
  pub long : length r ≡ from

pub read_at : {n k size from : ℕ} {s r : List ℕ} → size ≡ from → k < n → n * from ≤ length s → r ≡ record_at size k s → Read from k s r
read_at {n} {k} {size} {from} {s} e h room f =
    let is = f ∙ ap (λ (m : ℕ). record_at m k s) e in
    record { is = is; long = ap length is ∙ length_at from n k s room h }

drop_next : (size k : ℕ) (s : List ℕ) → drop size (drop (k * size) s) ≡ drop ((k + 1) * size) s
drop_next size k s = rw (next, drop-drop)

pub rest_start : (size n : ℕ) (s : List ℕ) → rest size n 0 s ≡ records size n s
rest_start size n s = rw (zero-mul, sub-zero)

pub rest_next : (size n k : ℕ) (s : List ℕ) → k < n → rest size n k s ≡ record_at size k s ∷ rest size n (k + 1) s
unfolding records
rest_next size n k s h =
    let e : n - k ≡ suc (n - (k + 1)) = omega arith in
    rw (e, drop_next)

pub rest_end : (size n : ℕ) (s : List ℕ) → rest size n n s ≡ []
unfolding records
rest_end size n s = rw sub_self
