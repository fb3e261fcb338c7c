-- The records of a strip, one after the other, and what is written for them.
-- Assumes nothing.
use mathlib.Core.Path.{◌≡◌, refl, ap, ◌∙◌}
use mathlib.Core.List.{List, [], ◌∷◌, ◌++◌, append_assoc, append-nil}
use Prim.Native.Nat.{ℕ, zero, suc, ◌+◌, ◌*◌, ◌≤◌, ◌<◌}
use native.Mathlib.Nat.{mul-le-mul_right, zero-add, zero-mul, suc-add, suc-mul}
use native.Mathlib.Numerals.{add-one}
use native.Mathlib.Omega.{arith}
use lib.ListN.{length, take, drop, length-append, length-drop}
use lib.Seq.{drop-drop, take-append-le, drop-append-le, length-take-le}
use Rattle.rules.specs.Strip.{records, record_at, written}

pub next : (k size : ℕ) → (k + 1) * size ≡ k * size + size
next k size = rw (add-one, suc-mul)

-- the k-th stretch lies within a length that has room for n
pub room_at : (k n size from len : ℕ) → size ≡ from → k < n → n * from ≤ len → k * size + size ≤ len
room_at k n size from len e h room =
    let le : (k + 1) * from ≤ n * from = mul-le-mul_right from (rw add-one h) in
    rw (e, ← next k from) (omega arith)

-- the k-th of n records is whole
pub length_at : (size n k : ℕ) (s : List ℕ) → n * size ≤ length s → k < n → length (record_at size k s) ≡ size
length_at size n k s h l = length-take-le size (drop (k * size) s) (rw length-drop (omega (arith, room_at k n size size (length s) refl l h)))

pub length_records : (size n : ℕ) (s : List ℕ) → length (records size n s) ≡ n
unfolding records
length_records size zero s = refl
length_records size (suc n) s = ap suc (length_records size n (drop size s))

records_suc : (size k : ℕ) (s : List ℕ) → records size (suc k) s ≡ records size k s ++ (record_at size k s ∷ [])
unfolding records
records_suc size zero s = rw zero-mul
records_suc size (suc k) s =
    let e : size + k * size ≡ suc k * size = rw suc-mul (omega arith) in
    let h : drop (k * size) (drop size s) ≡ drop (suc k * size) s = drop-drop (k * size) size s ∙ ap (λ (m : ℕ). drop m s) e in
    ap {B = List (List ℕ)} (λ r. take size s ∷ r)
    (records_suc size k (drop size s) ∙ ap (λ (t : List ℕ). records size k (drop size s) ++ (take size t ∷ [])) h)

pub records_more : (size k : ℕ) (s : List ℕ) → records size (k + 1) s ≡ records size k s ++ (record_at size k s ∷ [])
records_more size k s = rw (add-one, records_suc)

-- ---- the records of two strips, joined
empty : (a : List ℕ) → length a ≡ 0 → a ≡ []
empty [] e = refl
empty (x ∷ a) e = absurd (omega arith)

pub records_append : (size m n : ℕ) (a b : List ℕ) → length a ≡ m * size → records size (m + n) (a ++ b) ≡ records size m a ++ records size n b
unfolding records
records_append size zero n a b e =
    rw (zero-add, empty a (e ∙ zero-mul size))
records_append size (suc m) n a b e =
    let l : length a ≡ m * size + size = e ∙ suc-mul m size in
    rw (suc-add, take-append-le size a b (omega arith), drop-append-le size a b (omega arith), records_append size m n (drop size a) b (rw length-drop (omega arith)))

-- ---- what is written, one record after the other
pub written_append : (f : List ℕ → List ℕ) (xs ys : List (List ℕ)) → written f (xs ++ ys) ≡ written f xs ++ written f ys
unfolding written
written_append f [] ys = refl
written_append f (x ∷ xs) ys = rw (written_append f xs ys, append_assoc)

pub written_one : (f : List ℕ → List ℕ) (x : List ℕ) → written f (x ∷ []) ≡ f x
unfolding written
written_one f x = append-nil (f x)

pub length_written : (f : List ℕ → List ℕ) (to : ℕ) → ((r : List ℕ) → length (f r) ≡ to) → (size k : ℕ) (s : List ℕ) → length (written f (records size k s)) ≡ k * to
unfolding records written
length_written f to long size zero s = rw zero-mul
length_written f to long size (suc k) s = rw (length-append, long, length_written f to long size k (drop size s), suc-mul) (omega arith)
