-- A strip may be cut at a record's border and converted in parts, one after the other.
-- Assumes nothing.
use Rattle.std.specs.Prelude.{Err, Ok}
use mathlib.Core.Path.{◌≡◌, refl, ap, ap₂, sym, ◌∙◌}
use mathlib.Core.List.{List, [], ◌∷◌, ◌++◌, append_assoc, append-nil}
use Prim.Native.Nat.{ℕ, suc, ◌+◌, ◌*◌, ◌/◌, ◌%◌, ◌≤◌, ◌<◌}
use native.Mathlib.Nat.{zero-mul, add-suc, add-zero, add-mul, mul-div_cancel, mul-mod_left}
use native.Mathlib.Omega.{arith}
use borrow.Author.Tests.{eq-eqb, le-leb, lt-leb}
use lib.ListN.{length, drop, length-append, drop_of_length-le}
use lib.Seq.{drop-append-add}
use Rattle.rules.specs.Refusal.{Answer, refused_at, Check}
use Rattle.rules.specs.declared.Refusal.TheVariants.{ShortOutput}
use Rattle.rules.specs.Strip.{Conversion, record_check, records, written, or_next, scan, scan_of, answer_of, output_after, Converts}
use Rattle.strip.specs.Join.{moved, followed}
use Rattle.rules.proofs.Strips.{records_append, written_append}

-- ---- the checks of two parts
scan_moved : (f : List ℕ → Check) (j k : ℕ) (rs : List (List ℕ)) → scan f (j + k) rs ≡ moved j (scan f k rs)
unfolding scan
scan_moved f j k [] = refl
scan_moved f j k (r ∷ rs) = go (f r) (ap (λ (i : ℕ). scan f i rs) (sym (add-suc j k)) ∙ scan_moved f j (suc k) rs)
  where
    go : (x : Check) → scan f (suc (j + k)) rs ≡ moved j (scan f (suc k) rs) → or_next x (j + k) (scan f (suc (j + k)) rs) ≡ moved j (or_next x k (scan f (suc k) rs))
    go (Ok tt) ih = ih
    go (Err why) ih = refl

-- go on from a count
abbrev resumed : Answer → (ℕ → Answer) → Answer
resumed (Ok m) next = next m
resumed (Err e) next = Err e

scan_append : (f : List ℕ → Check) (k : ℕ) (xs ys : List (List ℕ)) → scan f k (xs ++ ys) ≡ resumed (scan f k xs) (λ m. scan f m ys)
unfolding scan
scan_append f k [] ys = refl
scan_append f k (r ∷ rs) ys = go (f r) (scan_append f (suc k) rs ys)
  where
    go : (x : Check) → scan f (suc k) (rs ++ ys) ≡ resumed (scan f (suc k) rs) (λ m. scan f m ys)
        → or_next x k (scan f (suc k) (rs ++ ys)) ≡ resumed (or_next x k (scan f (suc k) rs)) (λ m. scan f m ys)
    go (Ok tt) ih = ih
    go (Err why) ih = refl

scan_join : (f : List ℕ → Check) (xs ys : List (List ℕ)) → scan f 0 (xs ++ ys) ≡ followed (scan f 0 xs) (scan f 0 ys)
scan_join f xs ys = scan_append f 0 xs ys ∙ go (scan f 0 xs)
  where
    go : (a : Answer) → resumed a (λ m. scan f m ys) ≡ followed a (scan f 0 ys)
    go (Ok m) = ap (λ (i : ℕ). scan f i ys) (sym (add-zero m)) ∙ scan_moved f m 0 ys
    go (Err e) = refl

-- ---- the answer for a whole number of records with room
pub whole_answer : (c : Conversion) (input output : List ℕ) (n : ℕ) → 0 < c.from → length input ≡ n * c.from → n * c.to ≤ length output → answer_of c input output ≡ scan_of c n input
unfolding answer_of
whole_answer c input output n p e room =
    let d : length input / c.from ≡ n = rw e (mul-div_cancel n p) in
    let z : length input % c.from ≡ 0 = rw e (mul-mod_left n c.from) in
    rw (eq-eqb _ 0 z, d, le-leb _ _ room)

-- and without room
pub short_answer : (c : Conversion) (input output : List ℕ) (n : ℕ) → 0 < c.from → length input ≡ n * c.from → length output < n * c.to → answer_of c input output ≡ refused_at ShortOutput 0
unfolding answer_of
short_answer c input output n p e short =
    let d : length input / c.from ≡ n = rw e (mul-div_cancel n p) in
    let z : length input % c.from ≡ 0 = rw e (mul-mod_left n c.from) in
    rw (eq-eqb _ 0 z, d, lt-leb _ _ short)

-- EMPTY INPUT succeeds with 0, and leaves the output as it was
pub empty_input : (c : Conversion) (output : List ℕ) → 0 < c.from → Converts c [] output (Ok 0) output
unfolding scan records written output_after
empty_input c output p =
    record {
      answers = sym (whole_answer c [] output 0 p (sym (zero-mul c.from)) (rw zero-mul (omega arith)));
      writes = rw zero-mul;
    }

module _ (c : Conversion) (p : 0 < c.from) (a b o₁ o₂ : List ℕ) (m n : ℕ) (ea : length a ≡ m * c.from) (eb : length b ≡ n * c.from)
    (e₁ : length o₁ ≡ m * c.to) (room : n * c.to ≤ length o₂) where
  -- THE ANSWER for a joined strip is the first part's where that refuses, else the second's, moved by the records of the first
  pub answers_join : answer_of c (a ++ b) (o₁ ++ o₂) ≡ followed (answer_of c a o₁) (answer_of c b o₂)
  answers_join =
      whole_answer c (a ++ b) (o₁ ++ o₂) (m + n) p (rw (length-append, add-mul) (omega arith)) (rw (length-append, add-mul) (omega arith))
      ∙ ap (scan (record_check c) 0) (records_append c.from m n a b ea)
      ∙ scan_join (record_check c) (records c.from m a) (records c.from n b)
      ∙ sym (ap₂ followed (whole_answer c a o₁ m p ea (omega arith)) (whole_answer c b o₂ n p eb room))

  -- THE OUTPUT of a joined strip is that of its parts, one after the other
  pub outputs_join : output_after c (a ++ b) (o₁ ++ o₂) (Ok (m + n)) ≡ output_after c a o₁ (Ok m) ++ output_after c b o₂ (Ok n)
  unfolding output_after
  outputs_join =
      rw (records_append c.from m n a b ea, written_append, behind, drop_of_length-le o₁ {i = m * c.to} (omega arith), append-nil, append_assoc)
    where
      behind : drop ((m + n) * c.to) (o₁ ++ o₂) ≡ drop (n * c.to) o₂
      behind = ap (λ (i : ℕ). drop i (o₁ ++ o₂)) (add-mul m n c.to ∙ ap (λ (i : ℕ). i + n * c.to) (sym e₁)) ∙ drop-append-add o₁ o₂ (n * c.to)
