-- The first pass: a loop that checks each record.
-- Assumes nothing.
use Rattle.std.specs.Prelude.{Err, Ok}
use mathlib.Core.Path.{◌≡◌, refl, ap, sym, ◌∙◌, subst}
use mathlib.Core.List.{List}
use Prim.Native.Nat.{ℕ, zero, suc, ◌+◌, ◌*◌, ◌≤◌, ◌<◌}
use native.Mathlib.Nat.{le_antisymm, zero-mul, suc-mul}
use native.Mathlib.Numerals.{add-one}
use native.Mathlib.Omega.{arith}
use lib.ListN.{take, drop}
use lib.Seq.{drop-drop}
use Rattle.rules.specs.Refusal.{Answer, refused_at, Check, then}
use Rattle.rules.specs.declared.Refusal.{Refusal}
use Rattle.rules.specs.declared.Setting.{Setting}
use Rattle.rules.specs.Record.{setting_of}
use Rattle.rules.proofs.Settings.{both}
use Rattle.rules.specs.Strip.{Conversion, record_check, records, record_at, or_next, scan, scan_of}
use Rattle.strip_passes.proofs.Cut.{rest, rest_start, rest_next, rest_end}

-- the check of a record, of which the code has the bytes r and the setting s, where the setting's checks answer x
pub setting_decides : (c : Conversion) {here r : List ℕ} {s : Setting} {x : Check} → r ≡ here → s ≡ setting_of r → c.setting s ≡ x → record_check c here ≡ then x (c.inner r)
setting_decides c {r = r} e f g = ap (record_check c) (sym e) ∙ ap (λ (y : Check). then y (c.inner r)) (ap c.setting (sym f) ∙ g)

-- where the pass stands at the k-th of n records: it is to answer what the records from there on say
pub record Scanned (c : Conversion) (n : ℕ) (input : List ℕ) (k : ℕ) : Type 0 where
  pub upto : k ≤ n
  pub same : scan (record_check c) k (rest c.from n k input) ≡ scan_of c n input

module _ (c : Conversion) (n : ℕ) (input : List ℕ) where
  pub scanned_start : Scanned c n input 0
  scanned_start = record { upto = omega arith; same = rw rest_start }

  scan_at : (k : ℕ) → k < n
      → scan (record_check c) k (rest c.from n k input) ≡ or_next (record_check c (record_at c.from k input)) k (scan (record_check c) (k + 1) (rest c.from n (k + 1) input))
  unfolding scan
  scan_at k h = rw (rest_next c.from n k input h, add-one)

  -- the record passes: on to the next
  pub scanned_more : (k : ℕ) → k < n → Scanned c n input k → record_check c (record_at c.from k input) ≡ Ok tt → Scanned c n input (k + 1)
  scanned_more k h w e =
      record {
        upto = omega arith;
        same = sym (scan_at k h ∙ ap (λ (x : Check). or_next x k (scan (record_check c) (k + 1) (rest c.from n (k + 1) input))) e) ∙ w.same;
      }

  -- the record is refused: that is the answer
  pub scanned_stop : (k : ℕ) (why : Refusal) → k < n → Scanned c n input k → record_check c (record_at c.from k input) ≡ Err why → refused_at why k ≡ scan_of c n input
  scanned_stop k why h w e =
      sym (scan_at k h ∙ ap (λ (x : Check). or_next x k (scan (record_check c) (k + 1) (rest c.from n (k + 1) input))) e) ∙ w.same

  -- no record is left
  pub scanned_end : (k : ℕ) → n ≤ k → Scanned c n input k → Ok n ≡ scan_of c n input
  unfolding scan
  scanned_end k h w =
      ap (λ (l : List (List ℕ)). scan (record_check c) n l) (sym (rest_end c.from n input))
      ∙ subst (λ (m : ℕ). scan (record_check c) m (rest c.from n m input) ≡ scan_of c n input) (le_antisymm w.upto h) w.same

pub done_is : {m k : ℕ} → ◌≡◌ {A = Answer} (Ok m) (Ok k) → m ≡ k
done_is e = cc

pub never : {A : Type 0} {m i : ℕ} {why : Refusal} → Ok m ≡ refused_at why i → A
never e = absurd (let z : ◌≡◌ {A = ℕ} 0 1 = cc in omega arith)

-- ---- a pass that refuses nothing: it has counted every record, and each of them passes
pub go_on : (f : List ℕ → Check) (r : List ℕ) (k m : ℕ) (next : Answer) → Ok m ≡ or_next (f r) k next → (f r ≡ Ok tt) × (Ok m ≡ next)
go_on f r k m next e = go (f r) refl e
  where
    go : (x : Check) → f r ≡ x → Ok m ≡ or_next x k next → (f r ≡ Ok tt) × (Ok m ≡ next)
    go (Ok tt) g e = (g, e)
    go (Err why) g e = never e

scan_count : (f : List ℕ → Check) (size n : ℕ) (s : List ℕ) (k m : ℕ) → Ok m ≡ scan f k (records size n s) → m ≡ k + n
unfolding scan records
scan_count f size zero s k m e = omega (arith, done_is e)
scan_count f size (suc n) s k m e =
    omega (arith, scan_count f size n (drop size s) (suc k) m (go_on f (take size s) k m (scan f (suc k) (records size n (drop size s))) e).1)

pub counted : (c : Conversion) (n : ℕ) (input : List ℕ) (a : Answer) (m : ℕ) → a ≡ scan_of c n input → a ≡ Ok m → m ≡ n
counted c n input a m e h = omega (arith, scan_count (record_check c) c.from n input 0 m (sym h ∙ e))

pub scan_passes : (f : List ℕ → Check) (size n : ℕ) (s : List ℕ) (k m : ℕ) → Ok m ≡ scan f k (records size n s) → (i : ℕ) → i < n → f (record_at size i s) ≡ Ok tt
unfolding scan records
scan_passes f size zero s k m e i h = absurd (omega arith)
scan_passes f size (suc n) s k m e zero h = rw zero-mul (go_on f (take size s) k m (scan f (suc k) (records size n (drop size s))) e).0
scan_passes f size (suc n) s k m e (suc i) h =
    let e₁ : size + i * size ≡ suc i * size = rw suc-mul (omega arith) in
    subst (λ (l : List ℕ). f (take size l) ≡ Ok tt) (drop-drop (i * size) size s ∙ ap (λ (j : ℕ). drop j s) e₁)
    (scan_passes f size n (drop size s) (suc k) m (go_on f (take size s) k m (scan f (suc k) (records size n (drop size s))) e).1 i (omega arith))

-- so the setting of the k-th record passes, and the record after it
pub passed : (c : Conversion) (n m : ℕ) (input : List ℕ) {r : List ℕ} {s : Setting} {k : ℕ} → Ok m ≡ scan_of c n input → k < n → r ≡ record_at c.from k input → s ≡ setting_of r
    → (c.setting s ≡ Ok tt) × (c.inner r ≡ Ok tt)
passed c n m input {r} {s} {k} e h er es =
    both (c.setting s) (c.inner r) (sym (setting_decides c er es refl) ∙ scan_passes (record_check c) c.from n input 0 m e k h)
