-- A pass over n records, for any check: it answers the count where each record passes, and the first refused record where one does not.
-- Assumes nothing.
use Rattle.std.specs.Prelude.{Err, Ok}
use mathlib.Core.Path.{◌≡◌, refl, ap, sym, ◌∙◌, subst}
use mathlib.Core.List.{List}
use Prim.Native.Nat.{ℕ, zero, suc, ◌+◌, ◌*◌, ◌<◌}
use native.Mathlib.Nat.{zero-mul, suc-mul, add-zero}
use native.Mathlib.Omega.{arith}
use lib.ListN.{take, drop}
use lib.Seq.{drop-drop}
use Rattle.rules.specs.Refusal.{refused_at, Check}
use Rattle.rules.specs.declared.Refusal.{Refusal}
use Rattle.rules.specs.declared.RefusedAt.{RefusedAt}
use Rattle.rules.specs.Strip.{records, or_next, scan, record_at}
use Rattle.strip_passes.proofs.FirstPass.{never}

same_refusal : {why why' : Refusal} {k k' : ℕ} → refused_at why k ≡ refused_at why' k' → (why ≡ why') × (k ≡ k')
same_refusal {why} {why'} {k} {k'} e =
    let p : ◌≡◌ {A = RefusedAt} (record { cause = why; index = k }) (record { cause = why'; index = k' }) = cc in
    (ap (λ (x : RefusedAt). x.cause) p, ap (λ (x : RefusedAt). x.index) p)

pub at_start : (size : ℕ) (s : List ℕ) → record_at size 0 s ≡ take size s
at_start size s = rw zero-mul

pub at_later : (size k : ℕ) (s : List ℕ) → record_at size (suc k) s ≡ record_at size k (drop size s)
at_later size k s =
    let e : size + k * size ≡ suc k * size = rw suc-mul (omega arith) in
    ap (take size) (sym (drop-drop (k * size) size s ∙ ap (λ (j : ℕ). drop j s) e))

module _ (f : List ℕ → Check) (size : ℕ) where
  -- the k-th of n records is the first that is refused
  pub record FirstRefused (n : ℕ) (s : List ℕ) (k : ℕ) (why : Refusal) : Type 0 where
    pub in_range : k < n
    pub refused : f (record_at size k s) ≡ Err why
    pub before : (j : ℕ) → j < k → f (record_at size j s) ≡ Ok tt

  -- EVERY RECORD PASSES
  pub all_done : (n : ℕ) (s : List ℕ) (i : ℕ) → ((k : ℕ) → k < n → f (record_at size k s) ≡ Ok tt) → scan f i (records size n s) ≡ Ok (i + n)
  unfolding scan records
  all_done zero s i h = ap Ok (sym (add-zero i))
  all_done (suc n) s i h =
      ap (λ (x : Check). or_next x i (scan f (suc i) (records size n (drop size s)))) (ap f (sym (at_start size s)) ∙ h 0 (omega arith))
      ∙ all_done n (drop size s) (suc i) (λ k l. ap f (sym (at_later size k s)) ∙ h (suc k) (omega arith))
      ∙ ap Ok (let e : suc i + n ≡ i + suc n = omega arith in e)

  -- THE FIRST REFUSED RECORD is answered,
  pub first_answered : (n : ℕ) (s : List ℕ) (i k : ℕ) (why : Refusal) → FirstRefused n s k why → scan f i (records size n s) ≡ refused_at why (i + k)
  unfolding scan records
  first_answered zero s i k why h = absurd (omega (arith, h.in_range))
  first_answered (suc n) s i zero why h =
      ap (λ (x : Check). or_next x i (scan f (suc i) (records size n (drop size s)))) (ap f (sym (at_start size s)) ∙ h.refused) ∙ ap (refused_at why) (sym (add-zero i))
  first_answered (suc n) s i (suc k) why h =
      ap (λ (x : Check). or_next x i (scan f (suc i) (records size n (drop size s)))) (ap f (sym (at_start size s)) ∙ h.before 0 (omega arith))
      ∙ first_answered n (drop size s) (suc i) k why
      (record {
        in_range = omega (arith, h.in_range);
        refused = ap f (sym (at_later size k s)) ∙ h.refused;
        before = λ j l. ap f (sym (at_later size j s)) ∙ h.before (suc j) (omega arith);
      })
      ∙ ap (refused_at why) (let e : suc i + k ≡ i + suc k = omega arith in e)

  -- and what is answered is the first refused record
  later : (n : ℕ) (s : List ℕ) (k : ℕ) (why : Refusal) → f (take size s) ≡ Ok tt → FirstRefused n (drop size s) k why → FirstRefused (suc n) s (suc k) why
  later n s k why p h =
      record {
        in_range = omega (arith, h.in_range);
        refused = ap f (at_later size k s) ∙ h.refused;
        before = go;
      }
    where
      go : (j : ℕ) → j < suc k → f (record_at size j s) ≡ Ok tt
      go zero l = ap f (at_start size s) ∙ p
      go (suc j) l = ap f (at_later size j s) ∙ h.before j (omega arith)

  -- where the pass counts from i
  pub record From (n : ℕ) (s : List ℕ) (i k : ℕ) (why : Refusal) : Type 0 where
    pub steps : ℕ
    pub counted : k ≡ i + steps
    pub first : FirstRefused n s steps why

  answered_from : (n : ℕ) (s : List ℕ) (i k : ℕ) (why : Refusal) → scan f i (records size n s) ≡ refused_at why k → From n s i k why
  unfolding scan records
  answered_from zero s i k why e = never e
  answered_from (suc n) s i k why e = go (f (take size s)) refl e (λ g. answered_from n (drop size s) (suc i) k why g)
    where
      go : (x : Check) → f (take size s) ≡ x → or_next x i (scan f (suc i) (records size n (drop size s))) ≡ refused_at why k
          → (scan f (suc i) (records size n (drop size s)) ≡ refused_at why k → From n (drop size s) (suc i) k why) → From (suc n) s i k why
      go (Ok tt) p e rest =
          let r = rest e in
          record { steps = suc r.steps; counted = omega (arith, r.counted); first = later n s r.steps why p r.first }
      go (Err w) p e rest =
          let q = same_refusal e in
          record {
            steps = 0;
            counted = omega (arith, q.1);
            first =
                record {
                  in_range = omega arith;
                  refused = ap f (at_start size s) ∙ p ∙ ap Err q.0;
                  before = λ j l. absurd (omega arith);
                };
          }

  pub answered_first : (n : ℕ) (s : List ℕ) (k : ℕ) (why : Refusal) → scan f 0 (records size n s) ≡ refused_at why k → FirstRefused n s k why
  answered_first n s k why e = let r = answered_from n s 0 k why e in subst (λ (j : ℕ). FirstRefused n s j why) (sym (r.counted ∙ (let z : 0 + r.steps ≡ r.steps = omega arith in z))) r.first
