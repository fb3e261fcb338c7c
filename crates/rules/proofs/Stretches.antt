-- The records of a strip of which one is written anew in its stretch, or one more is written after the others.
-- Assumes nothing.
use mathlib.Core.List.{List, [], ◌∷◌, ◌++◌}
use mathlib.Core.Path.{◌≡◌, refl, sym, ap, ap₂, ◌∙◌}
use Prim.Native.Nat.{ℕ, zero, suc, ◌+◌, ◌-◌, ◌*◌, ◌≤◌, ◌<◌}
use native.Mathlib.Nat.{zero-mul, suc-mul}
use native.Mathlib.Omega.{arith}
use lib.ListN.{length, get_or, take, drop, length-append, length-drop, take-append-drop, drop_of_length-le}
use lib.Seq.{take_at, drop_at, drop-drop, split_at, length-take-le}
use Rattle.rules.specs.Strip.{records, record_at}
use Rattle.rules.proofs.Strips.{room_at, length_at, records_append, length_records}

-- what comes after one of a list
drop_past : (i : ℕ) (p q : List (List ℕ)) (r : List ℕ) → length p ≡ i → drop (suc i) (p ++ (r ∷ q)) ≡ q
drop_past i p q r e = rw e at (past p)
  where
    past : (p : List (List ℕ)) → drop (suc (length p)) (p ++ (r ∷ q)) ≡ q
    past [] = refl
    past (x ∷ p) = past p

module _ (size : ℕ) where
  at_records : (n i : ℕ) (s : List ℕ) → i < n → get_or (records size n s) i [] ≡ record_at size i s
  unfolding records
  at_records zero i s h = absurd (omega arith)
  at_records (suc n) zero s h = rw zero-mul
  at_records (suc n) (suc i) s h =
      let e : size + i * size ≡ suc i * size = rw suc-mul (omega arith) in
      at_records n i (drop size s) (omega arith) ∙ ap (take size) (drop-drop (i * size) size s ∙ ap (λ (m : ℕ). drop m s) e)

  -- one of the first n records, and the others
  pub record_parts : (n i : ℕ) (s : List ℕ) → i < n
      → records size n s ≡ take i (records size n s) ++ (record_at size i s ∷ drop (suc i) (records size n s))
  record_parts n i s h = rw (at_records n i s h) at (split_at (records size n s) i [] (rw length_records h))

  -- the first of them
  pub take_records : (m n : ℕ) (s : List ℕ) → m ≤ n → take m (records size n s) ≡ records size m s
  unfolding records
  take_records zero n s h = refl
  take_records (suc m) zero s h = absurd (omega arith)
  take_records (suc m) (suc n) s h = ap {B = List (List ℕ)} (λ l. take size s ∷ l) (take_records m n (drop size s) (omega arith))

  -- the records before and after a stretch
  around : (i m : ℕ) (a r b : List ℕ) → length a ≡ i * size → length r ≡ size
      → records size (i + suc m) (a ++ (r ++ b)) ≡ records size i a ++ (r ∷ records size m b)
  unfolding records
  around i m a r b ea er = rw (records_append size i (suc m) a (r ++ b) ea, take_at r b size er, drop_at r b size er)

  -- ---- A RECORD IN THE PLACE OF ONE
  module _ (n i : ℕ) (s r : List ℕ) (h : i < n) (room : n * size ≤ length s) (er : length r ≡ size) where
    -- the strip before and after the stretch, and how many records come after it
    abbrev left : List ℕ
    left = take (i * size) s

    abbrev right : List ℕ
    right = drop (i * size + size) s

    abbrev later : ℕ
    later = n - suc i

    within : i * size + size ≤ length s
    within = room_at i n size size (length s) refl h room

    left_long : length left ≡ i * size
    left_long = length-take-le (i * size) s (omega (arith, within))

    parts : left ++ (record_at size i s ++ right) ≡ s
    parts =
        ap (λ (t : List ℕ). left ++ (record_at size i s ++ t)) (sym (drop-drop size (i * size) s))
        ∙ ap (λ (t : List ℕ). left ++ t) (take-append-drop size (drop (i * size) s))
        ∙ take-append-drop (i * size) s

    split : records size n s ≡ records size i left ++ (record_at size i s ∷ records size later right)
    split =
        ap₂ (λ (m : ℕ) (t : List ℕ). records size m t) (omega arith) (sym parts)
        ∙ around i later left (record_at size i s) right left_long (length_at size n i s room h)

    -- the others are as they were
    pub record_written : records size n (left ++ (r ++ right)) ≡ take i (records size n s) ++ (r ∷ drop (suc i) (records size n s))
    record_written =
        ap (λ (m : ℕ). records size m (left ++ (r ++ right))) (omega arith)
        ∙ around i later left r right left_long er
        ∙ ap₂ {C = List (List ℕ)} (λ (p q : List (List ℕ)). p ++ (r ∷ q)) (sym before) (sym after)
      where
        e : length (records size i left) ≡ i
        e = length_records size i left

        before : take i (records size n s) ≡ records size i left
        before = rw split (take_at (records size i left) (record_at size i s ∷ records size later right) i e)

        after : drop (suc i) (records size n s) ≡ records size later right
        after = rw split (drop_past i (records size i left) (records size later right) (record_at size i s) e)

    -- and the strip is as long
    pub length_with : length (left ++ (r ++ right)) ≡ length s
    length_with = rw (length-append, left_long, length-append, er, length-drop) (omega (arith, within))

  -- ---- A RECORD MORE
  pub record_added : (n : ℕ) (s r : List ℕ) → suc n * size ≤ length s → length r ≡ size
      → records size (suc n) (take (n * size) s ++ (r ++ drop (n * size + size) s)) ≡ records size n s ++ (r ∷ [])
  record_added n s r room er =
      record_written (suc n) n s r (omega arith) room er
      ∙ ap₂ {C = List (List ℕ)} (λ (p q : List (List ℕ)). p ++ (r ∷ q)) (take_records n (suc n) s (omega arith))
      (drop_of_length-le (records size (suc n) s) {i = suc n} (rw length_records (omega arith)))
