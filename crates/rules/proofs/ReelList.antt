-- 02, item 9, A REEL AS A LIST of records: after any list of calls there are no more than there is room for, and each passes its checks.
-- Assumes nothing.
use Rattle.std.specs.Prelude.{Err, Ok}
use mathlib.Core.List.{List, [], ◌∷◌, ◌++◌}
use mathlib.Core.Path.{◌≡◌, refl, ap}
use Prim.Native.Nat.{ℕ, zero, suc, ◌-◌, ◌≤◌}
use native.Mathlib.Omega.{arith}
use lib.ListN.{length, take, drop, length-append, length-take, length-drop}
use Rattle.rules.specs.Refusal.{Check}
use Rattle.rules.specs.Reel.{Call, append, replace, drop_last, meter_check, call_check, if_passed, changed, after_call, fold}
use Rattle.rules.specs.Result.{Each}
use Rattle.rules.proofs.ReelChecks.{accepted_append, accepted_replace}

-- ---- what accepted calls make of a list, of a few records
pub record Changes (a b c r : List ℕ) : Type 0 where
  pub one_more : changed (a ∷ b ∷ c ∷ []) (append r) ≡ a ∷ b ∷ c ∷ r ∷ []
  pub another : changed (a ∷ b ∷ c ∷ []) (replace 1 r) ≡ a ∷ r ∷ c ∷ []
  pub one_fewer : changed (a ∷ b ∷ c ∷ []) drop_last ≡ a ∷ b ∷ []

pub changes : (a b c r : List ℕ) → Changes a b c r
changes a b c r = record { one_more = refl; another = refl; one_fewer = refl }

-- ---- lists of which every element is as P says
module _ {A : Type 0} (P : A → Type 0) where
  pub each_append : (xs ys : List A) → Each P xs → Each P ys → Each P (xs ++ ys)
  each_append [] ys p q = q
  each_append (x ∷ xs) ys p q = (p.0, each_append xs ys p.1 q)

  pub each_parts : (xs ys : List A) → Each P (xs ++ ys) → Each P xs × Each P ys
  each_parts [] ys p = (tt, p)
  each_parts (x ∷ xs) ys p = let q = each_parts xs ys p.1 in ((p.0, q.0), q.1)

  pub each_take : (n : ℕ) (xs : List A) → Each P xs → Each P (take n xs)
  each_take zero xs p = tt
  each_take (suc n) [] p = tt
  each_take (suc n) (x ∷ xs) p = (p.0, each_take n xs p.1)

  pub each_drop : (n : ℕ) (xs : List A) → Each P xs → Each P (drop n xs)
  each_drop zero xs p = p
  each_drop (suc n) [] p = tt
  each_drop (suc n) (x ∷ xs) p = each_drop n xs p.1

  pub each_more : (Q : A → Type 0) → ((x : A) → P x → Q x) → (xs : List A) → Each P xs → Each Q xs
  each_more Q f [] p = tt
  each_more Q f (x ∷ xs) p = (f x p.0, each_more Q f xs p.1)

-- ---- what is kept
abbrev pub Passes : List ℕ → Type 0
Passes r = meter_check r ≡ Ok tt

pub record Kept (room : ℕ) (rs : List (List ℕ)) : Type 0 where
  pub fits : length rs ≤ room
  pub pass : Each Passes rs

module _ (room : ℕ) (rs : List (List ℕ)) (k : Kept room rs) where
  pub kept_changed : (c : Call) → call_check room (length rs) c ≡ Ok tt → Kept room (changed rs c)
  kept_changed (append r) e =
      let a = accepted_append room (length rs) r e in
      record { fits = rw length-append (omega (arith, a.0)); pass = each_append Passes rs (r ∷ []) k.pass (a.1, tt) }
  kept_changed (replace i r) e =
      let a = accepted_replace room (length rs) i r e in
      let p = each_take Passes i rs k.pass in
      let q = each_drop Passes (suc i) rs k.pass in
      record {
        fits = rw (length-append, length-take, length-drop) (omega (arith, a.0, k.fits));
        pass = each_append Passes (take i rs) (r ∷ drop (suc i) rs) p (a.1, q);
      }
  kept_changed drop_last e =
      record { fits = rw length-take (omega (arith, k.fits)); pass = each_take Passes (length rs - 1) rs k.pass }

  kept_call : (c : Call) → Kept room (after_call room rs c)
  kept_call c = go (call_check room (length rs) c) refl
    where
      go : (x : Check) → call_check room (length rs) c ≡ x → Kept room (if_passed x (changed rs c) rs)
      go (Ok tt) e = kept_changed c e
      go (Err why) e = k

-- some of them, one after the other
pub kept_middle : (room : ℕ) (a m b rs : List (List ℕ)) → Kept room rs → rs ≡ a ++ (m ++ b) → Kept room m
kept_middle room a m b rs k e =
    record {
      fits = omega (arith, k.fits, ap length e, length-append a (m ++ b), length-append m b);
      pass = (each_parts Passes m b (each_parts Passes a (m ++ b) (rw e at k.pass)).1).0;
    }

-- after any list of calls
pub kept_all : (room : ℕ) (rs : List (List ℕ)) → Kept room rs → (calls : List Call) → Kept room (fold (after_call room) rs calls)
unfolding fold
kept_all room rs k [] = k
kept_all room rs k (c ∷ cs) = kept_all room (after_call room rs c) (kept_call room rs k c) cs
