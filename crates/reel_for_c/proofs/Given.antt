-- From a call's answer to what C gets.
-- Assumes nothing.
use Rattle.std.specs.Prelude.{Err, Ok}
use mathlib.Core.List.{List}
use mathlib.Core.Path.{◌≡◌, refl}
use Prim.Native.Nat.{ℕ}
use Rattle.rules.specs.Refusal.{Check, OrRefusal}
use Rattle.rules.specs.declared.Totals.{Totals}
use Rattle.rules.specs.Reel.{Call, replace, reel_of, reel_check, reel_result, answer_to, reel_answer, totals_after_call, Answers}
use Rattle.decode.specs.Decoded.{decoded}
use Rattle.reel_for_c.specs.Call.{totals, count_after, sums_after, GivesReel}

-- the words of C hold what the answer gives them
pub gives : (strip : List ℕ) (n : ℕ) (sums : List ℕ) (c : Call) (a : OrRefusal Totals) {t : Totals} {after sums' : List ℕ} {number count : ℕ}
    → t ≡ totals n sums → Answers decoded strip t c a after → number ≡ (reel_result a).number → count ≡ count_after a n → sums' ≡ sums_after a sums
    → GivesReel strip n sums c number count sums' after
gives strip n sums c a e h x y z =
    let f = rw e at h.answers in
    record { numbered = rw f at x; counted = rw f at y; summed = rw f at z; writes = rw e at h.writes }

-- replacing leaves the count
pub same_count : (strip : List ℕ) (n : ℕ) (sums : List ℕ) (i : ℕ) (r : List ℕ) (a : OrRefusal Totals) {t : Totals} {after : List ℕ}
    → t ≡ totals n sums → Answers decoded strip t (replace i r) a after → n ≡ count_after a n
unfolding reel_answer
same_count strip n sums i r a e h = rw (rw e at h.answers) (go (reel_check (reel_of strip (totals n sums)) (replace i r)))
  where
    go : (x : Check) → n ≡ count_after (answer_to x (totals_after_call decoded (reel_of strip (totals n sums)) (replace i r))) n
    go (Ok tt) = refl
    go (Err why) = refl
