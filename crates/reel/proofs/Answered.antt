-- What a call on a reel answers, from its check.
-- Assumes nothing.
use Rattle.std.specs.Prelude.{Err, Ok}
use mathlib.Core.Bool.{true, false}
use mathlib.Core.List.{List}
use mathlib.Core.Path.{◌≡◌, refl, ap, ◌∙◌}
use Prim.Native.Nat.{ℕ, ◌-◌}
use Rattle.rules.specs.declared.Refusal.{Refusal}
use Rattle.rules.specs.declared.Refusal.TheVariants.{NotHeld}
use Rattle.rules.specs.declared.Totals.{Totals}
use Rattle.rules.specs.Reel.{Call, replace, drop_last, meter_check, held, call_check, reel_of, reel_check, strip_after_call, totals_after_call, reel_answer, reel_after, Answers}
use Rattle.rules.proofs.ReelChecks.{in_place}
use Rattle.decode.specs.Decoded.{decoded}

module _ (strip : List ℕ) (t : Totals) (c : Call) where
  -- a refused call leaves the strip as it was
  pub refused : {why : Refusal} → reel_check (reel_of strip t) c ≡ Err why → Answers decoded strip t c (Err why) strip
  unfolding reel_answer reel_after
  refused e = record { answers = rw e refl; writes = rw e refl }

  pub accepted : {totals : Totals} {after : List ℕ} → reel_check (reel_of strip t) c ≡ Ok tt
      → totals ≡ totals_after_call decoded (reel_of strip t) c → after ≡ strip_after_call (reel_of strip t) c → Answers decoded strip t c (Ok totals) after
  unfolding reel_answer reel_after
  accepted e f g = record { answers = rw (e, f) refl; writes = rw (e, g) refl }

-- the test of an index decides: of replacing before the record, of dropping alone
pub replace_held : (room count i : ℕ) (r : List ℕ) → held room count i ≡ true → call_check room count (replace i r) ≡ meter_check r
unfolding call_check
replace_held room count i r e = rw e refl

pub replace_not_held : (room count i : ℕ) (r : List ℕ) → held room count i ≡ false → call_check room count (replace i r) ≡ Err NotHeld
unfolding call_check
replace_not_held room count i r e = rw e refl

pub drop_held : (room count : ℕ) → held room count (count - 1) ≡ true → call_check room count drop_last ≡ Ok tt
unfolding call_check
drop_held room count e = rw e refl

pub drop_not_held : (room count : ℕ) → held room count (count - 1) ≡ false → call_check room count drop_last ≡ Err NotHeld
unfolding call_check
drop_not_held room count e = rw e refl

pub drop_none : (room : ℕ) {count : ℕ} → count ≡ 0 → call_check room count drop_last ≡ Err NotHeld
drop_none room e = ap (λ (n : ℕ). call_check room n drop_last) e ∙ in_place.drop_of_none room
