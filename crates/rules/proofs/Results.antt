-- What a result's number says: 0 exactly where nothing was refused.
-- Assumes nothing.
use Rattle.std.specs.Prelude.{Err, Ok}
use mathlib.Core.List.{List, [], ◌∷◌}
use mathlib.Core.Path.{◌≡◌, refl, ap, sym}
use Prim.Native.Nat.{ℕ, ◌<◌}
use native.Mathlib.Omega.{arith}
use lib.Dec.{lit<}
use lib.ListN.{length, get_or}
use Rattle.rules.specs.Refusal.{Answer, refused_at, Check, number_of}
use Rattle.rules.specs.declared.Refusal.{Refusal}
use Rattle.rules.specs.declared.Refusal.TheVariants.{PartialRecord, ShortOutput, UnknownCurve, UnknownWidth, UnknownEi, CodeAboveTop, SceneOutOfRange, FloatNotFinite, FloatOutOfRange, NoPixel, CodeBelowFirst, NoMatrix, CodeNotDivisible, GradedOutOfRange, ReelFull, NotHeld}
use Rattle.rules.specs.Result.{Result, done, refused_by, single, strip_result, Each}

-- no refusal has the number 0, and none has three digits
pub number_bounds : (why : Refusal) → (0 < number_of why) × (number_of why < 100)
number_bounds PartialRecord = (lit< tt, lit< tt)
number_bounds ShortOutput = (lit< tt, lit< tt)
number_bounds UnknownCurve = (lit< tt, lit< tt)
number_bounds UnknownWidth = (lit< tt, lit< tt)
number_bounds UnknownEi = (lit< tt, lit< tt)
number_bounds CodeAboveTop = (lit< tt, lit< tt)
number_bounds SceneOutOfRange = (lit< tt, lit< tt)
number_bounds FloatNotFinite = (lit< tt, lit< tt)
number_bounds FloatOutOfRange = (lit< tt, lit< tt)
number_bounds NoPixel = (lit< tt, lit< tt)
number_bounds CodeBelowFirst = (lit< tt, lit< tt)
number_bounds NoMatrix = (lit< tt, lit< tt)
number_bounds CodeNotDivisible = (lit< tt, lit< tt)
number_bounds GradedOutOfRange = (lit< tt, lit< tt)
number_bounds ReelFull = (lit< tt, lit< tt)
number_bounds NotHeld = (lit< tt, lit< tt)

-- a result with the number 0 is of checks that pass
pub zero_passed : {A : Type 0} (x : Check) (values : List A) → (single x values).number ≡ 0 → x ≡ Ok tt
zero_passed (Ok tt) values e = refl
zero_passed (Err why) values e = absurd (omega (arith, (number_bounds why).0, e))

-- the values of a call on a single pixel or record are as P says, where the values that are given are
pub each_single : {A : Type 0} (P : A → Type 0) (x : Check) (values : List A) → (x ≡ Ok tt → Each P values) → Each P (single x values).values
each_single P (Ok tt) values h = h refl
each_single P (Err why) values h = tt

-- ---- results of strips
pub done_answer : (a : Answer) (n : ℕ) → strip_result a ≡ done (n ∷ []) → Ok n ≡ a
done_answer (Ok m) n e = ap Ok (sym (ap (λ (r : Result ℕ). get_or r.values 0 0) e))
done_answer (Err x) n e = absurd (omega (arith, (number_bounds x.cause).0, ap (λ (r : Result ℕ). r.number) e))

-- the cause and the place of a refusal
pub record RefusedFor (a : Answer) (number index : ℕ) : Type 0 where
  pub why : Refusal
  pub is : a ≡ refused_at why index
  pub numbered : number_of why ≡ number

pub refused_answer : (a : Answer) (number index : ℕ) → strip_result a ≡ refused_by number index → RefusedFor a number index
refused_answer (Ok m) number index e = absurd (omega (arith, ap (λ (r : Result ℕ). length r.values) e))
refused_answer (Err x) number index e =
    record { why = x.cause; is = ap (refused_at x.cause) (ap (λ (r : Result ℕ). r.index) e); numbered = ap (λ (r : Result ℕ). r.number) e }
