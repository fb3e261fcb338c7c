-- 01, "Refused, by the place of the check": the number of each cause, and what a call answers that may refuse.
-- Assumes nothing.
use Rattle.std.specs.Prelude.{Bool, ℕ, Result, Ok, Err}
use Rattle.rules.specs.Choice.{choose}
use Rattle.rules.specs.declared.Refusal.{Refusal}
use Rattle.rules.specs.declared.Refusal.TheVariants.{PartialRecord, ShortOutput, UnknownCurve, UnknownWidth, UnknownEi, CodeAboveTop, SceneOutOfRange, FloatNotFinite, FloatOutOfRange, NoPixel, CodeBelowFirst, NoMatrix, CodeNotDivisible, GradedOutOfRange, ReelFull, NotHeld}
use Rattle.rules.specs.declared.RefusedAt.{RefusedAt}

abbrev pub number_of : Refusal → ℕ
-- strips: input is not a whole number of records
number_of PartialRecord = 1
-- strips: output shorter than the records need
number_of ShortOutput = 2
-- setting: curve is neither 3 nor 4; 02, item 3: "Curve 2 joins the curves that 3 lets pass."
number_of UnknownCurve = 3
-- setting: width not one of the curve's
number_of UnknownWidth = 4
-- setting: EI not one of the curve's
number_of UnknownEi = 5
-- channel: code above top
number_of CodeAboveTop = 6
-- channel: scene number to encode outside -2^40 to 2^40
number_of SceneOutOfRange = 7
-- channel: float infinite or not a number; 02, item 6, of reading halves: "it refuses infinities and NaN by 8"
number_of FloatNotFinite = 8
-- channel: float below -65,536 or above 65,536
number_of FloatOutOfRange = 9
-- record, way back: no pixel of this setting has this triple
number_of NoPixel = 10
-- 02, item 1: "a code below 256 at width 140, checked in the channel just before 6"
number_of CodeBelowFirst = 11
-- 02, item 3: "curve 2 in a conversion to or from ACES, checked after 5"
number_of NoMatrix = 12
-- 02, item 5: "a curve 4 width 16 code not divisible by 16, checked first in the channel"
number_of CodeNotDivisible = 13
-- 02, item 7: "a graded ACES number outside those limits, checked in the channel"
number_of GradedOutOfRange = 14
-- 02, item 9, "both checked before the record": "15, append to a full reel"
number_of ReelFull = 15
-- "16, replace at an index not held or drop from an empty reel"
number_of NotHeld = 16

-- what a call answers that gives an A or refuses
abbrev pub OrRefusal : Type 0 → Type 0
OrRefusal A = Result A Refusal

-- the same with the refusal's number
abbrev pub OrNumber : Type 0 → Type 0
OrNumber A = Result A ℕ

-- a check that passes gives nothing else
abbrev pub Check : Type 0
Check = OrRefusal (Unit {0})

-- what a conversion of a strip answers: the count of records, or the cause and the record's index
abbrev pub Answer : Type 0
Answer = Result ℕ RefusedAt

abbrev pub refused_at : Refusal → (index : ℕ) → Answer
refused_at why k = Err (record { cause = why; index = k })

-- the second check's answer where the first passes
abbrev pub then : Check → Check → Check
then (Ok tt) next = next
then (Err r) next = Err r

-- the number of a check's answer; 0 where it passes
abbrev pub number_of_check : Check → ℕ
number_of_check (Ok tt) = 0
number_of_check (Err r) = number_of r

-- refused by r unless the test passes
abbrev pub refuse_unless : Bool → Refusal → Check
refuse_unless test r = choose test (Ok tt) (Err r)
