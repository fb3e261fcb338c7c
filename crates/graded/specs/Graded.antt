-- The graded road of a setting: how near its scene triple is, and what the call on one record gives.
-- Assumes nothing.
use Rattle.rules.specs.Triples.{Triple, Scenes}
use Rattle.std.specs.Prelude.{ℕ, ℤ}
use Rattle.rules.specs.declared.Setting.{Setting}
use Rattle.rules.specs.Refusal.{OrRefusal}
use Rattle.rules.specs.Result.{Result, answered}
use Rattle.rules.specs.Graded.{scene_numbers}
use Rattle.rules.specs.Calls.{graded_by}
use Rattle.aces_inverse.specs.Inverse.{candidates}

-- how many units the ACES triple of what is given differs at most from the given one; 02 asks for graded_tolerance
abbrev pub reached : ℕ
reached = 1

-- the number and the values of each case of the answer: the three scene numbers
abbrev pub answer_result : OrRefusal Scenes → Result ℤ
answer_result = answered scene_numbers

-- the scene numbers for the numbers, or the refusal of the first check that fails: 3, 4, 5, 12, then 14
unfoldable pub to_scene_result : Setting → Triple → Result ℤ
to_scene_result = graded_by candidates
