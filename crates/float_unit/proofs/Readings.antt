-- What the reading of a float says of its checks and of its units.
-- Assumes nothing.
use Rattle.std.specs.Prelude.{Err, Ok}
use mathlib.Core.Path.{◌≡◌, refl, sym, ap, ◌∙◌}
use lib.IntN.{ℤ, pos}
use lib.Ieee.{Float}
use Rattle.rules.specs.Refusal.{Check, OrRefusal}
use Rattle.rules.specs.declared.Scene.{Scene}
use Rattle.rules.specs.Float.{float_check, units_of}
use Rattle.float_unit.specs.Reading.{units_after, read_answer}

abbrev check_of : OrRefusal Scene → Check
check_of (Ok y) = Ok tt
check_of (Err r) = Err r

check_after : (c : Check) (y : Scene) → check_of (units_after c y) ≡ c
check_after (Ok tt) y = refl
check_after (Err r) y = refl

pub check_is : (x : Float) (a : OrRefusal Scene) → read_answer x ≡ a → float_check x ≡ check_of a
unfolding read_answer
check_is x a e = sym (check_after (float_check x) (record { 0 = units_of x })) ∙ ap check_of e

abbrev scene_in : OrRefusal Scene → ℤ
scene_in (Ok y) = y.0
scene_in (Err r) = pos 0

pub scene_is : (x : Float) (y : Scene) → read_answer x ≡ Ok y → units_of x ≡ y.0
unfolding read_answer
scene_is x y e = sym (ap (λ (c : Check). scene_in (units_after c (record { 0 = units_of x }))) (check_is x (Ok y) e)) ∙ ap scene_in e
