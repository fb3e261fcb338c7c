-- `in_reach` meets its contract: both ends are those of the definition.
use Rattle.std.proofs.Common.{◌≡◌, refl, ◌∙◌, ◌^◌, arith, Bool, true, false, ◌&&◌, ℤ, pos, is_le, int_cmp}
use Rattle.std.proofs.lemmas.Grind.{common_steps}
use Rattle.std.specs.Int.Signed.{le_z}
use Rattle.whole.specs.Parts.{minus}
use Rattle.rules.specs.Choice.{choose}
use Rattle.way_back.specs.Candidate.{in_reach}
use Rattle.way_back.proofs.in_reach.Goals as goal

at_most : (x y : ℤ) → is_le (int_cmp x y) ≡ le_z x y
at_most x y = grind (arith, common_steps)

and_is : (a b : Bool) → (a && b) ≡ choose a b false
and_is true b = refl
and_is false b = refl

from_to : (low high x : ℤ) → (is_le (int_cmp low x) && is_le (int_cmp x high)) ≡ choose (le_z low x) (le_z x high) false
from_to low high x = rw (at_most low x, at_most x high) (and_is (le_z low x) (le_z x high))

pub returns : goal.returns
unfolding in_reach
returns c =
    (rw (c.new.ensures.start, c.new.ensures.end, c.new.ensures.exhausted) at c.contains.ensures.value)
    ∙ from_to (minus (2 ^ 38)) (pos (2 ^ 38)) c.args.a.0
