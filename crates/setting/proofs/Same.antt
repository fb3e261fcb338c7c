-- Settings that pass the test are the same.
-- Assumes nothing.
use mathlib.Core.Bool.{Bool, true, false}
use mathlib.Core.Path.{◌≡◌, refl, sym, subst}
use borrow.Author.Tests.{eqb-true}
use lib.Dec.{T, eqb}
use Rattle.rules.specs.declared.Setting.{Setting}
use Rattle.rules.specs.Choice.{choose}
use Rattle.setting.specs.Same.{same_setting}

both : (x y : Bool) → choose x y false ≡ true → (x ≡ true) × (y ≡ true)
both true y e = (refl, e)
both false y e = absurd (subst T (sym e) tt)

pub same_is : (a b : Setting) → same_setting a b ≡ true → a ≡ b
unfolding same_setting
same_is a b e =
    let p = both (eqb a.curve b.curve) (choose (eqb a.width b.width) (eqb a.ei b.ei) false) e in
    let q = both (eqb a.width b.width) (eqb a.ei b.ei) p.1 in
    λ i. record { curve = eqb-true a.curve b.curve p.0 i; width = eqb-true a.width b.width q.0 i; ei = eqb-true a.ei b.ei q.1 i }
