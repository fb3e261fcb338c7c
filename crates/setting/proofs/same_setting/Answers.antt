-- The numbers are the same where the settings are: curve and width have one byte each.
use Rattle.std.proofs.Common.{◌≡◌, ◌<◌, Bool, true, false, nat_eq, refl, arith}
use Rattle.std.proofs.lemmas.Bool.{eq-eqb, ne_eqb, eqb-true, eqb-false}
use Rattle.rules.specs.declared.Setting.{Setting}
use Rattle.rules.specs.Choice.{choose}
use Rattle.setting.specs.Same.{word_of, same_setting}
use Rattle.setting.proofs.same_setting.Goals as goal

abbrev InBytes : Setting → Type 0
InBytes s = (s.curve < 256) × (s.width < 256)

by_word : (a b : Setting) → InBytes a → InBytes b → nat_eq (word_of a) (word_of b) ≡ same_setting a b
unfolding same_setting
by_word a b p q = go (nat_eq a.curve b.curve) (nat_eq a.width b.width) (nat_eq a.ei b.ei) refl refl refl
  where
    other : ((word_of a ≡ word_of b) → ⊥) → nat_eq (word_of a) (word_of b) ≡ false
    other h = ne_eqb (word_of a) (word_of b) h

    go : (x y z : Bool) → nat_eq a.curve b.curve ≡ x → nat_eq a.width b.width ≡ y → nat_eq a.ei b.ei ≡ z
        → nat_eq (word_of a) (word_of b) ≡ choose x (choose y z false) false
    go true true true e f g =
        eq-eqb (word_of a) (word_of b) (omega (arith, eqb-true a.curve b.curve e, eqb-true a.width b.width f, eqb-true a.ei b.ei g))
    go true true false e f g = other (λ w. eqb-false a.ei b.ei g (omega (arith, w, p.0, p.1, q.0, q.1)))
    go true false z e f g = other (λ w. eqb-false a.width b.width f (omega (arith, w, p.0, p.1, q.0, q.1)))
    go false y z e f g = other (λ w. eqb-false a.curve b.curve e (omega (arith, w, p.0, p.1, q.0, q.1)))

pub returns : goal.returns
returns c = let x = c.word.ensures in let y = c.word-2.ensures in rw (x.0, y.0) (by_word c.args.a c.args.b (x.1, x.2) (y.1, y.2))
