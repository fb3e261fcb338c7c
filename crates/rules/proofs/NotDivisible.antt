-- 02, item 5, REFUSAL 13: a code is refused by it exactly where the curve is 4, the width 16, and the code not divisible by 16; and there no code
-- is refused by 6.
-- Assumes nothing.
use mathlib.Core.Bool.{Bool, true, false}
use mathlib.Core.Logic.{◌↔◌}
use mathlib.Core.Path.{◌≡◌, refl, sym, subst}
use Prim.Native.Nat.{ℕ, ◌%◌, ◌^◌, ◌<◌}
use native.Mathlib.Nat.{mod-one}
use native.Mathlib.Omega.{arith}
use borrow.Author.Tests.{eqb-true, eqb-false, ne_eqb, le-leb}
use lib.Dec.{T, eqb, leb}
use Rattle.rules.specs.declared.Setting.{Setting}
use Rattle.rules.specs.declared.CurveName.{CurveName}
use Rattle.rules.specs.declared.CurveName.TheVariants.{LogC2, LogC3, LogC4, Unknown}
use Rattle.rules.specs.declared.Refusal.TheVariants.{CodeNotDivisible, CodeAboveTop, CodeBelowFirst}
use Rattle.rules.specs.Choice.{choose}
use Rattle.rules.specs.Refusal.{then, refuse_unless, number_of_check}
use Rattle.rules.specs.Setting.{named, codes_to_top, legal_codes, recorder_codes, codes_at, codes_of, last_of, code_at, code_check}
use Rattle.rules.proofs.Settings.{has_name}

-- of which curve and width a code may not be divisible
module _ (n : ℕ) where
  abbrev Padded : CurveName → (width : ℕ) → Type 0
  Padded c w = (c ≡ LogC4) × ((w ≡ 16) × (n % 16 ≡ 0 → ⊥))

  undivided : (c : CurveName) (w : ℕ) → (n % (codes_at c w).apart ≡ 0 → ⊥) → Padded c w
  undivided LogC2 w h = absurd (h (mod-one n))
  undivided LogC3 w h = absurd (h (mod-one n))
  undivided LogC4 w h = go (eqb w 16) (eqb w 140) refl h
    where
      go : (recorder legal : Bool) → eqb w 16 ≡ recorder → (n % (choose recorder recorder_codes (choose legal legal_codes (codes_to_top w))).apart ≡ 0 → ⊥) → Padded LogC4 w
      go true legal e h = (refl, (eqb-true w 16 e, h))
      go false true e h = absurd (h (mod-one n))
      go false false e h = absurd (h (mod-one n))
  undivided Unknown w h = absurd (h (mod-one n))

-- 13 EXACTLY: "a curve 4 width 16 code not divisible by 16"
pub thirteen_exactly : (s : Setting) (n : ℕ) → (number_of_check (code_check s n) ≡ 13) ↔ ((s.curve ≡ 4) × ((s.width ≡ 16) × (n % 16 ≡ 0 → ⊥)))
unfolding codes_of
thirteen_exactly s n = (forth, back)
  where
    found : Padded n (named s.curve) s.width → (s.curve ≡ 4) × ((s.width ≡ 16) × (n % 16 ≡ 0 → ⊥))
    found p = (has_name s.curve p.0, p.1)

    forth : number_of_check (code_check s n) ≡ 13 → (s.curve ≡ 4) × ((s.width ≡ 16) × (n % 16 ≡ 0 → ⊥))
    forth h = go (eqb (n % (codes_of s).apart) 0) (leb (codes_of s).first n) (leb n (code_at s (last_of s))) refl h
      where
        go : (x y z : Bool) → eqb (n % (codes_of s).apart) 0 ≡ x
            → number_of_check (then (refuse_unless x CodeNotDivisible) (then (refuse_unless y CodeBelowFirst) (refuse_unless z CodeAboveTop))) ≡ 13
            → (s.curve ≡ 4) × ((s.width ≡ 16) × (n % 16 ≡ 0 → ⊥))
        go true true true e h = absurd (omega arith)
        go true true false e h = absurd (omega arith)
        go true false z e h = absurd (omega arith)
        go false y z e h = found (undivided n (named s.curve) s.width (eqb-false (n % (codes_of s).apart) 0 e))

    back : (s.curve ≡ 4) × ((s.width ≡ 16) × (n % 16 ≡ 0 → ⊥)) → number_of_check (code_check s n) ≡ 13
    back h = rw (h.0, h.1.0, ne_eqb (n % 16) 0 h.1.1)

-- AND 6 NEVER: at this setting a code that is divisible by 16 is at most the top code, 65520
pub six_never : (s : Setting) → s.curve ≡ 4 → s.width ≡ 16 → (n : ℕ) → n < 2 ^ 16 → number_of_check (code_check s n) ≡ 6 → ⊥
unfolding codes_of
six_never s c w n h e = go (eqb (n % 16) 0) refl (rw (c, w) at e)
  where
    go : (x : Bool) → eqb (n % 16) 0 ≡ x → number_of_check (then (refuse_unless x CodeNotDivisible) (then (refuse_unless (leb 0 n) CodeBelowFirst) (refuse_unless (leb n 65520) CodeAboveTop))) ≡ 6 → ⊥
    go true t e = passed (leb 0 n) (leb n 65520) (le-leb 0 n (omega arith)) (le-leb n 65520 (omega (arith, eqb-true (n % 16) 0 t))) e
      where
        passed : (x y : Bool) → x ≡ true → y ≡ true → number_of_check (then (refuse_unless x CodeBelowFirst) (refuse_unless y CodeAboveTop)) ≡ 6 → ⊥
        passed true true p q e = omega arith
        passed true false p q e = absurd (subst T (sym q) tt)
        passed false y p q e = absurd (subst T (sym p) tt)
    go false t e = omega arith
