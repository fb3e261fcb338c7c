-- `join` meets its contract: each exit by its law.
use Rattle.std.specs.Prelude.{Ok}
use Rattle.std.proofs.Common.{ℕ, ◌≡◌, ◌<◌, ◌≤◌, ◌^◌, sym, ap, ◌∙◌, subst, arith, eqb, ℤ, pos, ◌-ℤ◌, w64, to_z, of_z}
use mathlib.Core.Logic.{inl, inr}
use mir.Facts.{to_z_pos}
use Rattle.whole.proofs.Words.{read_back_lem}
use Rattle.float_unit.specs.Reading.{unit_count}
use Rattle.float_unit.proofs.Fields.{read_ones, read_high, read_edge, read_low}
use Rattle.float_unit.proofs.Words.{count_small, minus_fits, plus_exit, minus_exit}
use Rattle.float_unit.proofs.join.Goals as goal
use Rattle.float_unit.proofs.join.Goals.{else-exponent-eq1039-via-then-exponent-eq1039+else-fraction-gt0, else-exponent-eq1039-via-else-exponent-eq1039}

pub returns-then-exponent-eq2047 : goal.returns-then-exponent-eq2047
returns-then-exponent-eq2047 c = sym (read_ones (eqb c.args.sign 1) c.args.exponent c.args.fraction c.if-exponent-eq2047.true)

pub returns-then-exponent-gt1039 : goal.returns-then-exponent-gt1039
returns-then-exponent-gt1039 c = sym (read_high (eqb c.args.sign 1) c.args.exponent c.args.fraction (omega arith) (omega arith))

pub returns-then-fraction-gt0 : goal.returns-then-fraction-gt0
returns-then-fraction-gt0 c = sym (read_edge (eqb c.args.sign 1) c.args.exponent c.args.fraction (omega arith) (omega arith))

pub returns-then-exponent-lt997 : goal.returns-then-exponent-lt997
returns-then-exponent-lt997 c = sym (read_low (eqb c.args.sign 1) c.args.exponent c.args.fraction (omega arith) (omega arith))

-- the count of units fits a signed word
counted : (x s t n : ℕ) → 997 ≤ x → x ≤ 1039 → t < 2 ^ 52 → n ≡ unit_count s x t → n < 9223372036854775808
counted x s t n lo up small e = subst (λ (n : ℕ). n < 9223372036854775808) (sym e) (count_small x lo up t small s)

pub returns-then-sign-eq0 : goal.returns-then-sign-eq0
returns-then-sign-eq0 c =
    let a = c.args in
    let n = c.size-units in
    let small : n.result < 9223372036854775808 = counted a.exponent a.sign a.fraction n.result c.if-exponent-lt997.false c.if-exponent-gt1039.false c.requires.2 n.ensures in
    ap (λ (z : ℤ). Ok (record { 0 = z })) (to_z_pos w64 small ∙ ap pos n.ensures)
    ∙ plus_exit a.exponent c.if-exponent-lt997.false c.if-exponent-gt1039.false a.fraction c.requires.2
    (elim c.else-exponent-eq1039.branch [ else-exponent-eq1039-via-then-exponent-eq1039+else-fraction-gt0 w ↦ inl (w.if-exponent-eq1039.true, w.if-fraction-gt0.false) | else-exponent-eq1039-via-else-exponent-eq1039 w ↦ inr w.if-exponent-eq1039.false ])
    a.sign c.if-sign-eq0.true

pub returns-else-sign-eq0 : goal.returns-else-sign-eq0
returns-else-sign-eq0 c =
    let a = c.args in
    let n = c.size-units in
    let small : n.result < 9223372036854775808 = counted a.exponent a.sign a.fraction n.result c.if-exponent-lt997.false c.if-exponent-gt1039.false c.requires.2 n.ensures in
    ap (λ (z : ℤ). Ok (record { 0 = to_z w64 (of_z w64 (pos 0 -ℤ z)) })) (to_z_pos w64 small)
    ∙ ap (λ (z : ℤ). Ok (record { 0 = z })) (read_back_lem (minus_fits n.result small))
    ∙ ap (λ (n : ℕ). Ok (record { 0 = pos 0 -ℤ pos n })) n.ensures
    ∙ minus_exit a.exponent c.if-exponent-lt997.false c.if-exponent-gt1039.false a.fraction c.requires.2
    (elim c.else-exponent-eq1039.branch [ else-exponent-eq1039-via-then-exponent-eq1039+else-fraction-gt0 w ↦ inl (w.if-exponent-eq1039.true, w.if-fraction-gt0.false) | else-exponent-eq1039-via-else-exponent-eq1039 w ↦ inr w.if-exponent-eq1039.false ])
    a.sign (one a.sign c.requires.0 c.if-sign-eq0.false)
  where
    one : (s : ℕ) → s < 2 → (s ≡ 0 → ⊥) → s ≡ 1
    one s h n = omega arith
