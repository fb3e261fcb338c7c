-- `read` meets its contract: the size of the exponent and the fraction, with the sign.
use Rattle.std.proofs.Common.{◌≡◌, ℕ, sym, ap, ◌∙◌, arith, ℤ, pos, ◌-ℤ◌, w64, to_z, of_z}
use lib.Bits.{and_mask}
use mir.ValLaws.{to_z_pos}
use Rattle.whole.proofs.Apart.{minus_is}
use Rattle.whole.proofs.Words.{read_back_lem}
use Rattle.rules.specs.Half.{sign_of, exponent_of, fraction_of, size_units, signed_units, half_units}
use Rattle.half.proofs.Words.{minus_fits}
use Rattle.half.proofs.read.Goals as goal

-- the units of the exponent and the fraction, with the sign s
signed_units_lem : (h : ℕ) {e f n : ℕ} (s : ℕ) → n ≡ size_units e f → e ≡ exponent_of h → f ≡ fraction_of h → sign_of h ≡ s
    → signed_units s n ≡ half_units h
unfolding half_units
signed_units_lem h s x a b t =
    ap (signed_units s) (x ∙ rw (a, b)) ∙ ap (λ (i : ℕ). signed_units i (size_units (exponent_of h) (fraction_of h))) (sym t)

pub returns-then-h-lt-MINUS : goal.returns-then-h-lt-MINUS
returns-then-h-lt-MINUS c =
    to_z_pos w64 c.size-units.result (omega (arith, c.size-units.ensures.1))
    ∙ signed_units_lem c.args.h.0 0 c.size-units.ensures.0 c.exponent.ensures (and_mask c.args.h.0 10) (omega arith)

pub returns-else-h-lt-MINUS : goal.returns-else-h-lt-MINUS
returns-else-h-lt-MINUS c =
    ap (λ (z : ℤ). to_z w64 (of_z w64 (pos 0 -ℤ z))) (to_z_pos w64 c.size-units.result (omega (arith, c.size-units.ensures.1)))
    ∙ read_back_lem (minus_fits _ c.size-units.ensures.1)
    ∙ sym (minus_is c.size-units.result)
    ∙ signed_units_lem c.args.h.0 1 c.size-units.ensures.0 c.exponent.ensures (and_mask c.args.h.0 10) (omega arith)
