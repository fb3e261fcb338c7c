-- `float_of` meets its contract: the cast loses nothing, and the quotient by 2^24 is the float of the number.
use Rattle.std.proofs.Common.{◌≡◌, ◌≤◌, ◌^◌, nat_abs, ℤ, ap, ◌∙◌, arith}
use lib.Ieee.{binary64, div, of_int, of_bits}
use Rattle.whole.proofs.Reflect.{at, abs_is}
use Rattle.whole.proofs.Words.{read_back, read_back_lem, fits_z}
use Rattle.float_unit.proofs.Scaled.{quotient_is}
use Rattle.float_unit.proofs.float_of.Goals as goal

-- the number fits a word
number_is : (z : ℤ) → nat_abs z ≤ 2 ^ 40 → read_back z ≡ z
number_is z h = read_back_lem (fits_z (at z) (omega (arith, h, abs_is z)) (omega (arith, h, abs_is z)))

pub returns : goal.returns
unfolding of_bits
returns c =
    ap (λ (z : ℤ). div binary64 (of_int binary64 z) (of_bits binary64 4715268809856909312)) (number_is c.args.y.0 c.requires)
    ∙ quotient_is c.args.y.0 c.requires
