-- `read` meets its contract: a float that is a number is its three parts.
use Rattle.std.proofs.Common.{sym, ap, ◌∙◌, subst, arith, ◌/◌}
use lib.Bits.{mask_lt}
use lib.Dec.{T}
use lib.Ieee.{binary64, to_bits}
use Rattle.float_unit.specs.Reading.{read_answer}
use Rattle.float_unit.proofs.Fields.{read_nan, bits_lt, by_parts}
use Rattle.float_unit.proofs.read.Goals as goal

pub returns-then-is_nan : goal.returns-then-is_nan
returns-then-is_nan c = sym (read_nan c.args.x (sym c.is_nan.ensures.value ∙ c.if-is_nan.true))

pub join-requires : goal.join-requires
join-requires c =
    let x = c.args.x in
    (omega (arith, bits_lt x (subst T (sym c.well_formed.0.1) tt)), mask_lt (to_bits binary64 x / 4503599627370496) 11, mask_lt (to_bits binary64 x) 52)

pub returns-else-is_nan : goal.returns-else-is_nan
returns-else-is_nan c = c.join.ensures ∙ ap read_answer (by_parts c.args.x (subst T (sym c.well_formed.0.1) tt))
