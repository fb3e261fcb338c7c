-- `number_at` meets its contract: byte by byte, then the sign.
use Rattle.std.proofs.Common.{ap, ◌∙◌, arith, rules, w64, FitsSigned}
use Rattle.whole.proofs.Words.{read_back_lem}
use Rattle.rules.specs.Record.{of_bits, number_bytes}
use native.Mathlib.Numerals.{towards_numerals}
use Rattle.little_endian.proofs.Bytes.{value_at_lem, signed_is}
use Rattle.little_endian.proofs.number_at.Goals as goal

pub returns : goal.returns
returns c =
    let f : FitsSigned w64 c.from_le_bytes.result = search rules in
    read_back_lem f
    ∙ c.from_le_bytes.ensures
    ∙ signed_is _
    ∙ ap (of_bits number_bytes) (omega (arith, simp towards_numerals at (value_at_lem number_bytes c.args.at c.args.r.now c.requires)))
