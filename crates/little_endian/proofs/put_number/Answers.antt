-- `put_number` meets its contract.
use Rattle.std.proofs.Common.{ℤ, ap, ◌∙◌, w64, of_z}
use Rattle.whole.proofs.Words.{read_back_lem}
use Rattle.rules.specs.Record.{digits, number_bytes}
use Rattle.little_endian.proofs.Bytes.{low_bytes, bits_are}
use Rattle.little_endian.proofs.put_number.Goals as goal

pub returns : goal.returns
returns c =
    c.copy_from_slice.ensures.after
    ∙ c.to_le_bytes.ensures
    ∙ low_bytes number_bytes _
    ∙ ap (λ (z : ℤ). digits number_bytes (of_z w64 z)) (read_back_lem c.ranges.z)
    ∙ ap (digits number_bytes) (bits_are c.args.z)
