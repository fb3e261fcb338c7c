-- `put_u16` meets its contract.
use Rattle.std.proofs.Common.{◌∙◌}
use Rattle.little_endian.proofs.Bytes.{low_bytes}
use Rattle.little_endian.proofs.put_u16.Goals as goal

pub returns : goal.returns
returns c = c.copy_from_slice.ensures.after ∙ c.to_le_bytes.ensures ∙ low_bytes 2 c.args.x
