-- `u16_at` meets its contract: byte by byte.
use Rattle.std.proofs.Common.{arith}
use native.Mathlib.Numerals.{towards_numerals}
use Rattle.little_endian.proofs.Bytes.{value_at_lem}
use Rattle.little_endian.proofs.u16_at.Goals as goal

pub returns : goal.returns
returns c = omega (arith, c.from_le_bytes.ensures, simp towards_numerals at (value_at_lem 2 c.args.at c.args.r.now c.requires))
