-- `Decoder::number` meets its contract: the offset is taken off again.
use Rattle.decode.proofs.Program.{raw_small, cast_fits, minus_fits, minus_is}
use Rattle.decode.proofs.decoder.Decoder.number.Goals as goal

pub overflow_cast-result : goal.overflow_cast-result
overflow_cast-result c = cast_fits c.raw.result (rw c.raw.ensures (raw_small c.requires))

pub overflow_sub-result : goal.overflow_sub-result
overflow_sub-result c = minus_fits c.raw.result (rw c.raw.ensures (raw_small c.requires))

pub returns : goal.returns
returns c = minus_is c.raw.result _ c.raw.ensures (rw c.raw.ensures (raw_small c.requires))
