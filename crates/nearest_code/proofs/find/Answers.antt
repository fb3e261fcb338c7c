-- Twice the number of the guess fits a word.
use Rattle.std.proofs.Common.{arith}
use Rattle.decode.proofs.Program.{raw_small}
use Rattle.nearest_code.proofs.find.Goals as goal

pub overflow_mul-number : goal.overflow_mul-number
overflow_mul-number c = omega (arith, c.raw-number.ensures, raw_small (c.requires.rising.fits _ c.guess-first.ensures))

pub raw-number-requires : goal.raw-number-requires
raw-number-requires c = c.requires.rising.fits c.guess-first.result c.guess-first.ensures
