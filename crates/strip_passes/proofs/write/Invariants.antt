-- `write`: the loop stands at a record, with what is written so far.
use Rattle.strip_passes.proofs.SecondPass.{Filled}
use Rattle.strip_passes.proofs.write.Given as goal

abbrev pub invariant-loop-i : goal.invariant-loop-i
invariant-loop-i g l = Filled (g.C.RecordConversion.rule l.k) l.n l.input l.fn.output l.i l.output
