-- `put_lines`: the loop stands behind the lines of the records passed.
use Rattle.lister_text.proofs.Standing.{Stands}
use Rattle.lister_text.proofs.put_lines.Given as goal

abbrev pub invariant-loop-i : goal.invariant-loop-i
invariant-loop-i l = Stands l.first l.input l.n l.fn.out l.i l.out l.at
