-- `list` meets its contract: the tests of the room and of the indices, then the lines and the tail's.
use Rattle.std.proofs.Common.{arith}
use Rattle.lister_text.proofs.Answers.{no_room, no_index, lower_room, all_listed}
use Rattle.lister_text.proofs.list.Goals as goal

pub returns-then-out-lt-LONGEST_TAIL : goal.returns-then-out-lt-LONGEST_TAIL
returns-then-out-lt-LONGEST_TAIL c = no_room _ _ _ (omega (arith, c.if-out-lt-LONGEST_TAIL.true))

pub returns-then-out-n : goal.returns-then-out-n
returns-then-out-n c = no_room _ _ _ (omega (arith, c.if-out-n.true, c.if-out-lt-LONGEST_TAIL.false))

pub returns-then-first-n : goal.returns-then-first-n
returns-then-first-n c = no_index _ _ _ (omega (arith, c.if-first-n.true))

pub put_tail-requires : goal.put_tail-requires
put_tail-requires c =
    lower_room c.args.first c.args.input.now c.args.out.now (omega (arith, c.if-out-n.false, c.if-out-lt-LONGEST_TAIL.false)) (omega (arith, c.if-first-n.false)) c.put_lines-at.ensures

pub returns : goal.returns
returns c =
    all_listed c.args.first c.args.input.now c.args.out.now (omega (arith, c.if-out-n.false, c.if-out-lt-LONGEST_TAIL.false)) (omega (arith, c.if-first-n.false)) c.put_lines-at.ensures c.put_tail.ensures
