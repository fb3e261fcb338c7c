-- `put_tail` meets its contract: nothing, or the word and the count.
use Rattle.rules.specs.Decimal.{decimal}
use Rattle.rules.specs.Lister.{followed, tail}
use Rattle.text.proofs.Putting.{put_both}
use Rattle.lister_line.proofs.Parts.{tail_some}
use Rattle.lister_line.proofs.put_tail.Goals as goal

pub returns : goal.returns
returns c =
    let some = tail_some c.args.n c.if-n-eq0.false in
    rw some
    (put_both (followed tail 32) (followed (decimal c.args.n) 10) (rw some at c.requires) c.put_word-then.ensures c.put_number.ensures)
