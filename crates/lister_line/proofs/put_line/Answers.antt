-- `put_line` meets its contract: the index, then the words of the record.
use Rattle.rules.specs.Decimal.{decimal}
use Rattle.rules.specs.Lister.{followed}
use Rattle.text.proofs.Putting.{put_both}
use Rattle.lister_line.proofs.Parts.{line_parts}
use Rattle.lister_line.proofs.put_line.Goals as goal

pub returns-in-Ok : goal.returns-in-Ok
returns-in-Ok c =
    rw (line_parts, c.in-Ok.is)
    (put_both (followed (decimal c.args.index) 32) _ (rw (line_parts, c.in-Ok.is) at c.requires) c.put_number-then.ensures c.put_ok.ensures)

pub returns-in-Err : goal.returns-in-Err
returns-in-Err c =
    rw (line_parts, c.in-Err.is)
    (put_both (followed (decimal c.args.index) 32) _ (rw (line_parts, c.in-Err.is) at c.requires) c.put_number-then.ensures c.put_refused.ensures)
