-- `put_refused` meets its contract: the word, then the number.
use Rattle.rules.specs.Refusal.{number_of}
use Rattle.rules.specs.Decimal.{decimal}
use Rattle.rules.specs.Lister.{followed, refused}
use Rattle.text.proofs.Putting.{put_both}
use Rattle.lister_line.proofs.put_refused.Goals as goal

pub returns : goal.returns
returns c =
    put_both (followed refused 32) (followed (decimal (number_of c.args.why)) 10) c.requires c.put_word-then.ensures
    (rw c.refusal_number.ensures at c.put_number.ensures)
