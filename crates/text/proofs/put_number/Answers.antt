-- `put_number` meets its contract: the digits, then the byte.
use Rattle.std.proofs.Common.{[], ◌∷◌}
use Rattle.text.proofs.Putting.{put_both}
use Rattle.rules.specs.Decimal.{decimal}
use Rattle.text.proofs.put_number.Goals as goal

pub returns : goal.returns
returns c = put_both (decimal c.args.n) (c.args.b ∷ []) c.requires c.put_decimal-then.ensures c.put_byte.ensures
