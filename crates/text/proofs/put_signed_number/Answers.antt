-- `put_signed_number` meets its contract: the number, then the byte.
use Rattle.std.proofs.Common.{[], ◌∷◌}
use Rattle.whole.proofs.Words.{read_back_lem}
use Rattle.text.proofs.Putting.{put_both}
use Rattle.rules.specs.Decimal.{signed}
use Rattle.text.proofs.put_signed_number.Goals as goal

pub returns : goal.returns
returns c =
    put_both (signed c.args.z) (c.args.b ∷ []) c.requires (rw (read_back_lem c.ranges.z) at c.put_signed-then.ensures) c.put_byte.ensures
