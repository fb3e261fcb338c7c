-- The library's `contains` is the rules' `member`.
use Rattle.std.proofs.Common.{◌∙◌}
use Rattle.curves.proofs.Member.{any_member}
use Rattle.curves.proofs.lists.is_one_of.Goals as goal

pub returns : goal.returns
returns c = c.contains.ensures.value ∙ any_member c.args.x c.args.list.now
