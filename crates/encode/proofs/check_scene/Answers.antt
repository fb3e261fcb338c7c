-- `check_scene` meets its contract: the ends are those of the definition.
use borrow.Author.Rules.{rules}
use mir.Syntax.{w64}
use mir.Val.{SFits}
use Rattle.whole.proofs.Words.{read_back_lem}
use Rattle.rules.specs.Encoding.{scene_check}
use Rattle.encode.proofs.check_scene.Goals as goal

pub returns : goal.returns
unfolding scene_check
returns c =
    let fits : SFits w64 c.args.x.0 = search rules in
    rw (read_back_lem fits) at c.check_between.ensures
