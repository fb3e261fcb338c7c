-- `to_scene` meets its contract: the triple that is given is near.
use Rattle.std.proofs.Common.{Ok, rules}
use Rattle.graded.specs.Graded.{to_scene_result}
use Rattle.graded.proofs.Theorems.{given_near}
use Rattle.graded.proofs.to_scene.Goals as goal

pub returns-clause-gives_graded : goal.returns-clause-gives_graded
unfolding to_scene_result
returns-clause-gives_graded c = given_near c.args.s c.args.a (Ok c.scenes_for.result) (search rules)
