-- `scenes_for` meets its contract: numbers that pass are those that the inverse takes.
use Rattle.graded.proofs.Near.{passed_reach}
use Rattle.graded.proofs.scenes_for.Goals as goal

pub candidate-requires-clause-in_reach : goal.candidate-requires-clause-in_reach
candidate-requires-clause-in_reach c = passed_reach c.args.a c.requires.a_value
