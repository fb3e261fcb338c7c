-- `scene` meets its contract: the step of a code that passes has a number that fits.
use Rattle.decode.proofs.Fit.{ready_fits}
use Rattle.decode.proofs.prepared.Prepared.scene.Goals as goal

pub number-requires : goal.number-requires
number-requires c = rw c.step_of-i.ensures (ready_fits c.args.self.now.ready _ c.requires)
