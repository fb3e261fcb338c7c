-- `digits_of` meets its contract: the setting's curve decides.
use Rattle.std.proofs.Common.{arith}
use Rattle.rules.proofs.Settings.{other_curve}
use Rattle.aces_inverse.proofs.digits_of.Goals as goal

pub returns-in_default : goal.returns-in_default
returns-in_default c = other_curve c.args.s c.requires (λ e. omega arith) (λ e. omega arith)
