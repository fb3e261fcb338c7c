-- Of the widths there are, only 140 is 128 or more.
use Rattle.std.proofs.Common.{◌*◌, ◌/◌, nat_eq}
use Rattle.std.proofs.Math.Facts.{eqb_yes}
use Rattle.rules.specs.Setting.{named, codes_at, codes_of}
use Rattle.rules.proofs.Settings.{for_valid}
use Rattle.setting_codes.proofs.first_code.Goals as goal

pub returns : goal.returns
unfolding codes_of
returns c = eqb_yes (for_valid (λ curve w e. nat_eq (w / 128 * 256) (codes_at (named curve) w).first) tt c.args.s c.requires)
