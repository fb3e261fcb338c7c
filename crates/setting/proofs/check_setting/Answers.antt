-- The limits of each curve are those of the rules; curve 2 has the EIs of curve 3.
use Rattle.std.proofs.Common.{sym}
use Rattle.rules.specs.Setting.{setting_check}
use Rattle.setting.proofs.check_setting.Goals as goal

pub returns-in-LogC2 : goal.returns-in-LogC2
unfolding setting_check
returns-in-LogC2 c = rw (sym c.in-LogC2.ensures, c.check_limits.ensures, c.has_width.ensures, c.has_ei.ensures)
