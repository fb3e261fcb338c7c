-- The constants of each row are those of the rules.
use Rattle.std.proofs.Common.{◌∙◌}
use Rattle.rules.specs.Curve.{log_c3_rows}
use Rattle.rules.proofs.Settings.{same_eis}
use Rattle.curves.proofs.Rows.{at_row}
use Rattle.curves.proofs.log_c3.LogC3.at.Goals as goal

pub returns : goal.returns
returns c = c.in_table.ensures ∙ at_row log_c3_rows same_eis c.args.ei
