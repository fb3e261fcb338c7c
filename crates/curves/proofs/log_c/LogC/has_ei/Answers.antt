-- An EI has a row where it is one of the EIs.
use Rattle.rules.specs.declared.CurveName.TheVariants.{LogC3}
use Rattle.rules.specs.Setting.{eis_of}
use Rattle.curves.specs.LogC.{row_of}
use Rattle.curves.proofs.Rows.{member_place}
use Rattle.curves.proofs.log_c.LogC.has_ei.Goals as goal

pub returns : goal.returns
unfolding row_of
returns c = rw (c.row.ensures, member_place c.args.ei (eis_of LogC3))
