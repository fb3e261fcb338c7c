-- `table` meets its contract: the arms are those of the definition.
use Rattle.std.proofs.Common.{sym, ◌∙◌, arith}
use borrow.Author.Tests.{ne_eqb}
use Rattle.curve_table.specs.Table.{table_of}
use Rattle.curve_table.proofs.Rows.{log_c2_row, log_c3_row}
use Rattle.curve_table.proofs.table.Goals as goal

pub returns-in-10 : goal.returns-in-10
unfolding table_of
returns-in-10 c = rw (sym c.name_of.ensures ∙ c.in-LogC2.is, c.in-10.is, ← c.row-row.ensures) (c.by_row.ensures ∙ log_c2_row 10 c.row-row.result)

pub returns-in-12 : goal.returns-in-12
unfolding table_of
returns-in-12 c = rw (sym c.name_of.ensures ∙ c.in-LogC2.is, c.in-12.is, ← c.row-row.ensures) (c.by_row-in-12.ensures ∙ log_c2_row 12 c.row-row.result)

pub returns-in_default : goal.returns-in_default
unfolding table_of
returns-in_default c = rw (sym c.name_of.ensures ∙ c.in-LogC2.is, ne_eqb c.args.s.width 10 (omega arith), ne_eqb c.args.s.width 12 (omega arith))

pub returns-in-10-width : goal.returns-in-10-width
unfolding table_of
returns-in-10-width c = rw (sym c.name_of.ensures ∙ c.in-LogC3.is, c.in-10-width.is, ← c.row-row-in-LogC3.ensures) (c.by_row-in-10-width.ensures ∙ log_c3_row 10 c.row-row-in-LogC3.result)

pub returns-in-12-width : goal.returns-in-12-width
unfolding table_of
returns-in-12-width c = rw (sym c.name_of.ensures ∙ c.in-LogC3.is, c.in-12-width.is, ← c.row-row-in-LogC3.ensures) (c.by_row-in-12-width.ensures ∙ log_c3_row 12 c.row-row-in-LogC3.result)

pub returns-in-16 : goal.returns-in-16
unfolding table_of
returns-in-16 c = rw (sym c.name_of.ensures ∙ c.in-LogC3.is, c.in-16.is, ← c.row-row-in-LogC3.ensures) (c.by_row-in-16.ensures ∙ log_c3_row 16 c.row-row-in-LogC3.result)

pub returns-in_default-width : goal.returns-in_default-width
unfolding table_of
returns-in_default-width c = rw (sym c.name_of.ensures ∙ c.in-LogC3.is, ne_eqb c.args.s.width 10 (omega arith), ne_eqb c.args.s.width 12 (omega arith), ne_eqb c.args.s.width 16 (omega arith))

pub returns-in-LogC4 : goal.returns-in-LogC4
unfolding table_of
returns-in-LogC4 c = rw (sym c.name_of.ensures ∙ c.in-LogC4.is) c.logc4.ensures

pub returns-in-Unknown : goal.returns-in-Unknown
unfolding table_of
returns-in-Unknown c = rw (sym c.name_of.ensures ∙ c.in-Unknown.is)
