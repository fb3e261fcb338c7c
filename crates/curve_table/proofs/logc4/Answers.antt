-- `logc4` meets its contract: each arm's table is computed.
use Rattle.std.proofs.Common.{arith}
use borrow.Author.Tests.{ne_eqb}
use Rattle.curve_table.specs.Table.{log_c4_table}
use Rattle.curve_table.proofs.logc4.Goals as goal

pub returns-in-12 : goal.returns-in-12
unfolding log_c4_table
returns-in-12 c = rw c.in-12.is

pub returns-in-16 : goal.returns-in-16
unfolding log_c4_table
returns-in-16 c = rw c.in-16.is

pub returns-in-140 : goal.returns-in-140
unfolding log_c4_table
returns-in-140 c = rw c.in-140.is

pub returns-in_default : goal.returns-in_default
unfolding log_c4_table
returns-in_default c = rw (ne_eqb c.args.width 12 (omega arith), ne_eqb c.args.width 16 (omega arith), ne_eqb c.args.width 140 (omega arith))
