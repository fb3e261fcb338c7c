-- `put_setting` meets its contract.
use Rattle.std.proofs.Common.{arith}
use Rattle.records.proofs.Parts.{setting_put}
use Rattle.records.proofs.put_setting.Goals as goal

pub returns : goal.returns
returns c = let s = c.args.s in setting_put c.args.out.now s.curve s.width s.ei c.requires (omega arith) (omega arith) c.put_u16.ensures
