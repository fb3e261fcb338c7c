-- `put` meets its contract: each stretch is written behind the one before.
use Rattle.std.proofs.Common.{arith}
use Rattle.records.proofs.Parts.{four_parts}
use Rattle.records.proofs.put.Goals as goal

pub returns : goal.returns
returns g c =
    let n = g.T.Channel.BYTES in
    rw (c.BYTES-green.ensures, c.BYTES.ensures, c.BYTES-2.ensures)
    (four_parts n c.args.s _ c.args.out.now (omega (arith, c.requires)) c.put_setting.ensures c.write.ensures c.write-2.ensures c.write-3.ensures)
