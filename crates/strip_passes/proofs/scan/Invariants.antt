-- `scan`: the loop stands at a record, and answers what the records from there on say; the setting that is prepared passes.
use Rattle.std.specs.Prelude.{Ok}
use Rattle.std.proofs.Common.{◌≡◌}
use Rattle.strip_passes.proofs.FirstPass.{Scanned}
use Rattle.strip_passes.proofs.scan.Given as goal

abbrev pub invariant-loop-index : goal.invariant-loop-index
invariant-loop-index g l = let c = g.C.RecordConversion.rule l.k in record {
  scanned : Scanned c l.n l.input l.index;
  passes : c.setting l.d.setting ≡ Ok tt;
}
