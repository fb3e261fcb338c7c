-- `fill`: the loop stands at a record, with the pixels of the records before it in the buffer; the setting that is prepared passes.
use Rattle.std.specs.Prelude.{Ok}
use Rattle.std.proofs.Common.{◌≡◌}
use Rattle.rules.specs.WayBack.{distance_of}
use Rattle.record_conversion.specs.Conversions.{back_within}
use Rattle.strip_passes.proofs.FirstPass.{Scanned}
use Rattle.strip_passes.proofs.SecondPass.{Filled}
use Rattle.strip_one_pass.proofs.fill.Given as goal

abbrev pub invariant-loop-index : goal.invariant-loop-index
invariant-loop-index l = record {
  scanned : Scanned (back_within (distance_of l.fn.k)) l.n l.input l.index;
  filled : Filled (back_within (distance_of l.fn.k)) l.n l.input l.fn.buffer l.index l.buffer;
  passes : (back_within (distance_of l.fn.k)).setting l.d.setting ≡ Ok tt;
}
