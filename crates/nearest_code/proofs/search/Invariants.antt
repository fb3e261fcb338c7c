-- The number stays between the numbers of the two ends, and the step tried next lies strictly between them.
use Rattle.std.proofs.Common.{◌-◌}
use Rattle.decode.specs.Decoded.{raw_by}
use Rattle.nearest_code.proofs.Interval.{Between, Next}
use Rattle.nearest_code.proofs.search.Given as goal

abbrev pub invariant-loop-low : goal.invariant-loop-low
invariant-loop-low l = record {
  between : Between (raw_by l.d l.t) l.last l.y l.low l.high l.low_number l.high_number;
  next : Next l.low l.high l.middle l.stride;
}

abbrev pub decreases-loop-low : goal.decreases-loop-low
decreases-loop-low l = l.high - l.low
