-- `take_back` meets its contract: a short strip in one pass, any other in two.
use Rattle.rules.specs.WayBack.{distance_of}
use Rattle.record_conversion.specs.Conversions.{back_within}
use Rattle.strip.proofs.Contract.{in_one_pass}
use Rattle.strip.proofs.take_back.Goals as goal

pub returns-then-n-output-clause-converts : goal.returns-then-n-output-clause-converts
returns-then-n-output-clause-converts c =
    in_one_pass (back_within (distance_of c.args.k)) c.args.input.now c.args.output.now c.if-input-eq0.true c.if-n-output.true _ c.aces_to_pixel.ensures.value _ c.aces_to_pixel.ensures.output_after
