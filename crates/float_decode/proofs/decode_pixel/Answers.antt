-- `decode_pixel` meets its contract: the floats that are given are exact.
use Rattle.std.proofs.Common.{Ok, rules}
use Rattle.float_decode.specs.Answer.{float_decoding_result, decode_pixel_result}
use Rattle.float_decode.proofs.Theorems.{answer_exact}
use Rattle.float_decode.proofs.decode_pixel.Goals as goal

pub returns-clause-exact : goal.returns-clause-exact
unfolding decode_pixel_result
returns-clause-exact c = answer_exact c.args.s c.args.p (float_decoding_result (Ok c.floats_of.result)) (search rules)
