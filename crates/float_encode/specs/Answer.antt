-- What encoding one float pixel gives.
-- Assumes nothing.
use Rattle.std.specs.Prelude.{ℕ}
use Rattle.rules.specs.Refusal.{OrNumber, OrRefusal}
use Rattle.rules.specs.Triples.{Pixel}
use Rattle.rules.specs.declared.Setting.{Setting}
use Rattle.rules.specs.Result.{Result, answered, numbered}
use Rattle.rules.specs.Calls.{encode_floats_by}
use Rattle.decode.specs.Decoded.{decoded}
use Rattle.float_decode.specs.Answer.{FloatPixel}
use Rattle.rules.specs.Pixels.{codes}

-- the number and the values, the codes of the pixel, of an answer with the cause, and of one with its number
abbrev pub float_encoding_result : OrRefusal Pixel → Result ℕ
float_encoding_result = answered codes

abbrev pub numbered_float_encoding_result : OrNumber Pixel → Result ℕ
numbered_float_encoding_result = numbered codes

-- the codes, or the refusal of the first check that fails: 3, 4, 5, then 8 and 9 for red, green and blue
unfoldable pub encode_pixel_result : Setting → FloatPixel → Result ℕ
encode_pixel_result s f = encode_floats_by decoded s f.red f.green f.blue
