-- What decoding one pixel to floats gives.
-- Assumes nothing.
use Rattle.std.specs.Prelude.{List, [], ◌∷◌, Float}
use Rattle.rules.specs.Triples.{Pixel}
use Rattle.rules.specs.declared.Rgb.{Rgb}
use Rattle.rules.specs.declared.Setting.{Setting}
use Rattle.rules.specs.Refusal.{OrNumber, OrRefusal}
use Rattle.rules.specs.Result.{Result, answered, numbered}
use Rattle.rules.specs.Calls.{decode_floats_by, ExactBy}
use Rattle.rules.specs.Float.{float_of}
use Rattle.decode.specs.Decoded.{decoded}

-- "A float pixel holds its red, green and blue as three f64 values"
abbrev pub FloatPixel : Type 0
FloatPixel = Rgb Float

-- those of a pixel's scene numbers
abbrev pub float_pixel : Setting → Pixel → FloatPixel
float_pixel s p = record { red = float_of (decoded s p.red.0); green = float_of (decoded s p.green.0); blue = float_of (decoded s p.blue.0) }

abbrev pub floats : FloatPixel → List Float
floats f = f.red ∷ f.green ∷ f.blue ∷ []

-- the number and the values of an answer with the cause, and of one with its number
abbrev pub float_decoding_result : OrRefusal FloatPixel → Result Float
float_decoding_result = answered floats

abbrev pub numbered_float_decoding_result : OrNumber FloatPixel → Result Float
numbered_float_decoding_result = numbered floats

-- "Decoding one pixel answers either that float pixel or a refusal number": that of the first check that fails, 3, 4, 5, then 13, 11 and 6
unfoldable pub decode_pixel_result : Setting → Pixel → Result Float
decode_pixel_result = decode_floats_by decoded

abbrev pub Exact : Setting → Pixel → List Float → Type 0
Exact = ExactBy decoded
