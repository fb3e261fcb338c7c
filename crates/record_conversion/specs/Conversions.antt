-- The conversions of the rules, with the decoded numbers and the scene triples of graded numbers put in.
-- Assumes nothing.
use Rattle.std.specs.Prelude.{List, ℕ, Err, Ok}
use Rattle.rules.specs.Refusal.{Check}
use Rattle.rules.specs.declared.Setting.{Setting}
use Rattle.rules.specs.Conversions as rules
use Rattle.rules.specs.Strip.{Conversion}
use Rattle.rules.specs.WayBack.{exact, tolerated}
use Rattle.decode.specs.Decoded.{decoded}
use Rattle.aces_inverse.specs.Inverse.{candidates}

abbrev pub scene_bits : Setting → ℕ → ℕ
scene_bits = rules.scene_bits decoded

abbrev pub code_bits : Setting → ℕ → ℕ
code_bits = rules.code_bits decoded

abbrev pub pixel_to_scene : Conversion
pixel_to_scene = rules.pixel_to_scene decoded

abbrev pub scene_to_pixel : Conversion
scene_to_pixel = rules.scene_to_pixel decoded

abbrev pub pixel_to_aces : Conversion
pixel_to_aces = rules.pixel_to_aces decoded

-- the way back of numbers at most e from a pixel's, and so the exact and the tolerant one
abbrev pub back_within : (e : ℕ) → Conversion
back_within = rules.aces_to_pixel decoded

abbrev pub aces_to_pixel : Conversion
aces_to_pixel = back_within exact

abbrev pub aces_to_pixel_tolerant : Conversion
aces_to_pixel_tolerant = back_within tolerated

abbrev pub graded_to_pixel : Conversion
graded_to_pixel = rules.graded_to_pixel candidates decoded

abbrev pub graded_to_scene : Conversion
graded_to_scene = rules.graded_to_scene candidates

-- the stretch of a record after its check: what is written for it where it passes, else what stood there
abbrev pub stretch_after : Check → (bytes out : List ℕ) → List ℕ
stretch_after (Ok tt) bytes out = bytes
stretch_after (Err why) bytes out = out
