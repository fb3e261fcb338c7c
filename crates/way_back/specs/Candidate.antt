-- The only pixel that can give three ACES numbers, exactly or nearly: the codes nearest to the scene numbers that the inverse matrix makes of them.
-- Assumes nothing.
use Rattle.std.specs.Prelude.{Bool, ℕ, ℤ}
use Rattle.rules.specs.declared.Setting.{Setting}
use Rattle.rules.specs.Triples.{Pixel, Triple}
use Rattle.rules.specs.Choice.{between, all_three}
use Rattle.encode.specs.Encoded.{encoded}
use Rattle.aces_inverse.specs.Inverse.{candidate, candidates}
use Rattle.aces_inverse.specs.Reach.{reach}
use Rattle.rules.specs.Graded.{pixel_nearest}
use Rattle.decode.specs.Decoded.{decoded}

-- a code of it
abbrev pub code_for : Setting → (i : ℕ) → Triple → ℕ
code_for s i a = encoded s (candidate s i a.red.0 a.green.0 a.blue.0)

abbrev pub candidate_pixel : Setting → Triple → Pixel
candidate_pixel s a = pixel_nearest decoded s (candidates s a)

-- no pixel has an ACES number beyond the reach of the inverse
unfoldable pub in_reach : ℤ → Bool
in_reach x = between reach x

unfoldable pub all_in_reach : Triple → Bool
all_in_reach a = all_three (in_reach a.red.0) (in_reach a.green.0) (in_reach a.blue.0)
