-- 02, item 7, "Graded masters home again": the scene numbers for ACES numbers that a colourist changed.
-- Assumes nothing.
use Rattle.std.specs.Prelude.{true, List, [], ◌∷◌, ◌≡◌, ℕ, ◌^◌, ℤ, Ok}
use Rattle.rules.specs.Refusal.{Check, then, refuse_unless}
use Rattle.rules.specs.declared.Refusal.TheVariants.{GradedOutOfRange}
use Rattle.rules.specs.Triples.{Pixel}
use Rattle.rules.specs.Triples.{Scenes}
use Rattle.rules.specs.declared.Setting.{Setting}
use Rattle.rules.specs.Triples.{Triple}
use Rattle.rules.specs.Choice.{between}
use Rattle.rules.specs.Encoding.{code_by, scene_check}
use Rattle.rules.specs.Matrix.{matrix_of}
use Rattle.rules.specs.Pixels.{pixel, Small3, aces_triple}
use Rattle.rules.specs.WayBack.{within3}

-- "For ACES numbers from -2^38 to 2^38"
abbrev pub graded_limit : ℕ
graded_limit = 2 ^ 38

abbrev pub WithinLimits : Triple → Type 0
WithinLimits a = Small3 graded_limit a.red.0 a.green.0 a.blue.0

-- refusal 14: "a graded ACES number outside those limits, checked in the channel"
unfoldable pub graded_check : ℤ → Check
graded_check a = refuse_unless (between graded_limit a) GradedOutOfRange

-- "red, green and blue (each channel's checks before the next channel)"
unfoldable pub graded_checks : Triple → Check
graded_checks a = then (graded_check a.red.0) (then (graded_check a.green.0) (graded_check a.blue.0))

-- "differs from the given one by at most two units in each channel"
abbrev pub graded_tolerance : ℕ
graded_tolerance = 2

-- "a scene triple whose ACES triple differs from the given one by at most" e units; and one that can be encoded: 7 refuses none of it
pub record GradedWithin (e : ℕ) (s : Setting) (a : Triple) (x : Scenes) : Type 0 where
  pub near : within3 e a (aces_triple (matrix_of s) x) ≡ true
  pub red_encodes : scene_check x.red.0 ≡ Ok tt
  pub green_encodes : scene_check x.green.0 ≡ Ok tt
  pub blue_encodes : scene_check x.blue.0 ≡ Ok tt

-- what is asked of the scene triple for a graded triple. "Which scene triple is given is otherwise free.": where it is needed, it is a parameter
abbrev pub IsGraded : Setting → Triple → Scenes → Type 0
IsGraded = GradedWithin graded_tolerance

-- "a call on one record gives the triple"
abbrev pub scene_numbers : Scenes → List ℤ
scene_numbers x = x.red.0 ∷ x.green.0 ∷ x.blue.0 ∷ []

-- "then encode that triple", where codes have these numbers
abbrev pub pixel_nearest : (number : Setting → ℕ → ℤ) → Setting → Scenes → Pixel
pixel_nearest number s x = pixel (code_by number s x.red.0) (code_by number s x.green.0) (code_by number s x.blue.0)
