-- 02, item 7, of strips: what the graded road takes, and what it writes for each record.
-- Assumes nothing.
use Rattle.std.specs.Prelude.{List, ◌≡◌, ℕ, ◌*◌, ◌<◌, length}
use Rattle.rules.specs.Triples.{Scenes}
use Rattle.rules.specs.Calls.{EncodesBy}
use Rattle.rules.specs.Graded.{WithinLimits, GradedWithin, scene_numbers}
use Rattle.rules.specs.Pixels.{scenes}
use Rattle.rules.specs.Record.{IsBytes, setting_of, pixel_in, triple_in, numbers_size}
use Rattle.rules.specs.Result.{done}
use Rattle.rules.specs.Setting.{ValidForAces}
use Rattle.rules.specs.Strip.{record_at}
use Rattle.decode.specs.Decoded.{decoded}
use Rattle.graded.specs.Graded.{reached, to_scene_result}
use Rattle.promise.specs.Words.{number_in}

-- an ACES strip that the graded road takes: a whole number of records, each with a setting that is valid for ACES and three numbers "from -2^38 to
-- 2^38"
pub record HoldsGraded (r : List ℕ) : Type 0 where
  pub valid : ValidForAces (setting_of r)
  pub numbers : WithinLimits (triple_in r)

pub record AcceptedGraded (aces : List ℕ) (n : ℕ) : Type 0 where
  pub bytes : IsBytes aces
  pub long : length aces ≡ n * numbers_size
  pub each : (k : ℕ) → k < n → HoldsGraded (record_at numbers_size k aces)

-- "a scene triple whose ACES triple differs from the given one by at most two units in each channel" (how far: graded `reached`, which is less), and
-- the one that "a call on one record gives"
pub record Given (aces : List ℕ) (x : Scenes) : Type 0 where
  pub near : GradedWithin reached (setting_of aces) (triple_in aces) x
  pub called : to_scene_result (setting_of aces) (triple_in aces) ≡ done (scene_numbers x)

-- what graded to scene writes for a record: its setting and that triple
abbrev pub scenes_in : List ℕ → Scenes
scenes_in r = scenes (number_in 0 r) (number_in 1 r) (number_in 2 r)

pub record GivesScenes (aces scene : List ℕ) : Type 0 where
  pub setting : setting_of scene ≡ setting_of aces
  pub given : Given aces (scenes_in scene)

-- what graded to pixel writes: the setting, and "that triple" encoded, each number to its nearest code
pub record GivesPixel (aces pixel : List ℕ) : Type 0 where
  pub scene : Scenes
  pub given : Given aces scene
  pub setting : setting_of pixel ≡ setting_of aces
  pub red : EncodesBy decoded (setting_of aces) scene.red.0 (pixel_in pixel).red.0
  pub green : EncodesBy decoded (setting_of aces) scene.green.0 (pixel_in pixel).green.0
  pub blue : EncodesBy decoded (setting_of aces) scene.blue.0 (pixel_in pixel).blue.0
