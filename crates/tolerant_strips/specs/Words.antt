-- 02, item 8, of one record and of strips: which pixel the tolerant way back returns, and a master that another package moved.
-- Assumes nothing.
use Rattle.std.specs.Prelude.{true, List, ◌≡◌, ℕ, ◌*◌, ◌<◌, length}
use Rattle.rules.specs.Triples.{Pixel, Triple}
use Rattle.rules.specs.declared.Setting.{Setting}
use Rattle.rules.specs.Record.{setting_of, triple_in, numbers_size}
use Rattle.rules.specs.Strip.{record_at}
use Rattle.rules.specs.WayBack.{within3, tolerated}
use Rattle.aces.specs.OfPixel.{pixel_aces}

-- a "pixel whose ACES triple is within five units in every channel" of three numbers, and of those of an ACES record
abbrev pub HasNear : Setting → Triple → Pixel → Type 0
HasNear s a p = within3 tolerated a (pixel_aces s p) ≡ true

abbrev pub GivesNear : List ℕ → Pixel → Type 0
GivesNear r p = HasNear (setting_of r) (triple_in r) p

-- "Some packages move an ACES number by a few units when they save.": an ACES record of the same setting, whose numbers are within five units of
-- those of the master's record
pub record Moved (r master : List ℕ) : Type 0 where
  pub setting : setting_of r ≡ setting_of master
  pub near : within3 tolerated (triple_in r) (triple_in master) ≡ true

-- a strip of n such records
pub record MovedStrip (aces master : List ℕ) (n : ℕ) : Type 0 where
  pub long : length aces ≡ n * numbers_size
  pub each : (k : ℕ) → k < n → Moved (record_at numbers_size k aces) (record_at numbers_size k master)
