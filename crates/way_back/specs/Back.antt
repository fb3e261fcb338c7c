-- The way back of a setting: the pixel that gives three ACES numbers, or numbers at most e units from them; what the way back over one record
-- gives; and how far apart the ACES numbers of two pixels are.
-- Assumes nothing.
use Rattle.rules.specs.Triples.{Pixel, Triple}
use Rattle.std.specs.Prelude.{ℕ, ℤ, Option}
use Rattle.rules.specs.declared.Setting.{Setting}
use Rattle.rules.specs.Refusal.{OrRefusal}
use Rattle.rules.specs.Result.{Result, answered}
use Rattle.rules.specs.WayBack.{pixel_by, apart, PixelsApart}
use Rattle.rules.specs.Calls.{way_back_by}
use Rattle.decode.specs.Decoded.{decoded}
use Rattle.rules.specs.Pixels.{codes}

-- the pixel of a setting that gives numbers at most e from three ACES numbers
abbrev pub pixel_for : (e : ℕ) → Setting → Triple → Option Pixel
pixel_for e = pixel_by e decoded

-- the number and the values of each case of the answer: the codes of the pixel
abbrev pub back_result : OrRefusal Pixel → Result ℕ
back_result = answered codes

-- the codes of that pixel, or the refusal of the first check that fails: 3, 4, 5, 12, then 10
unfoldable pub way_back_result : (e : ℕ) → Setting → Triple → Result ℕ
way_back_result e s a = way_back_by decoded s e a

-- "two different pixels of one setting always differ by at least 12 units in some ACES channel"
abbrev pub AllApart : (number : ℕ → ℤ) → Setting → Type 0
AllApart number s = PixelsApart apart number s
