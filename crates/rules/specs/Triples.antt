-- One of a kind for each channel: a pixel, three ACES numbers, three scene numbers.
-- Assumes nothing.
use Rattle.rules.specs.declared.Rgb.{Rgb}
use Rattle.rules.specs.declared.Code.{Code}
use Rattle.rules.specs.declared.Aces.{Aces}
use Rattle.rules.specs.declared.Scene.{Scene}

-- a pixel: its three codes
abbrev pub Pixel : Type 0
Pixel = Rgb Code

-- "the pixel's three ACES numbers"
abbrev pub Triple : Type 0
Triple = Rgb Aces

-- "a scene triple"
abbrev pub Scenes : Type 0
Scenes = Rgb Scene
