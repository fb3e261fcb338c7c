-- The ACES numbers of a pixel, with the decoded numbers put in.
-- Assumes nothing.
use Rattle.rules.specs.declared.Setting.{Setting}
use Rattle.rules.specs.Triples.{Pixel, Triple}
use Rattle.rules.specs.Pixels.{aces_by}
use Rattle.decode.specs.Decoded.{decoded}

abbrev pub pixel_aces : Setting → Pixel → Triple
pixel_aces = aces_by decoded
