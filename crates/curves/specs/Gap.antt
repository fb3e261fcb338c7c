-- How far apart the decoded numbers of two codes of a curve are at least, in units.
-- Assumes nothing.
use Rattle.std.specs.Prelude.{ℕ}
use Rattle.rules.specs.declared.CurveName.{CurveName}
use Rattle.rules.specs.declared.CurveName.TheVariants.{LogC2, LogC3, LogC4, Unknown}

abbrev pub gap_of : CurveName → ℕ
gap_of LogC2 = 9
gap_of LogC3 = 42
gap_of LogC4 = 466
gap_of Unknown = 0
