-- How far apart the numbers of two steps of a setting are at least: the figure of its curve.
-- Assumes nothing.
use Rattle.std.specs.Prelude.{ℕ}
use Rattle.rules.specs.declared.Setting.{Setting}
use Rattle.rules.specs.Setting.{named}
use Rattle.curves.specs.Gap as curve

abbrev pub gap_of : Setting → ℕ
gap_of s = curve.gap_of (named s.curve)
