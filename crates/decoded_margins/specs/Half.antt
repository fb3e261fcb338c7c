-- A half of a unit: a whole number is the nearest to a value where it is less than this away.
-- Assumes nothing.
use Rattle.rules.specs.Fraction.{Fraction, ratio}

abbrev pub half : Fraction
half = ratio 1 2
