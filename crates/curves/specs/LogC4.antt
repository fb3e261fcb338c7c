-- Curve 4 as the program holds it: its numbers are those of the rules' formula.
-- Assumes nothing.
use Rattle.std.specs.Prelude.{◌≡◌}
use Rattle.rules.specs.Fraction.{Fraction, ratio, whole, ◌+ℚ◌, ◌-ℚ◌, ◌*ℚ◌, ◌/ℚ◌}
use Rattle.rules.specs.Curve.{log_c4, exponent, less, factor}
use Rattle.curves.specs.declared.log_c4.LogC4.{LogC4}

pub record IsLogC4 (k : LogC4) : Type 0 where
  pub exponent_is : (t : Fraction) → exponent log_c4 t ≡ whole k.begin +ℚ whole k.stops *ℚ (whole k.white *ℚ t -ℚ whole k.black) /ℚ whole k.range
  pub less_is : less log_c4 ≡ whole k.less
  pub factor_is : factor log_c4 ≡ ratio k.times k.over
