-- 01, "Curve 4", "Curve 3", "Decoding", and 02, item 3: a fraction compared with the exact value at a step. The step may be a fraction too.
-- Assumes nothing.
use Rattle.std.specs.Prelude.{Bool, true, false, ℕ}
use Rattle.rules.specs.declared.Setting.{Setting}
use Rattle.rules.specs.Fraction.{Fraction, whole, ◌+ℚ◌, ◌/ℚ◌, Versus, VersusPower}
use Rattle.rules.specs.Curve.{Curve, base, exponent, less, factor, in_toe, toe_value}
use Rattle.rules.specs.Setting.{curve_of, last_of}

-- a curve, and its last step
pub record Scale : Type 0 where
  pub curve : Curve
  pub last : ℕ

-- "a code n stands for the signal n / top", at width 140 "(n - 256) / 3504", and at curve 4, width 16, as "the code over 16" does at width 12: the
-- step i for the signal i / last
abbrev pub signal : Scale → Fraction → Fraction
signal k i = i /ℚ whole k.last

abbrev pub scale_of : Setting → Scale
scale_of s = record { curve = curve_of s; last = last_of s }

-- the power that makes the exact value x: base ^ exponent = x / factor + less
abbrev pub power_for : Curve → Fraction → Fraction
power_for c x = x /ℚ factor c +ℚ less c

-- x R the exact value, in the toe and in the power part
pub data VersusPart (R : ℕ → ℕ → Type 0) (c : Curve) (t x : Fraction) : Bool → Type 0 where
  toe : Versus R x (toe_value c t) → VersusPart R c t x true
  power : VersusPower R (power_for c x) (base c) (exponent c t) → VersusPart R c t x false

-- x R the exact value at the step i. R is an order or the equality of whole numbers.
abbrev pub VersusExact : (ℕ → ℕ → Type 0) → Scale → Fraction → Fraction → Type 0
VersusExact R k i x = VersusPart R k.curve (signal k i) x (in_toe k.curve (signal k i))
