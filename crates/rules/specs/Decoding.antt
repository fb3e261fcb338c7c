-- 01, "Decoding": what a decoded number is. In units: a scene number y stands for y * 2^-24. 02, item 3, of curve 2: "Decoding and encoding
-- follow the same formula, exact decimals and bounds, in units of sensor value."
-- Assumes nothing.
use Rattle.std.specs.Prelude.{Bool, true, false, ◌≡◌, ℕ, ◌^◌, ℤ}
use Rattle.rules.specs.Fraction.{Fraction, ratio, whole, integer, ◌+ℚ◌, ◌-ℚ◌, ◌*ℚ◌, nearest, Less, Greater}
use Rattle.rules.specs.Curve.{in_toe, toe_value}
use Rattle.rules.specs.declared.Setting.{Setting}
use Rattle.rules.specs.Setting.{step_of}
use Rattle.rules.specs.Exact.{Scale, signal, scale_of, VersusExact}

-- "One unit is 2^-24"
abbrev pub unit : Fraction
unit = ratio 1 (2 ^ 24)

-- 02, item 4: "The power part must lie within 51/100 of a unit of the exact value instead of less than one." How far a decoded number may be
-- off, in units. Stated as less than it, as in 01; that implies at most.
abbrev pub tolerance : Fraction
tolerance = ratio 51 100

-- y is a decoded number of the step i, which is in the toe or not; in the power part it is less than e away
pub data DecodesPart (e : Fraction) (k : Scale) (i : ℕ) (y : ℤ) : Bool → Type 0 where
  -- "In the toe the scene number is the exact value times 2^24, to the nearest whole number, a half going up"
  toe : y ≡ nearest (toe_value k.curve (signal k (whole i)) *ℚ whole (2 ^ 24)) → DecodesPart e k i y true
  -- "In the power part it is a whole number less than .. away from the exact value times 2^24": y - e is below that, and y + e above it
  power :
      VersusExact Less k (whole i) ((integer y -ℚ e) *ℚ unit)
      → VersusExact Greater k (whole i) ((integer y +ℚ e) *ℚ unit)
      → DecodesPart e k i y false

abbrev pub DecodesWithin : Fraction → Scale → ℕ → ℤ → Type 0
DecodesWithin e k i y = DecodesPart e k i y (in_toe k.curve (signal k (whole i)))

-- what is asked of a decoded number of a step
abbrev pub Decodes : Scale → ℕ → ℤ → Type 0
Decodes = DecodesWithin tolerance

-- "A setting and code have one decoded number": what is asked of the number of a code
abbrev pub DecodesCode : Setting → (code : ℕ) → ℤ → Type 0
DecodesCode s n = Decodes (scale_of s) (step_of s n)
