-- 01, "Decoding" and "ACES and the way back": the matrix row of three exact values. Of an exact value
-- it is known only which fractions are above it and which are below.
-- Assumes nothing.
use Rattle.std.specs.Prelude.{ℕ, ◌*◌, ◌<◌, ℤ, pos, negsuc}
use Rattle.rules.specs.Fraction.{Fraction, ratio, whole, integer, ◌+ℚ◌, ◌-ℚ◌, ◌*ℚ◌, ◌/ℚ◌, Versus, Less, Greater}
use Rattle.rules.specs.Exact.{Scale, VersusExact}
use Rattle.rules.specs.Decoding.{unit}
use Rattle.rules.specs.Matrix.{Matrix, entry}

-- 02, item 4: "ACES numbers then lie within 9/8 of a unit of the exact curve and matrix, and that figure takes the place of two units
-- wherever the archive promise quotes it." How far an ACES number may be off, in units. Stated as less than it, as in 01; that implies at most.
abbrev pub aces_tolerance : Fraction
aces_tolerance = ratio 9 8

-- the matrix row of three fractions over the scale
abbrev pub row_over : Matrix → (i : ℕ) → (x y z : Fraction) → Fraction
row_over m i x y z = (integer (entry m i 0) *ℚ x +ℚ integer (entry m i 1) *ℚ y +ℚ integer (entry m i 2) *ℚ z) /ℚ whole m.scale

-- an order with its sides exchanged: "above and below exchanged"
abbrev pub exchanged : (ℕ → ℕ → Type 0) → ℕ → ℕ → Type 0
exchanged R m n = R n m

-- how a fraction stands to its exact value where the row is to be R, which is less or greater. For less:
-- "above its exact value under a positive entry and below it under a negative one".
abbrev pub Side : (R : ℕ → ℕ → Type 0) → (entry : ℤ) → ℕ → ℕ → Type 0
Side R (pos e) = exchanged R
Side R (negsuc e) = R

-- "A matrix row of three exact values is less than a number where some three fractions, each above its
-- exact value under a positive entry and below it under a negative one, already make the row less than
-- that number; greater is read likewise, with above and below exchanged."
pub record VersusRow (R : ℕ → ℕ → Type 0) (m : Matrix) (i : ℕ) (k : Scale) (r g b : ℕ) (a : Fraction) : Type 0 where
  pub x : Fraction
  pub y : Fraction
  pub z : Fraction
  pub proper : 0 < x.over * y.over * z.over
  pub red : VersusExact (Side R (entry m i 0)) k (whole r) x
  pub green : VersusExact (Side R (entry m i 1)) k (whole g) y
  pub blue : VersusExact (Side R (entry m i 2)) k (whole b) z
  pub already : Versus R (row_over m i x y z) a

-- an ACES number less than e units from "the matrix row of the three exact values": with e it is above
-- the row, and less e below
pub record WithinRow (e : Fraction) (m : Matrix) (i : ℕ) (k : Scale) (r g b : ℕ) (aces : ℤ) : Type 0 where
  pub above : VersusRow Less m i k r g b ((integer aces +ℚ e) *ℚ unit)
  pub below : VersusRow Greater m i k r g b ((integer aces -ℚ e) *ℚ unit)
