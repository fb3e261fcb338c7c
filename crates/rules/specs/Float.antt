-- 01, "Float pixels and the lister": the exact value of an f64, its checks, its nearest unit, and the f64 of a scene number.
-- An f64 is `nan` (not a number), an infinity `inf s`, or `fin s m e`: the number m * 2 ^ e, minus it where s is true.
-- Assumes nothing.
use Rattle.std.specs.Prelude.{Bool, true, false, ◌≡◌, ℕ, zero, suc, ◌+◌, ◌*◌, ◌^◌, ℤ, pos, negsuc, nat_abs, neg_ℤ, Float}
use Rattle.std.specs.Float.{nan, inf, fin, binary64}
use Rattle.std.specs.Float.Ieee.{up, down, round}
use Rattle.rules.specs.Refusal.{Check, then, refuse_unless}
use Rattle.rules.specs.declared.Refusal.TheVariants.{FloatNotFinite, FloatOutOfRange}
use Rattle.rules.specs.Choice.{choose}
use Rattle.rules.specs.Fraction.{Fraction, whole, integer, ◌*ℚ◌, ◌/ℚ◌, Versus, at_most, nearest}

-- n / d, or minus it
abbrev pub signed : Bool → (n d : ℕ) → Fraction
signed false n d = record { plus = n; minus = 0; over = d }
signed true n d = record { plus = 0; minus = n; over = d }

-- "a float is read from its sign, exponent and fraction bits": the value of these three, where the 11 exponent bits are not all ones.
-- It is (1 + fraction / 2^52) * 2^(exponent - 1023), and where the exponent bits are 0 it is fraction / 2^52 * 2^-1022.
abbrev pub value_of_bits : (sign : Bool) (exponent fraction : ℕ) → Fraction
value_of_bits sign zero fraction = signed sign fraction (2 ^ 1074)
value_of_bits sign (suc x) fraction = signed sign ((2 ^ 52 + fraction) * 2 ^ x) (2 ^ 1074)

-- neither infinite nor not a number
abbrev pub finite : Float → Bool
finite nan = false
finite (inf s) = false
finite (fin s m e) = true

-- the exact value of a finite float, m * 2 ^ e, where 2 ^ e is up e / down e
unfoldable pub value_of : Float → Fraction
value_of nan = whole 0
value_of (inf s) = whole 0
value_of (fin s m e) = signed s (m * up e) (down e)

-- from -65,536 to 65,536
abbrev pub in_range : Fraction → Bool
in_range x = choose (at_most (integer (neg_ℤ (pos 65536))) x) (at_most x (whole 65536)) false

-- refusal 8: "float infinite or not a number"; then 9: "float below -65,536 or above 65,536"
unfoldable pub float_check : Float → Check
float_check x = then (refuse_unless (finite x) FloatNotFinite) (refuse_unless (in_range (value_of x)) FloatOutOfRange)

-- "taken to the nearest unit (a half going up)"
unfoldable pub units_of : Float → ℤ
units_of x = nearest (value_of x *ℚ whole (2 ^ 24))

-- "A scene number v is the float v / 16,777,216, exactly; zero gives plus zero."
pub record IsFloat (v : ℤ) (x : Float) : Type 0 where
  pub is_finite : finite x ≡ true
  pub exact : Versus (λ m n. m ≡ n) (value_of x) (integer v /ℚ whole 16777216)
  pub plus_zero : v ≡ pos 0 → x ≡ fin false 0 (pos 0)

-- the same as an equation: `round` gives the f64 that is nearest to a fraction
abbrev pub negative : ℤ → Bool
negative (pos n) = false
negative (negsuc n) = true

unfoldable pub float_of : ℤ → Float
float_of v = round binary64 (negative v) (nat_abs v) 16777216
