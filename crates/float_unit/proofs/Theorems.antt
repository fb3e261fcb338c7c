-- ONE FLOAT, for every f64 and every scene number up to 2^40.
-- Assumes nothing.
use Rattle.std.specs.Prelude.{Ok}
use mathlib.Core.Bool.{true, false}
use mathlib.Core.Path.{◌≡◌, refl, ◌∙◌}
use Prim.Native.Nat.{suc, ◌^◌, ◌≤◌}
use native.Mathlib.Nat.{mul-pos}
use native.Mathlib.Omega.{arith}
use lib.Dec.{lit<}
use lib.IntN.{ℤ, pos, negsuc, nat_abs}
use lib.Ieee.{Float, nan, inf, fin}
use lib.Ieee.Fits.{down_pos}
use Rattle.rules.specs.Fraction.{ratio, whole, integer, ◌+ℚ◌, ◌-ℚ◌, ◌*ℚ◌, Versus, Less, AtMost}
use Rattle.rules.specs.Float.{signed, value_of, units_of, negative, float_of}
use Rattle.rules.proofs.Nearest.{nearest_is, nearest_half}
use Rattle.float_unit.specs.Reading.{read_answer}
use Rattle.float_unit.proofs.Scaled.{float_value}
use Rattle.float_unit.proofs.Fractions.{units_at, read_at_lem, read_inside}

-- "taken to the nearest unit (a half going up)": a float is at most half a unit below its nearest unit, and less than half a unit above it
pub unit_nearest : (x : Float) → Versus AtMost (integer (units_of x) -ℚ ratio 1 2) (value_of x *ℚ whole (2 ^ 24)) × Versus Less (value_of x *ℚ whole (2 ^ 24)) (integer (units_of x) +ℚ ratio 1 2)
unfolding units_of value_of
unit_nearest nan = nearest_half (whole 0 *ℚ whole (2 ^ 24)) (lit< tt)
unit_nearest (inf s) = nearest_half (whole 0 *ℚ whole (2 ^ 24)) (lit< tt)
unit_nearest (fin true m e) = nearest_half (value_of (fin true m e) *ℚ whole (2 ^ 24)) (mul-pos (down_pos e) (lit< tt))
unit_nearest (fin false m e) = nearest_half (value_of (fin false m e) *ℚ whole (2 ^ 24)) (mul-pos (down_pos e) (lit< tt))

-- the float of a scene number is read as that number
own_units : (v : ℤ) → units_at (negative v) (nat_abs v) 16777216 ≡ v
own_units (pos n) = nearest_is (signed false n 16777216 *ℚ whole (2 ^ 24)) (pos n) n 0 refl (omega arith) (omega arith)
own_units (negsuc n) = nearest_is (signed true (suc n) 16777216 *ℚ whole (2 ^ 24)) (negsuc n) 0 (suc n) (omega arith) (omega arith) (omega arith)

pub own_reading : (v : ℤ) → nat_abs v ≤ 2 ^ 40 → read_answer (float_of v) ≡ Ok (record { 0 = v })
own_reading v h =
    read_at_lem (float_of v) (negative v) (nat_abs v) 16777216 (lit< tt) (float_value v h)
    ∙ read_inside (negative v) (nat_abs v) 16777216 v (omega arith) (own_units v)
