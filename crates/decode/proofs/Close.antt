-- Any number that the rules allow for a code is less than the tolerance from the exact value, in the toe too.
-- Assumes nothing.
use mathlib.Core.Bool.{Bool, true, false}
use mathlib.Core.List.{List}
use mathlib.Core.Path.{◌≡◌, refl}
use Prim.Native.Nat.{ℕ, ◌-◌, ◌*◌, ◌^◌, ◌<◌}
use native.Mathlib.Nat.{sub-zero, le_of_lt, mul-le-mul_left, mul-lt-mul_of_pos_right}
use native.Mathlib.Omega.{arith}
use lib.Dec.{T}
use lib.IntN.{ℤ}
use Rattle.whole.proofs.Floor.{half_bounds}
use Rattle.whole.proofs.Tidy.{tidy}
use Rattle.rules.specs.declared.Setting.{Setting}
use Rattle.rules.specs.Setting.{last_of, step_of, curve_of, Valid}
use Rattle.rules.specs.Fraction.{Fraction, ratio, whole, integer, ◌+ℚ◌, ◌-ℚ◌, ◌*ℚ◌, nearest, Versus, Less, Greater}
use Rattle.rules.specs.Curve.{Curve, log_c4, log_c, in_toe, toe_value}
use Rattle.rules.specs.Exact.{Scale, signal, scale_of, VersusPart, VersusExact}
use Rattle.rules.specs.Decoding.{unit, tolerance, DecodesPart, DecodesCode}
use Rattle.rules.proofs.Bounds.{AboveHalf, above_half}
use Rattle.curve_table.specs.Table.{table_of}
use Rattle.decode.proofs.Tests.{HasToe}
use Rattle.decode.specs.Gap.{gap_of}
use Rattle.decode.proofs.Settings.{passed}

-- y is less than e units from the exact value at a step
pub record Close (e : Fraction) (k : Scale) (i : ℕ) (y : ℤ) : Type 0 where
  pub under : VersusExact Less k (whole i) ((integer y -ℚ e) *ℚ unit)
  pub over : VersusExact Greater k (whole i) ((integer y +ℚ e) *ℚ unit)

-- a fraction's nearest whole number is at most a half away, so less than any N / D above a half
module _ (N D : ℕ) (half : AboveHalf N D) where
  toe_close : (t : Fraction) → 0 < t.over → (y : ℤ) → y ≡ nearest (t *ℚ whole (2 ^ 24))
      → Versus Less ((integer y -ℚ ratio N D) *ℚ unit) t × Versus Greater ((integer y +ℚ ratio N D) *ℚ unit) t
  toe_close t h y e =
      let b = half_bounds (t.plus * 2 ^ 24) (t.minus * 2 ^ 24) t.over h y (simp tidy at e) in
      let more = mul-lt-mul_of_pos_right {k = t.over} half h in
      (simp tidy (omega (arith, mul-le-mul_left D b.0)), simp tidy (omega (arith, mul-le-mul_left D (le_of_lt b.1))))

  part_close : (k : Scale) (n : ℕ) (y : ℤ) (b : Bool) → (T b → 0 < (toe_value k.curve (signal k (whole n))).over) → in_toe k.curve (signal k (whole n)) ≡ b
      → DecodesPart (ratio N D) k n y b → Close (ratio N D) k n y
  part_close k n y true h e (DecodesPart.toe p) =
      let c = toe_close (toe_value k.curve (signal k (whole n))) (h tt) y p in
      record { under = rw e (VersusPart.toe c.0); over = rw e (VersusPart.toe c.1) }
  part_close k n y false h e (DecodesPart.power l g) = record { under = l; over = g }

-- the toe's denominator is above 0
divides : (c : Curve) (last g : ℕ) (t : List ℕ) → HasToe c last g t → (n : ℕ) → T (in_toe c (signal (record { curve = c; last = last }) (whole n)))
    → 0 < (toe_value c (signal (record { curve = c; last = last }) (whole n))).over
divides log_c4 last g t toe n h = absurd h
divides (log_c c) last g t toe n h = positive c.e last toe.divisor
  where
    positive : (e last : ℕ) → 0 < e * last → 0 < 1 * (last - 0) * 1000000 * (e - 0)
    positive e last h = rw (sub-zero, sub-zero) (omega arith)

-- for the tolerance of the rules, which is above a half
pub decodes_close : (s : Setting) → Valid s → (n : ℕ) (y : ℤ) → DecodesCode s n y → Close tolerance (scale_of s) (step_of s n) y
decodes_close s v n y d =
    part_close tolerance.plus tolerance.over above_half (scale_of s) (step_of s n) y (in_toe (curve_of s) (signal (scale_of s) (whole (step_of s n))))
    (divides (curve_of s) (last_of s) (gap_of s) (table_of s) (passed s v).toe (step_of s n)) refl d
