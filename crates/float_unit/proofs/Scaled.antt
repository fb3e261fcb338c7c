-- The f64 of a scene number is exact: the cast loses nothing, and neither does the quotient by 2^24.
-- Assumes nothing.
use mathlib.Core.Bool.{Bool, true, false}
use mathlib.Core.Path.{◌≡◌, refl, sym, ap, ◌∙◌, subst}
use Prim.Native.Nat.{ℕ, suc, ◌*◌, ◌^◌, ◌≤◌, ◌<◌}
use native.Mathlib.Nat.{mul_assoc, mul-pos, lt_of_lt_of_le}
use native.Mathlib.Omega.{arith}
use lib.Dec.{T, le→leb, lt→ltb, lit<, lit≤}
use lib.IntN.{ℤ, pos, negsuc, nat_abs}
use lib.Pow.{shl_lt}
use lib.Ieee.{Float, nan, inf, fin, binary64, up, down, round, div, of_int, in_float}
use lib.Ieee.Fits.{down_pos}
use lib.Ieee.Exact.{HasValue, round_exact}
use lib.Ieee.Back.{round_whole}
use lib.Ieee.Scale.{round_same}
use Rattle.rules.specs.Fraction.{integer, whole, ◌/ℚ◌, Versus}
use Rattle.rules.specs.Float.{finite, value_of, IsFloat, negative, float_of}

-- ---- the size and the sign of the float of a scene number
pub float_value : (v : ℤ) → nat_abs v ≤ 2 ^ 40 → HasValue (float_of v) (negative v) (nat_abs v) 16777216
unfolding float_of
float_value v h =
    let small : nat_abs v < 2 ^ 53 = omega arith in
    round_exact binary64 (negative v) (nat_abs v) 16777216 (nat_abs v) 1050 (lit< tt) small (lt_of_lt_of_le (shl_lt 53 1050 small) (lit≤ tt)) (sym (mul_assoc (nat_abs v) (2 ^ 1050) 16777216))

-- ---- the quotient of the cast number by 2^24 is that float
cast_value : (v : ℤ) → nat_abs v ≤ 2 ^ 53 → HasValue (of_int binary64 v) (negative v) (nat_abs v) 1
unfolding of_int
cast_value (pos n) h = round_whole binary64 false n h
cast_value (negsuc n) h = round_whole binary64 true (suc n) h

divided : (x : Float) (s : Bool) (n : ℕ) → HasValue x s n 1 → div binary64 x (fin false 1 (pos 24)) ≡ round binary64 s n 16777216
unfolding div
divided nan s n v = elim v [ ]
divided (inf t) s n v = elim v [ ]
divided (fin true m e) s n v =
    round_same binary64 true (m * up e * 1) (16777216 * down e) n 16777216 (mul-pos (lit< tt) (down_pos e)) (lit< tt) (omega (arith, v.1))
    ∙ ap (λ (t : Bool). round binary64 t n 16777216) v.0
divided (fin false m e) s n v =
    round_same binary64 false (m * up e * 1) (16777216 * down e) n 16777216 (mul-pos (lit< tt) (down_pos e)) (lit< tt) (omega (arith, v.1))
    ∙ ap (λ (t : Bool). round binary64 t n 16777216) v.0

pub quotient_is : (v : ℤ) → nat_abs v ≤ 2 ^ 40 → div binary64 (of_int binary64 v) (fin false 1 (pos 24)) ≡ float_of v
unfolding float_of
quotient_is v h = divided (of_int binary64 v) (negative v) (nat_abs v) (cast_value v (omega arith))

-- what the cast asks
pub cast_exact : (v : ℤ) → nat_abs v ≤ 2 ^ 40 → T (in_float binary64 v)
unfolding in_float
cast_exact (pos n) h = le→leb n (2 ^ 53) (omega arith)
cast_exact (negsuc n) h = lt→ltb n (2 ^ 53) (omega arith)

-- ---- in the words of the rules
signs_differ : {A : Type 0} → true ≡ false → A
signs_differ e = absurd (subst T e tt)

finite_is : (x : Float) (s : Bool) (n d : ℕ) → HasValue x s n d → finite x ≡ true
finite_is nan t n d h = elim h [ ]
finite_is (inf s) t n d h = elim h [ ]
finite_is (fin s m e) t n d h = refl

exact_is : (x : Float) (v : ℤ) → HasValue x (negative v) (nat_abs v) 16777216 → Versus (λ m n. m ≡ n) (value_of x) (integer v /ℚ whole 16777216)
unfolding value_of
exact_is nan v h = elim h [ ]
exact_is (inf s) v h = elim h [ ]
exact_is (fin false m e) (pos n) h = omega (arith, h.1)
exact_is (fin true m e) (pos n) h = signs_differ h.0
exact_is (fin false m e) (negsuc n) h = signs_differ (sym h.0)
exact_is (fin true m e) (negsuc n) h = omega (arith, h.1)

zero_is : float_of (pos 0) ≡ fin false 0 (pos 0)
unfolding float_of round
zero_is = refl

-- EXACTNESS
pub float_exact : (v : ℤ) → nat_abs v ≤ 2 ^ 40 → IsFloat v (float_of v)
float_exact v h =
    let f = float_value v h in
    record { is_finite = finite_is (float_of v) (negative v) (nat_abs v) 16777216 f; exact = exact_is (float_of v) v f; plus_zero = λ e. ap float_of e ∙ zero_is }
