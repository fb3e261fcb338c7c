-- 02, item 6: "IEEE 754 binary16 numbers": the value of a half, reading, writing, and the nearest half.
-- A half is a number below 2^16, its bits: a sign (1 bit), an exponent (5 bits) and a fraction (10 bits), from the highest down.
-- Assumes nothing.
use Rattle.std.specs.Prelude.{◌⊎◌, ◌≡◌, ℕ, zero, suc, ◌+◌, ◌-◌, ◌*◌, ◌/◌, ◌%◌, ◌^◌, ◌≤◌, ◌<◌, min, ltb, eqb, ℤ, pos, negsuc, nat_abs, ◌-ℤ◌}
use Rattle.std.specs.Int.Count.{count_leading_zeros}
use Rattle.whole.specs.Parts.{minus}
use Rattle.rules.specs.Refusal.{Check, refuse_unless}
use Rattle.rules.specs.declared.Refusal.TheVariants.{FloatNotFinite}
use Rattle.rules.specs.Choice.{choose}
use Rattle.rules.specs.Fraction.{Fraction, ratio, whole, ◌+ℚ◌, ◌-ℚ◌, ◌*ℚ◌}

abbrev pub sign_of : ℕ → ℕ
sign_of h = h / 2 ^ 15

abbrev pub exponent_of : ℕ → ℕ
exponent_of h = h / 2 ^ 10 % 2 ^ 5

abbrev pub fraction_of : ℕ → ℕ
fraction_of h = h % 2 ^ 10

-- an infinity and what is not a number have an exponent of five ones
abbrev pub ones : ℕ
ones = 31

pub record IsFinite (h : ℕ) : Type 0 where
  pub bits : h < 2 ^ 16
  pub exponent : exponent_of h < ones

-- ---- the value of a finite half: (1 + fraction / 2^10) * 2^(exponent - 15), and fraction / 2^10 * 2^-14 where the exponent is 0
abbrev pub size_value : (exponent fraction : ℕ) → Fraction
size_value zero fraction = ratio fraction (2 ^ 10) *ℚ ratio 1 (2 ^ 14)
size_value (suc x) fraction = (whole 1 +ℚ ratio fraction (2 ^ 10)) *ℚ ratio (2 ^ suc x) (2 ^ 15)

abbrev pub signed_value : (sign : ℕ) → Fraction → Fraction
signed_value zero x = x
signed_value (suc s) x = whole 0 -ℚ x

abbrev pub half_value : ℕ → Fraction
half_value h = signed_value (sign_of h) (size_value (exponent_of h) (fraction_of h))

-- ---- reading: "exact, since every finite half is a whole number of units, with both zeros giving 0". (Of a half that is not finite it is what
-- the fields would count; that is never written.)
abbrev pub size_units : (exponent fraction : ℕ) → ℕ
size_units zero fraction = fraction
size_units (suc x) fraction = (2 ^ 10 + fraction) * 2 ^ x

abbrev pub signed_units : (sign size : ℕ) → ℤ
signed_units zero n = pos n
signed_units (suc s) n = minus n

unfoldable pub half_units : ℕ → ℤ
half_units h = signed_units (sign_of h) (size_units (exponent_of h) (fraction_of h))

-- "it refuses infinities and NaN by 8"
abbrev pub half_check : ℕ → Check
half_check h = refuse_unless (ltb (exponent_of h) ones) FloatNotFinite

-- ---- the nearest half
abbrev pub minus_zero : ℕ
minus_zero = 2 ^ 15

-- how far a half is from a number, in units
abbrev pub half_distance : ℤ → ℕ → ℕ
half_distance v h = nat_abs (v -ℤ half_units h)

-- "Writing takes each ACES number to the nearest finite half, a tie to the even fraction": h is finite, no finite half is nearer, and where
-- another number is equally near, the fraction of h is even. Zero is written as plus zero.
pub record IsNearestHalf (v : ℤ) (h : ℕ) : Type 0 where
  pub finite : IsFinite h
  pub near : (g : ℕ) → IsFinite g → half_distance v h ≤ half_distance v g
  pub even : (g : ℕ) → IsFinite g → half_distance v g ≡ half_distance v h → (half_units g ≡ half_units h) ⊎ (fraction_of h % 2 ≡ 0)
  pub plus_zero : h ≡ minus_zero → ⊥

-- "Reading a finite half and writing it again returns its bits, save that minus zero becomes plus zero."
abbrev pub with_plus_zero : ℕ → ℕ
with_plus_zero h = choose (eqb h minus_zero) 0 h

-- ---- the same as an equation. (That `half_of v` is nearest, and that nothing else is, are theorems: `half_nearest`, `half_only`.)

-- "a number beyond plus or minus 65,504 gives that end"
abbrev pub half_end : ℕ
half_end = 65504 * 2 ^ 24

-- how many binary digits of n are behind its first eleven. "before any carry in rounding the exponent follows from the position of its
-- highest one bit": the exponent is one more, where there is a digit before the fraction
abbrev pub behind_eleven : ℕ → ℕ
behind_eleven n = 64 - 11 - count_leading_zeros 64 n

-- n / 2^k to the nearest whole number, a tie to the even one: 2^k - 1 is added to twice n, with which a tie goes down; where the digits that
-- are kept are odd one more is added, with which it goes up
abbrev pub to_even : (n k : ℕ) → ℕ
to_even n k = (2 * n + (2 ^ k - 1) + n / 2 ^ k % 2) / (2 * 2 ^ k)

-- a half without its sign: the exponent, then the digits behind the first. The first digit adds one to the exponent, and so does a carry.
abbrev pub joined : (k digits : ℕ) → ℕ
joined k digits = k * 2 ^ 10 + digits

abbrev pub rounded_size : ℕ → ℕ
rounded_size n = joined (behind_eleven n) (to_even n (behind_eleven n))

abbrev pub half_size : ℕ → ℕ
half_size m = rounded_size (min m half_end)

unfoldable pub half_of : ℤ → ℕ
half_of (pos m) = half_size m
half_of (negsuc m) = 2 ^ 15 + half_size (suc m)
