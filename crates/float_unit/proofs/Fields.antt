-- A float by its sign, exponent and fraction bits: its value, and how it is read.
-- Assumes nothing.
use Rattle.std.specs.Prelude.{Err, Ok}
use mathlib.Core.Bool.{Bool, true, false, cond}
use mathlib.Core.Path.{◌≡◌, refl, sym, ap, ◌∙◌, subst}
use Prim.Native.Nat.{ℕ, zero, suc, ◌+◌, ◌-◌, ◌*◌, ◌/◌, ◌%◌, ◌^◌, ◌≤◌, ◌<◌}
use native.Mathlib.Nat.{add_comm, mul-one, mul-pos, mul-le-mul, mul-le-mul_right, lt_of_lt_of_le, lt_of_le_of_lt}
use native.Mathlib.Omega.{arith}
use lib.Dec.{T, eqb, eqb→eq, leb, leb→le, le→leb, not_T, lit<}
use lib.Bits.{bit_and, and_mask}
use lib.IntN.{pos}
use lib.Pow.{pow-add, pow_pos, pow_mono, field}
use lib.Ieee.{Float, nan, inf, fin, up, down, binary64, fits, of_bits, of_fields, to_bits, odd, is_nan}
use lib.Ieee.Fits.{eq→eqb}
use lib.Ieee.Exact.{HasValue, odd_sign}
use lib.Ieee.Bits.{cond_no, of_bits-to_bits, to_bits-lt}
use Rattle.rules.specs.declared.Refusal.TheVariants.{FloatNotFinite, FloatOutOfRange}
use Rattle.rules.specs.Fraction.{Versus}
use Rattle.rules.specs.Float.{signed, value_of, value_of_bits, float_check}
use Rattle.float_unit.specs.Reading.{read_answer}
use Rattle.float_unit.proofs.Fractions.{read_at, read_at_lem, read_same, same_test, read_outside, read_small}

-- ---- the value
normal : (s : Bool) (x t : ℕ) → suc x < 2047 → HasValue (of_fields binary64 s (suc x) t) s ((2 ^ 52 + t) * 2 ^ x) (2 ^ 1074)
unfolding of_fields
normal s x t h =
    subst (λ (y : Float). HasValue y s ((2 ^ 52 + t) * 2 ^ x) (2 ^ 1074)) (sym e) (odd_sign 53 s (2 ^ 52 + t) x 1074)
  where
    differ : suc x ≡ 2047 → ⊥
    differ e = omega arith

    e : of_fields binary64 s (suc x) t ≡ odd 53 s (2 ^ 52 + t) x 1074
    e = cond_no (eqb (suc x) 2047) (cond (eqb t 0) (inf s) nan) (odd 53 s (2 ^ 52 + t) x 1074) (not_T (eqb (suc x) 2047) (λ e. differ (eqb→eq (suc x) 2047 e)))

subnormal : (s : Bool) (t : ℕ) → HasValue (of_fields binary64 s 0 t) s t (2 ^ 1074)
unfolding of_fields
subnormal s t = subst (λ (n : ℕ). HasValue (odd 53 s t 0 1074) s n (2 ^ 1074)) (mul-one t) (odd_sign 53 s t 0 1074)

-- "a float is read from its sign, exponent and fraction bits": in the words of the rules
value_is : (x : Float) (s : Bool) (n d : ℕ) → HasValue x s n d → Versus (λ m n. m ≡ n) (value_of x) (signed s n d)
unfolding value_of
value_is nan s n d h = elim h [ ]
value_is (inf t) s n d h = elim h [ ]
value_is (fin t m e) s n d h = subst (λ (b : Bool). Versus (λ m n. m ≡ n) (signed b (m * up e) (down e)) (signed s n d)) (sym h.0) (cross s (m * up e) (down e) h.1)
  where
    cross : (s : Bool) (a c : ℕ) → a * d ≡ n * c → Versus (λ m n. m ≡ n) (signed s a c) (signed s n d)
    cross false a c h = omega arith
    cross true a c h = omega arith

pub value_of_bits_lem : (s : Bool) (x t : ℕ) → x < 2047 → Versus (λ m n. m ≡ n) (value_of (of_fields binary64 s x t)) (value_of_bits s x t)
value_of_bits_lem s zero t h = value_is (of_fields binary64 s zero t) s t (2 ^ 1074) (subnormal s t)
value_of_bits_lem s (suc x) t h = value_is (of_fields binary64 s (suc x) t) s ((2 ^ 52 + t) * 2 ^ x) (2 ^ 1074) (normal s x t h)

-- ---- the readings
read_normal : (s : Bool) (x t : ℕ) → suc x < 2047 → read_answer (of_fields binary64 s (suc x) t) ≡ read_at s ((2 ^ 52 + t) * 2 ^ x) (2 ^ 1074)
read_normal s x t h = read_at_lem (of_fields binary64 s (suc x) t) s ((2 ^ 52 + t) * 2 ^ x) (2 ^ 1074) (pow_pos 1074) (normal s x t h)

not_finite : (s b : Bool) → read_answer (cond b (inf s) nan) ≡ Err FloatNotFinite
unfolding read_answer float_check
not_finite s true = refl
not_finite s false = refl

-- the exponent bits are all ones: infinite or not a number
pub read_ones : (s : Bool) (x t : ℕ) → x ≡ 2047 → read_answer (of_fields binary64 s x t) ≡ Err FloatNotFinite
unfolding of_fields
read_ones s x t e = ap (λ (y : ℕ). read_answer (of_fields binary64 s y t)) e ∙ not_finite s (eqb t 0)

-- below 2^-26: less than half a unit
pub read_low : (s : Bool) (x t : ℕ) → x < 997 → t < 2 ^ 52 → read_answer (of_fields binary64 s x t) ≡ Ok (record { 0 = pos 0 })
read_low s zero t h l =
    let d : t ≤ 4503599627370496 = omega arith in
    read_at_lem (of_fields binary64 s zero t) s t (2 ^ 1074) (pow_pos 1074) (subnormal s t)
    ∙ read_small s t (2 ^ 1074) (lt_of_le_of_lt (mul-le-mul_right 33554432 d) (lit< tt))
read_low s (suc x) t h l =
    let d : 2 ^ 52 + t ≤ 9007199254740992 = omega arith in
    let k : suc x < 2047 = omega arith in
    let p : 2 ^ x ≤ 2 ^ 995 = pow_mono {i = x} {j = 995} (omega arith) in
    read_normal s x t k
    ∙ read_small s ((2 ^ 52 + t) * 2 ^ x) (2 ^ 1074) (lt_of_le_of_lt (mul-le-mul_right 33554432 (mul-le-mul d p)) (lit< tt))

-- 2^17 and above
pub read_high : (s : Bool) (x t : ℕ) → 1039 < x → x < 2047 → read_answer (of_fields binary64 s x t) ≡ Err FloatOutOfRange
read_high s zero t h l = absurd (omega arith)
read_high s (suc x) t h l =
    let d : 2 ^ 52 ≤ 2 ^ 52 + t = omega arith in
    let p : 2 ^ 1039 ≤ 2 ^ x = pow_mono {i = 1039} {j = x} (omega arith) in
    read_normal s x t l
    ∙ read_outside s ((2 ^ 52 + t) * 2 ^ x) (2 ^ 1074) (lt_of_lt_of_le (lit< tt) (mul-le-mul d p))

-- above 2^16
pub read_edge : (s : Bool) (x t : ℕ) → x ≡ 1039 → 0 < t → read_answer (of_fields binary64 s x t) ≡ Err FloatOutOfRange
read_edge s x t e h =
    let d : 4503599627370497 ≤ 2 ^ 52 + t = omega arith in
    ap (λ (y : ℕ). read_answer (of_fields binary64 s y t)) e
    ∙ read_normal s 1038 t (lit< tt)
    ∙ read_outside s ((2 ^ 52 + t) * 2 ^ 1038) (2 ^ 1074) (lt_of_lt_of_le (lit< tt) (mul-le-mul_right (2 ^ 1038) d))

-- the others are their digits over a power of two, in units
scaled : (n p q k m : ℕ) → p * q ≡ k → k * 33554432 ≡ m → n * p * (16777216 * (2 * q)) ≡ n * m
scaled n p q k m e f = omega (arith, ap (λ (j : ℕ). n * j) e, ap (λ (j : ℕ). n * j) f)

pub read_mid : (s : Bool) (x t : ℕ) → 997 ≤ x → x ≤ 1039 → read_answer (of_fields binary64 s x t) ≡ read_at s (t + 2 ^ 52) (16777216 * (2 * 2 ^ (1050 - x)))
read_mid s zero t h l = absurd (omega arith)
read_mid s (suc x) t h l =
    let q : 1050 - suc x ≡ 1049 - x = omega arith in
    let j : x + (1049 - x) ≡ 1049 = omega arith in
    let k : suc x < 2047 = omega arith in
    read_normal s x t k
    ∙ read_same s ((2 ^ 52 + t) * 2 ^ x) (2 ^ 1074) (2 ^ 52 + t) (16777216 * (2 * 2 ^ (1049 - x))) (pow_pos 1074) (mul-pos (lit< tt) (mul-pos (lit< tt) (pow_pos (1049 - x))))
    (scaled (2 ^ 52 + t) (2 ^ x) (2 ^ (1049 - x)) (2 ^ 1049) (2 ^ 1074) (sym (pow-add 2 x (1049 - x)) ∙ ap (λ (n : ℕ). 2 ^ n) j) refl)
    ∙ ap (λ (n : ℕ). read_at s n (16777216 * (2 * 2 ^ (1049 - x)))) (add_comm (2 ^ 52) t)
    ∙ ap (λ (n : ℕ). read_at s (t + 2 ^ 52) (16777216 * (2 * 2 ^ n))) (sym q)

-- ---- the sign bit
pub no_sign : (s x t : ℕ) → s ≡ 0 → read_answer (of_fields binary64 (eqb s 1) x t) ≡ read_answer (of_fields binary64 false x t)
no_sign s x t e = ap (λ (n : ℕ). read_answer (of_fields binary64 (eqb n 1) x t)) e

pub a_sign : (s x t : ℕ) → s ≡ 1 → read_answer (of_fields binary64 (eqb s 1) x t) ≡ read_answer (of_fields binary64 true x t)
a_sign s x t e = ap (λ (n : ℕ). read_answer (of_fields binary64 (eqb n 1) x t)) e

-- ---- a float is its three parts
pub read_nan : (x : Float) → is_nan x ≡ true → read_answer x ≡ Err FloatNotFinite
unfolding read_answer float_check is_nan
read_nan nan e = refl
read_nan (inf s) e = absurd (subst T (sym e) tt)
read_nan (fin s m d) e = absurd (subst T (sym e) tt)

pub bits_lt : (x : Float) → T (fits binary64 x) → to_bits binary64 x < 18446744073709551616
bits_lt x f = to_bits-lt binary64 x f

sign_is : (b : ℕ) → b < 18446744073709551616 → eqb (b / 9223372036854775808) 1 ≡ leb 9223372036854775808 b
sign_is b h =
    same_test (eqb (b / 9223372036854775808) 1) (leb 9223372036854775808 b)
    (λ t. le→leb 9223372036854775808 b (above (eqb→eq (b / 9223372036854775808) 1 t)))
    (λ t. eq→eqb (one (leb→le 9223372036854775808 b t)))
  where
    above : b / 9223372036854775808 ≡ 1 → 9223372036854775808 ≤ b
    above e = omega arith

    one : 9223372036854775808 ≤ b → b / 9223372036854775808 ≡ 1
    one l = omega arith

pub by_parts : (x : Float) → T (fits binary64 x)
    → of_fields binary64 (eqb (to_bits binary64 x / 9223372036854775808) 1) (bit_and (to_bits binary64 x / 4503599627370496) 2047) (bit_and (to_bits binary64 x) 4503599627370495) ≡ x
unfolding of_bits
by_parts x f =
    let b = to_bits binary64 x in
    ap (λ (s : Bool). of_fields binary64 s (bit_and (b / 4503599627370496) 2047) (bit_and b 4503599627370495)) (sign_is b (bits_lt x f))
    ∙ ap (λ (n : ℕ). of_fields binary64 (leb 9223372036854775808 b) n (bit_and b 4503599627370495)) (and_mask (b / 4503599627370496) 11 ∙ sym (field b 11 52))
    ∙ ap (λ (n : ℕ). of_fields binary64 (leb 9223372036854775808 b) (b % 9223372036854775808 / 4503599627370496) n) (and_mask b 52)
    ∙ of_bits-to_bits binary64 x f
