-- A float is known by its value: two f64 with one sign and one size are one, so what the rules say of the float of a scene number leaves one f64.
-- Assumes nothing.
use mathlib.Core.Bool.{Bool, true, false, cond}
use mathlib.Core.Path.{◌≡◌, refl, sym, ap, ◌∙◌, subst}
use Prim.Native.Nat.{ℕ, zero, suc, ◌+◌, ◌-◌, ◌*◌, ◌/◌, ◌^◌, ◌≤◌, ◌<◌}
use native.Mathlib.Nat.{eq_of_mul-eq-mul_right, mul-pos, zero-lt-suc}
use native.Mathlib.Omega.{arith}
use lib.Dec.{T, lit<}
use lib.IntN.{ℤ, pos, negsuc, nat_abs}
use lib.Ieee.{Float, nan, inf, fin, up, down, size, binary64, fits, of_bits, to_bits}
use lib.Ieee.Fits.{down_pos, round-fits}
use lib.Ieee.Exact.{HasValue}
use lib.Ieee.Bits.{of_bits-to_bits}
use lib.Ieee.Nearest.{div_same}
use Rattle.rules.specs.Fraction.{integer, whole, ◌/ℚ◌, Versus}
use Rattle.rules.specs.Float.{finite, value_of, IsFloat, negative, float_of}
use Rattle.float_unit.proofs.Scaled.{float_exact, float_value}

-- the bits go by the sign and by the size in units of 2^-1074
bits_of : Bool → ℕ → ℕ
bits_of s n = cond s 9223372036854775808 0 + (size n - 53) * 4503599627370496 + n / 2 ^ (size n - 53)

bits_are : (s : Bool) (m : ℕ) (e : ℤ) → to_bits binary64 (fin s m e) ≡ bits_of s (m * up e * 2 ^ 1074 / down e)
unfolding to_bits bits_of
bits_are s m e = refl

cross : (a b c d p n k : ℕ) → 0 < k → a * k ≡ n * b → c * k ≡ n * d → a * p * d ≡ c * p * b
cross a b c d p n k h e f =
    eq_of_mul-eq-mul_right k h (a * p * d) (c * p * b) (omega (arith, ap (λ (i : ℕ). i * (p * d)) e, ap (λ (i : ℕ). i * (p * b)) f))

same_bits : (x y : Float) (s : Bool) (n k : ℕ) → 0 < k → HasValue x s n k → HasValue y s n k → to_bits binary64 x ≡ to_bits binary64 y
same_bits nan y s n k h v w = elim v [ ]
same_bits (inf t) y s n k h v w = elim v [ ]
same_bits (fin t m e) nan s n k h v w = elim w [ ]
same_bits (fin t m e) (inf u) s n k h v w = elim w [ ]
same_bits (fin t m e) (fin u l g) s n k h v w =
    bits_are t m e
    ∙ ap (λ (b : Bool). bits_of b (m * up e * 2 ^ 1074 / down e)) (v.0 ∙ sym w.0)
    ∙ ap (bits_of u) (div_same (m * up e * 2 ^ 1074) (down e) (l * up g * 2 ^ 1074) (down g) (down_pos e) (down_pos g) (cross (m * up e) (down e) (l * up g) (down g) (2 ^ 1074) n k h v.1 w.1))
    ∙ sym (bits_are u l g)

one_value : (x y : Float) (s : Bool) (n k : ℕ) → 0 < k → T (fits binary64 x) → T (fits binary64 y) → HasValue x s n k → HasValue y s n k → x ≡ y
one_value x y s n k h f g v w = sym (of_bits-to_bits binary64 x f) ∙ ap (of_bits binary64) (same_bits x y s n k h v w) ∙ of_bits-to_bits binary64 y g

-- ---- of the float of a scene number that is not 0: the value gives the sign
has_value : (v : ℤ) (x : Float) → 0 < nat_abs v → finite x ≡ true → Versus (λ m n. m ≡ n) (value_of x) (integer v /ℚ whole 16777216) → HasValue x (negative v) (nat_abs v) 16777216
unfolding value_of
has_value v nan p f e = absurd (subst T (sym f) tt)
has_value v (inf s) p f e = absurd (subst T (sym f) tt)
has_value (pos n) (fin false m d) p f e = (refl, omega (arith, e))
has_value (pos n) (fin true m d) p f e = absurd (omega (arith, e, mul-pos p (down_pos d)))
has_value (negsuc n) (fin true m d) p f e = (refl, omega (arith, e))
has_value (negsuc n) (fin false m d) p f e = absurd (omega (arith, e, mul-pos p (down_pos d)))

not_zero : (v : ℤ) → nat_abs v ≤ 2 ^ 40 → 0 < nat_abs v → (x : Float) → T (fits binary64 x) → IsFloat v x → x ≡ float_of v
unfolding float_of
not_zero v h p x f i =
    one_value x (float_of v) (negative v) (nat_abs v) 16777216 (lit< tt) f (round-fits binary64 (negative v) (nat_abs v) 16777216) (has_value v x p i.is_finite i.exact) (float_value v h)

-- THE ONLY f64 that is a scene number exactly
pub float_only : (v : ℤ) → nat_abs v ≤ 2 ^ 40 → (x : Float) → T (fits binary64 x) → IsFloat v x → x ≡ float_of v
float_only (pos zero) h x f i = i.plus_zero refl ∙ sym ((float_exact (pos zero) h).plus_zero refl)
float_only (pos (suc n)) h x f i = not_zero (pos (suc n)) h (zero-lt-suc n) x f i
float_only (negsuc n) h x f i = not_zero (negsuc n) h (zero-lt-suc n) x f i
