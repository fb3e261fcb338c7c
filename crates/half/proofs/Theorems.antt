-- 02, item 6: HALVES, for every half and every number.
-- Assumes nothing.
use Rattle.std.specs.Prelude.{Ok}
use mathlib.Core.Bool.{Bool, true, false}
use mathlib.Core.Logic.{◌⊎◌, inl, inr, ◌↔◌}
use mathlib.Core.Path.{◌≡◌, refl, sym, ap, ◌∙◌}
use Prim.Native.Nat.{ℕ, zero, suc, ◌+◌, ◌*◌, ◌^◌, ◌≤◌, ◌<◌}
use native.Mathlib.Nat.{pow-succ'}
use native.Mathlib.Omega.{arith}
use borrow.Author.Tests.{eq-eqb, ne_eqb, lt-ltb, ltb-true}
use lib.Dec.{ltb, ltb→lt}
use lib.IntN.{ℤ, pos, negsuc}
use Rattle.whole.specs.Parts.{minus}
use Rattle.whole.proofs.Tidy.{tidy}
use Rattle.rules.specs.declared.Refusal.TheVariants.{FloatNotFinite}
use Rattle.rules.specs.Choice.{choose}
use Rattle.rules.specs.Fraction.{Fraction, whole, integer, ◌-ℚ◌, ◌/ℚ◌, Versus}
use Rattle.rules.proofs.Settings.{passed_only}
use Rattle.rules.specs.Refusal.{number_of_check}
use Rattle.rules.specs.Half.{sign_of, exponent_of, fraction_of, ones, IsFinite, size_value, signed_value, half_value, size_units, signed_units, half_units, half_check, minus_zero, IsNearestHalf, with_plus_zero, half_end, half_of}
use Rattle.half.proofs.Digits.{end_reached}
use Rattle.half.proofs.Signs.{of_number_nearest}
use Rattle.half.proofs.Only.{one_nearest, own_half}

-- "Reading is exact": the units are the value of the three fields. The denominators of (1 + f / 2^10) * (b / 2^15) and (2^10 + f) * a / 2^24 are cleared,
-- where b is twice a
cleared : (a b f : ℕ) → b ≡ 2 * a → (1024 + f) * b * 16777216 ≡ (1024 + f) * a * 33554432
cleared a b f e = rw e (omega arith)

abbrev Exact : Fraction → ℤ → Type 0
Exact x v = Versus (λ m n. m ≡ n) x (integer v /ℚ whole (2 ^ 24))

size_exact : (e f : ℕ) → Exact (size_value e f) (pos (size_units e f))
size_exact zero f = omega arith
size_exact (suc e) f = simp tidy (cleared (2 ^ e) (2 ^ suc e) f (pow-succ' 2 e))

minus_exact : (x : Fraction) (n : ℕ) → Exact x (pos n) → Exact (whole 0 -ℚ x) (minus n)
minus_exact x zero h = simp tidy (omega (arith, simp tidy at h))
minus_exact x (suc n) h = simp tidy (omega (arith, simp tidy at h))

signed_exact : (s : ℕ) (x : Fraction) (n : ℕ) → Exact x (pos n) → Exact (signed_value s x) (signed_units s n)
signed_exact zero x n h = h
signed_exact (suc s) x n h = minus_exact x n h

pub reading_exact : (h : ℕ) → Versus (λ m n. m ≡ n) (half_value h) (integer (half_units h) /ℚ whole (2 ^ 24))
unfolding half_units
reading_exact h = signed_exact (sign_of h) (size_value (exponent_of h) (fraction_of h)) (size_units (exponent_of h) (fraction_of h)) (size_exact (exponent_of h) (fraction_of h))

-- "with both zeros giving 0"
pub both_zeros : (half_units 0 ≡ pos 0) × (half_units minus_zero ≡ pos 0)
unfolding half_units
both_zeros = (refl, refl)

-- a half passes exactly where it is finite
pub finite_passes : (h : ℕ) → h < 2 ^ 16 → (half_check h ≡ Ok tt) ↔ IsFinite h
finite_passes h b = (
  λ p. record { bits = b; exponent = ltb→lt (exponent_of h) ones (passed_only (ltb (exponent_of h) ones) FloatNotFinite p) },
  λ f. rw (lt-ltb (exponent_of h) ones f.exponent),
)

-- "it refuses infinities and NaN by 8": exactly these
pub eight_exactly : (h : ℕ) → h < 2 ^ 16 → (number_of_check (half_check h) ≡ 8) ↔ (IsFinite h → ⊥)
eight_exactly h b = (forth, back (ltb (exponent_of h) ones) refl)
  where
    forth : number_of_check (half_check h) ≡ 8 → IsFinite h → ⊥
    forth e f = let z : 0 ≡ number_of_check (half_check h) = rw (lt-ltb (exponent_of h) ones f.exponent) in omega arith

    back : (t : Bool) → ltb (exponent_of h) ones ≡ t → (IsFinite h → ⊥) → number_of_check (half_check h) ≡ 8
    back true e n = absurd (n (record { bits = b; exponent = ltb-true (exponent_of h) ones e }))
    back false e n = rw e

-- THE NEAREST HALF: "Writing takes each ACES number to the nearest finite half, a tie to the even fraction", of any number at all
pub half_nearest : (v : ℤ) → IsNearestHalf v (half_of v)
half_nearest = of_number_nearest

-- there is one
pub half_only : (v : ℤ) (h : ℕ) → IsNearestHalf v h → h ≡ half_of v
half_only v h n = one_nearest v h (half_of v) n (half_nearest v)

-- "so a number beyond plus or minus 65,504 gives that end"
pub beyond_plus : (m : ℕ) → half_end ≤ m → half_of (pos m) ≡ 0x7BFF
unfolding half_of
beyond_plus m h = end_reached m h

pub beyond_minus : (m : ℕ) → half_end ≤ suc m → half_of (negsuc m) ≡ 0xFBFF
unfolding half_of
beyond_minus m h = ap (λ (p : ℕ). 2 ^ 15 + p) (end_reached (suc m) h)

-- "Reading a finite half and writing it again returns its bits, save that minus zero becomes plus zero."
pub half_again : (h : ℕ) → IsFinite h → half_of (half_units h) ≡ with_plus_zero h
half_again h f = go (own_half h (half_of (half_units h)) f (half_nearest (half_units h)))
  where
    go : (half_of (half_units h) ≡ h) ⊎ ((half_of (half_units h) ≡ 0) × (h ≡ minus_zero)) → half_of (half_units h) ≡ with_plus_zero h
    go (inl e) = e ∙ ap (λ (t : Bool). choose t 0 h) (sym (ne_eqb h minus_zero (λ z. (half_nearest (half_units h)).plus_zero (e ∙ z))))
    go (inr (z, m)) = z ∙ ap (λ (t : Bool). choose t 0 h) (sym (eq-eqb h minus_zero m))
