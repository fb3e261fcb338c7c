-- From sizes to signed numbers: the units of a half by its sign, and the nearest size with its number's sign is the nearest half.
-- Assumes nothing.
use mathlib.Core.Path.{◌≡◌, refl, sym, ap, ◌∙◌, subst}
use mathlib.Core.Logic.{◌⊎◌, inl, inr}
use Prim.Native.Nat.{ℕ, zero, suc, ◌+◌, ◌/◌, ◌%◌, ◌^◌, ◌≤◌, ◌<◌}
use native.Mathlib.Nat.{le_trans, le_of_eq, mod-lt}
use native.Mathlib.Omega.{arith}
use lib.Dec.{lit<, lit≤}
use lib.IntN.{ℤ, pos, negsuc, nat_abs, ◌-ℤ◌}
use Rattle.whole.proofs.Apart.{apart, abs_apart, minus_is}
use Rattle.whole.proofs.Reflect.{at, sub}
use Rattle.rules.specs.Half.{sign_of, exponent_of, fraction_of, IsFinite, size_units, signed_units, half_units, minus_zero, half_distance, IsNearestHalf, half_size, half_of}
use Rattle.half.proofs.Sizes.{finites, size, small_size, size_below}
use Rattle.half.proofs.Nearest.{NearestSize}
use Rattle.half.proofs.Digits.{size_nearest}

-- ---- a half without its sign
abbrev pub unsigned : ℕ → ℕ
unsigned h = h % 2 ^ 15

pub finite_unsigned : (h : ℕ) → IsFinite h → unsigned h < finites
finite_unsigned h f = omega (arith, f.exponent)

pub unsigned_finite : (h : ℕ) → h < 2 ^ 16 → unsigned h < finites → IsFinite h
unsigned_finite h b l = record { bits = b; exponent = omega arith }

pub units_of : (h : ℕ) → half_units h ≡ signed_units (sign_of h) (size (unsigned h))
unfolding half_units size
units_of h =
    ap (λ (e : ℕ). signed_units (sign_of h) (size_units e (fraction_of h))) exponents ∙ ap (λ (f : ℕ). signed_units (sign_of h) (size_units (unsigned h / 2 ^ 10) f)) fractions
  where
    exponents : exponent_of h ≡ unsigned h / 2 ^ 10
    exponents = omega arith

    fractions : fraction_of h ≡ unsigned h % 2 ^ 10
    fractions = omega arith

-- none has as many units as 2^41
signed_size : (s n : ℕ) → nat_abs (signed_units s n) ≡ n
signed_size zero n = refl
signed_size (suc s) zero = refl
signed_size (suc s) (suc n) = refl

pub units_below : (h : ℕ) → nat_abs (half_units h) < 2 ^ 41
unfolding half_units
units_below h = rw (signed_size (sign_of h) (size_units (exponent_of h) (fraction_of h))) (size_below (exponent_of h) (fraction_of h) (mod-lt (h / 2 ^ 10) (lit< tt)) (mod-lt h (lit< tt)))

pub plus_units : (h : ℕ) → sign_of h ≡ 0 → half_units h ≡ pos (size (unsigned h))
plus_units h e = units_of h ∙ ap (λ (s : ℕ). signed_units s (size (unsigned h))) e

pub minus_units : (h : ℕ) → sign_of h ≡ 1 → half_units h ≡ pos 0 -ℤ pos (size (unsigned h))
minus_units h e = units_of h ∙ ap (λ (s : ℕ). signed_units s (size (unsigned h))) e ∙ minus_is (size (unsigned h))

pub either_sign : (h : ℕ) → h < 2 ^ 16 → (sign_of h ≡ 0) ⊎ (sign_of h ≡ 1)
either_sign h l = go (sign_of h) refl
  where
    go : (s : ℕ) → sign_of h ≡ s → (s ≡ 0) ⊎ (s ≡ 1)
    go zero e = inl refl
    go (suc zero) e = inr refl
    go (suc (suc s)) e = absurd (omega arith)

-- ---- v is m with a sign, S n is n with that sign, C n with the other; h is p with that sign
module _ (v : ℤ) (m p h : ℕ) (S C : ℕ → ℤ) (same_sign : (n : ℕ) → nat_abs (v -ℤ S n) ≡ apart m n) (other_sign : (n : ℕ) → nat_abs (v -ℤ C n) ≡ m + n) (zeros : S 0 ≡ C 0)
    (bits : h < 2 ^ 16) (without : unsigned h ≡ p) (units : half_units h ≡ S (size p))
    (signs : (g : ℕ) → g < 2 ^ 16 → (half_units g ≡ S (size (unsigned g))) ⊎ (half_units g ≡ C (size (unsigned g)))) (plus_zero : h ≡ minus_zero → ⊥)
    (n : NearestSize m p) where
  mine : half_distance v h ≡ apart m (size p)
  mine = ap (λ (x : ℤ). nat_abs (v -ℤ x)) units ∙ same_sign (size p)

  -- no farther than 0
  to_zero : apart m (size p) ≤ m
  to_zero = le_trans (n.near 0 (lit< tt)) (omega (arith, small_size 0 (lit≤ tt)))

  parity : p % 2 ≡ 0 → fraction_of h % 2 ≡ 0
  parity q = omega (arith, without)

  near_by : (g : ℕ) → unsigned g < finites → (half_units g ≡ S (size (unsigned g))) ⊎ (half_units g ≡ C (size (unsigned g))) → half_distance v h ≤ half_distance v g
  near_by g f (inl x) =
      le_trans (le_of_eq mine) (le_trans (n.near (unsigned g) f) (le_of_eq (sym (ap (λ (y : ℤ). nat_abs (v -ℤ y)) x ∙ same_sign (size (unsigned g))))))
  near_by g f (inr x) =
      let k : half_distance v g ≡ m + size (unsigned g) = ap (λ (y : ℤ). nat_abs (v -ℤ y)) x ∙ other_sign (size (unsigned g)) in omega (arith, mine, to_zero)

  even_by : (g : ℕ) → unsigned g < finites → (half_units g ≡ S (size (unsigned g))) ⊎ (half_units g ≡ C (size (unsigned g))) → half_distance v g ≡ half_distance v h
      → (half_units g ≡ half_units h) ⊎ (fraction_of h % 2 ≡ 0)
  even_by g f (inl x) d =
      elim (n.even (unsigned g) f (sym (same_sign (size (unsigned g))) ∙ sym (ap (λ (y : ℤ). nat_abs (v -ℤ y)) x) ∙ d ∙ mine)) [
        | inl q ↦ inl (x ∙ ap (λ (y : ℕ). S (size y)) q ∙ sym units)
        | inr q ↦ inr (parity q)
      ]
  even_by g f (inr x) d =
      let k : m + size (unsigned g) ≡ apart m (size p) = sym (other_sign (size (unsigned g))) ∙ sym (ap (λ (y : ℤ). nat_abs (v -ℤ y)) x) ∙ d ∙ mine in
      let o : size (unsigned g) ≡ 0 = omega (arith, to_zero) in
      elim (n.even 0 (lit< tt) (omega (arith, small_size 0 (lit≤ tt)))) [
        | inl q ↦ inl (x ∙ ap C o ∙ sym zeros ∙ ap S (sym (sym (ap size q) ∙ small_size 0 (lit≤ tt))) ∙ sym units)
        | inr q ↦ inr (parity q)
      ]

  nearest_by : IsNearestHalf v h
  nearest_by =
      record {
        finite = unsigned_finite h bits (subst (λ (x : ℕ). x < finites) (sym without) n.finite);
        near = λ g f. near_by g (finite_unsigned g f) (signs g f.bits);
        even = λ g f d. even_by g (finite_unsigned g f) (signs g f.bits) d;
        plus_zero = plus_zero;
      }

nearest_plus : (m p : ℕ) → NearestSize m p → IsNearestHalf (pos m) p
nearest_plus m p n =
    nearest_by (pos m) m p p (λ n. pos n) (λ n. pos 0 -ℤ pos n)
    (λ n. abs_apart (sub (at (pos m)) (at (pos n))) ∙ omega arith)
    (λ n. omega (arith, abs_apart (sub (at (pos m)) (sub (at (pos 0)) (at (pos n))))))
    refl (omega (arith, n.finite)) e (plus_units p (omega (arith, n.finite)) ∙ ap (λ (x : ℕ). pos (size x)) e)
    (λ g l. elim (either_sign g l) [ inl s ↦ inl (plus_units g s) | inr s ↦ inr (minus_units g s) ])
    (λ x. omega (arith, n.finite)) n
  where
    e : unsigned p ≡ p
    e = omega (arith, n.finite)

nearest_minus : (a p : ℕ) → NearestSize (suc a) p → IsNearestHalf (negsuc a) (2 ^ 15 + p)
nearest_minus a p n =
    nearest_by (negsuc a) (suc a) p (2 ^ 15 + p) (λ n. pos 0 -ℤ pos n) (λ n. pos n)
    (λ n. omega (arith, abs_apart (sub (at (negsuc a)) (sub (at (pos 0)) (at (pos n))))))
    (λ n. omega (arith, abs_apart (sub (at (negsuc a)) (at (pos n)))))
    refl (omega (arith, n.finite)) e (minus_units (2 ^ 15 + p) (omega (arith, n.finite)) ∙ ap (λ (x : ℕ). pos 0 -ℤ pos (size x)) e)
    (λ g l. elim (either_sign g l) [ inl s ↦ inr (plus_units g s) | inr s ↦ inl (minus_units g s) ])
    not_zero n
  where
    e : unsigned (2 ^ 15 + p) ≡ p
    e = omega (arith, n.finite)

    -- minus one unit is nearer than 0
    not_zero : 2 ^ 15 + p ≡ minus_zero → ⊥
    not_zero x =
        let o : p ≡ 0 = omega arith in
        let s : size p ≡ 0 = ap size o ∙ small_size 0 (lit≤ tt) in
        omega (arith, n.near 1 (lit< tt), small_size 1 (lit≤ tt))

pub of_number_nearest : (v : ℤ) → IsNearestHalf v (half_of v)
unfolding half_of
of_number_nearest (pos m) = nearest_plus m (half_size m) (size_nearest m)
of_number_nearest (negsuc m) = nearest_minus m (half_size (suc m)) (size_nearest (suc m))
