-- A number has one nearest half; and two halves have the same units only where they are one, or the two zeros.
-- Assumes nothing.
use mathlib.Core.Path.{◌≡◌, refl, sym, ap, ◌∙◌}
use mathlib.Core.Logic.{◌⊎◌, inl, inr}
use Prim.Native.Nat.{ℕ, suc, ◌+◌, ◌%◌, ◌^◌, ◌≤◌, ◌<◌}
use native.Mathlib.Nat.{le_antisymm}
use native.Mathlib.Omega.{arith}
use lib.Dec.{lit<, lit≤}
use lib.IntN.{ℤ, pos, nat_abs, ◌-ℤ◌}
use Rattle.whole.proofs.Apart.{three_ways, abs_apart, not_apart, from_itself}
use Rattle.whole.proofs.Reflect.{Ex, val, hi, lo, at, sub, eq_n}
use Rattle.rules.specs.Half.{sign_of, fraction_of, IsFinite, half_units, minus_zero, half_distance, IsNearestHalf}
use Rattle.half.proofs.Sizes.{size, size_lt, size_only, small_size}
use Rattle.half.proofs.Signs.{unsigned, finite_unsigned, unsigned_finite, plus_units, minus_units, either_sign}

-- ---- the same units
zero_size : (p : ℕ) → size p ≡ 0 → p ≡ 0
zero_size p e = size_only p 0 (e ∙ sym (small_size 0 (lit≤ tt)))

pub same_units : (g h : ℕ) → g < 2 ^ 16 → h < 2 ^ 16 → half_units g ≡ half_units h → (g ≡ h) ⊎ ((unsigned g ≡ 0) × (unsigned h ≡ 0))
same_units g h a b e = go (either_sign g a) (either_sign h b)
  where
    one : sign_of g ≡ sign_of h → size (unsigned g) ≡ size (unsigned h) → g ≡ h
    one s x = let y : unsigned g ≡ unsigned h = size_only (unsigned g) (unsigned h) x in omega arith

    go : (sign_of g ≡ 0) ⊎ (sign_of g ≡ 1) → (sign_of h ≡ 0) ⊎ (sign_of h ≡ 1) → (g ≡ h) ⊎ ((unsigned g ≡ 0) × (unsigned h ≡ 0))
    go (inl s) (inl t) =
        inl (one (s ∙ sym t) (omega (arith, eq_n (at (pos (size (unsigned g)))) (at (pos (size (unsigned h)))) (sym (plus_units g s) ∙ e ∙ plus_units h t))))
    go (inr s) (inr t) =
        inl (one (s ∙ sym t) (omega (arith, eq_n (sub (at (pos 0)) (at (pos (size (unsigned g))))) (sub (at (pos 0)) (at (pos (size (unsigned h))))) (sym (minus_units g s) ∙ e ∙ minus_units h t))))
    go (inl s) (inr t) =
        let x = eq_n (at (pos (size (unsigned g)))) (sub (at (pos 0)) (at (pos (size (unsigned h))))) (sym (plus_units g s) ∙ e ∙ minus_units h t) in
        inr (zero_size (unsigned g) (omega (arith, x)), zero_size (unsigned h) (omega (arith, x)))
    go (inr s) (inl t) =
        let x = eq_n (sub (at (pos 0)) (at (pos (size (unsigned g))))) (at (pos (size (unsigned h)))) (sym (minus_units g s) ∙ e ∙ plus_units h t) in
        inr (zero_size (unsigned g) (omega (arith, x)), zero_size (unsigned h) (omega (arith, x)))

-- ---- one nearest half
-- y is between a and b
abbrev Between : Ex → Ex → Ex → Type 0
Between a y b = (hi a + lo y < hi y + lo a) × (hi y + lo b < hi b + lo y)

module _ (v : ℤ) where
  -- of two halves that are equally far from v, a half whose units are between theirs is nearer
  between : (r s x : ℕ) (a b y : Ex) → half_units r ≡ val a → half_units s ≡ val b → half_units x ≡ val y
      → half_distance v r ≡ half_distance v s → half_distance v r ≤ half_distance v x → Between a y b ⊎ Between b y a → ⊥
  between r s x a b y p q w d l m = go m
    where
      go : Between a y b ⊎ Between b y a → ⊥
      go (inl k) =
          omega
          (arith, k.0, k.1, ap (λ (z : ℤ). nat_abs (v -ℤ z)) p, ap (λ (z : ℤ). nat_abs (v -ℤ z)) q, ap (λ (z : ℤ). nat_abs (v -ℤ z)) w, abs_apart (sub (at v) a), abs_apart (sub (at v) b), abs_apart (sub (at v) y))
      go (inr k) =
          omega
          (arith, k.0, k.1, ap (λ (z : ℤ). nat_abs (v -ℤ z)) p, ap (λ (z : ℤ). nat_abs (v -ℤ z)) q, ap (λ (z : ℤ). nat_abs (v -ℤ z)) w, abs_apart (sub (at v) a), abs_apart (sub (at v) b), abs_apart (sub (at v) y))

  -- two nearest halves with even fractions, as far from v
  pub record TwoEven (r s : ℕ) : Type 0 where
    pub first : IsNearestHalf v r
    pub second : IsNearestHalf v s
    pub as_far : half_distance v r ≡ half_distance v s
    pub first_even : fraction_of r % 2 ≡ 0
    pub second_even : fraction_of s % 2 ≡ 0

  swap : (r s : ℕ) → TwoEven r s → TwoEven s r
  swap r s t = record { first = t.second; second = t.first; as_far = sym t.as_far; first_even = t.second_even; second_even = t.first_even }

  -- the half after the first is finite, and before the second
  next_finite : (r s : ℕ) → TwoEven r s → sign_of r ≡ sign_of s → r < s → IsFinite (suc r) × (suc r < s)
  next_finite r s t e l =
      let a = t.first.finite.bits in
      let b = t.second.finite.bits in
      let c = t.first_even in
      let d = t.second_even in
      let f = finite_unsigned s t.second.finite in
      (unsigned_finite (suc r) (omega arith) (omega arith), omega arith)

  -- with one sign it lies between: S n is n with that sign
  one_sign : (sign : ℕ) (S : ℕ → Ex) → ((g : ℕ) → sign_of g ≡ sign → half_units g ≡ val (S (size (unsigned g))))
      → ((k m n : ℕ) → k < m → m < n → Between (S k) (S m) (S n) ⊎ Between (S n) (S m) (S k))
      → (r s : ℕ) → TwoEven r s → sign_of r ≡ sign → sign_of s ≡ sign → r < s → ⊥
  one_sign sign S units order r s t p q l =
      let n = next_finite r s t (p ∙ sym q) l in
      let k = n.1 in
      let z : sign_of (suc r) ≡ sign = omega arith in
      between r s (suc r) (S (size (unsigned r))) (S (size (unsigned s))) (S (size (unsigned (suc r)))) (units r p) (units s q) (units (suc r) z) t.as_far
      (t.first.near (suc r) n.0)
      (order (size (unsigned r)) (size (unsigned (suc r))) (size (unsigned s))
      (size_lt (unsigned r) (unsigned (suc r)) (omega arith))
      (size_lt (unsigned (suc r)) (unsigned s) (omega arith)))

  both_plus : (r s : ℕ) → TwoEven r s → sign_of r ≡ 0 → sign_of s ≡ 0 → r < s → ⊥
  both_plus = one_sign 0 (λ n. at (pos n)) plus_units (λ k m n i j. inl (omega arith, omega arith))

  both_minus : (r s : ℕ) → TwoEven r s → sign_of r ≡ 1 → sign_of s ≡ 1 → r < s → ⊥
  both_minus = one_sign 1 (λ n. sub (at (pos 0)) (at (pos n))) minus_units (λ k m n i j. inr (omega arith, omega arith))

  -- the first below 0, the second not: minus one unit lies between
  across : (r s : ℕ) → TwoEven r s → sign_of r ≡ 1 → sign_of s ≡ 0 → ⊥
  across r s t p q =
      let a = t.first_even in
      let big : 1 < unsigned r = omega (arith, t.first.plus_zero) in
      between r s (suc minus_zero) (sub (at (pos 0)) (at (pos (size (unsigned r))))) (at (pos (size (unsigned s)))) (sub (at (pos 0)) (at (pos (size 1))))
      (minus_units r p) (plus_units s q) (minus_units (suc minus_zero) refl) t.as_far
      (t.first.near (suc minus_zero) (record { bits = lit< tt; exponent = lit< tt }))
      (inl (omega (arith, size_lt 1 (unsigned r) big), omega (arith, small_size 1 (lit≤ tt))))

  two_even : (r s : ℕ) → TwoEven r s → r ≡ s
  two_even r s t = go (either_sign r t.first.finite.bits) (either_sign s t.second.finite.bits)
    where
      go : (sign_of r ≡ 0) ⊎ (sign_of r ≡ 1) → (sign_of s ≡ 0) ⊎ (sign_of s ≡ 1) → r ≡ s
      go (inl p) (inl q) = elim (three_ways r s) [ inl l ↦ absurd (both_plus r s t p q l) | inr (inl e) ↦ e | inr (inr l) ↦ absurd (both_plus s r (swap r s t) q p l) ]
      go (inr p) (inr q) = elim (three_ways r s) [ inl l ↦ absurd (both_minus r s t p q l) | inr (inl e) ↦ e | inr (inr l) ↦ absurd (both_minus s r (swap r s t) q p l) ]
      go (inr p) (inl q) = absurd (across r s t p q)
      go (inl p) (inr q) = absurd (across s r (swap r s t) q p)

  by_units : (r s : ℕ) → IsNearestHalf v r → IsNearestHalf v s → half_units r ≡ half_units s → r ≡ s
  by_units r s n k e =
      elim (same_units r s n.finite.bits k.finite.bits e) [ inl x ↦ x | inr x ↦ omega (arith, x.0, x.1, n.finite.bits, k.finite.bits, n.plus_zero, k.plus_zero) ]

  pub one_nearest : (r s : ℕ) → IsNearestHalf v r → IsNearestHalf v s → r ≡ s
  one_nearest r s n k =
      let d = le_antisymm (n.near s k.finite) (k.near r n.finite) in
      elim (n.even s k.finite (sym d)) [
        | inl e ↦ by_units r s n k (sym e)
        | inr a ↦
            elim (k.even r n.finite d) [
              | inl e ↦ by_units r s n k e
              | inr b ↦ two_even r s (record { first = n; second = k; as_far = d; first_even = a; second_even = b })
            ]
      ]

-- ---- the half that is nearest to the units of a finite half
pub own_half : (h r : ℕ) → IsFinite h → IsNearestHalf (half_units h) r → (r ≡ h) ⊎ ((r ≡ 0) × (h ≡ minus_zero))
own_half h r f n =
    go (same_units r h n.finite.bits f.bits (sym (not_apart (half_units h) (half_units r) (omega (arith, n.near h f, from_itself (half_units h))))))
  where
    zeros : r ≡ 0 → unsigned h ≡ 0 → (sign_of h ≡ 0) ⊎ (sign_of h ≡ 1) → (r ≡ h) ⊎ ((r ≡ 0) × (h ≡ minus_zero))
    zeros x y (inl s) = inl (omega arith)
    zeros x y (inr s) = inr (x, omega arith)

    go : (r ≡ h) ⊎ ((unsigned r ≡ 0) × (unsigned h ≡ 0)) → (r ≡ h) ⊎ ((r ≡ 0) × (h ≡ minus_zero))
    go (inl e) = inl e
    go (inr (x, y)) = zeros (omega (arith, n.finite.bits, n.plus_zero)) y (either_sign h f.bits)
