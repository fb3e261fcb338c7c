-- The digits that are kept: behind the first eleven k are cut off, and what is left is rounded, a tie to the even one. Then the half that is
-- joined of them is the nearest.
-- Assumes nothing.
use mathlib.Core.Path.{◌≡◌, refl, sym, ap, ◌∙◌, subst}
use mathlib.Core.Logic.{◌⊎◌, inl, inr}
use Prim.Native.Nat.{ℕ, zero, suc, ◌+◌, ◌-◌, ◌*◌, ◌/◌, ◌%◌, ◌^◌, ◌≤◌, ◌<◌, min}
use native.Mathlib.Nat.{le_trans, le_of_eq, lt_of_le_of_lt, lt_of_lt_of_le, lt_irrefl, lt_of_not-le, mod-lt, div-add-mod', pow-succ', le-div_iff_mul-le, div-lt_iff_lt-mul, eq-or-lt_of_le}
use native.Mathlib.Omega.{arith}
use lib.Arith.{digits_div}
use lib.Count.{count_leading_zeros, leading_top}
use lib.Dec.{lit<, lit≤}
use lib.Pow.{pow-add, pow_pos, pow_mono}
use Rattle.whole.proofs.Apart.{less_or_not}
use Rattle.rules.specs.Half.{half_end, behind_eleven, to_even, joined, rounded_size, half_size}
use Rattle.half.proofs.Sizes.{last, finites, size, joined_size, last_size}
use Rattle.half.proofs.Nearest.{NearestSize, at_end, lower, upper}

-- ---- rounding: q is left of n, and r is cut off
module _ (n k : ℕ) where
  abbrev q : ℕ
  q = n / 2 ^ k

  abbrev r : ℕ
  r = n % 2 ^ k

  whole_is : q * 2 ^ k + r ≡ n
  whole_is = div-add-mod' n (2 ^ k)

  rest_below : r < 2 ^ k
  rest_below = mod-lt n (pow_pos k)

  -- the quotient of x with the remainder y
  quotient : (x a y : ℕ) → x ≡ a * (2 * 2 ^ k) + y → y < 2 * 2 ^ k → x / (2 * 2 ^ k) ≡ a
  quotient x a y e h = ap (λ (z : ℕ). z / (2 * 2 ^ k)) e ∙ digits_div a h

  pub goes_down : 2 * r + q % 2 ≤ 2 ^ k → to_even n k ≡ q
  goes_down h = quotient (2 * n + (2 ^ k - 1) + q % 2) q (2 * r + (2 ^ k - 1) + q % 2) (omega (arith, whole_is)) (omega (arith, pow_pos k))

  pub goes_up : 2 ^ k < 2 * r + q % 2 → to_even n k ≡ suc q
  goes_up h =
      quotient (2 * n + (2 ^ k - 1) + q % 2) (suc q) (2 * r + (2 ^ k - 1) + q % 2 - 2 * 2 ^ k)
      (omega (arith, whole_is, pow_pos k)) (omega (arith, rest_below, parity q))
    where
      parity : (x : ℕ) → x % 2 < 2
      parity x = mod-lt x (lit< tt)

-- ---- the first eleven digits, or all where there are fewer
pub record FirstEleven (n k : ℕ) : Type 0 where
  pub few : k ≤ 29
  pub filled : (k ≡ 0) ⊎ (1024 ≤ n / 2 ^ k)
  pub below : n / 2 ^ k < 2048

power_order : (i j : ℕ) → 2 ^ i < 2 ^ j → i < j
power_order i j h = lt_of_not-le (λ (g : j ≤ i). lt_irrefl (2 ^ i) (lt_of_lt_of_le h (pow_mono g)))

-- n has j + 1 digits
with_digits : (n j : ℕ) → n ≤ half_end → 2 ^ j ≤ n → n < 2 ^ suc j → FirstEleven n (j - 10)
with_digits n j b c d = go (less_or_not j 10)
  where
    j_few : j < 40
    j_few = power_order j 40 (lt_of_le_of_lt c (omega arith))

    no_cut : (k : ℕ) → k ≡ 0 → n < 2048 → FirstEleven n k
    no_cut k e h =
        record {
          few = omega arith;
          filled = inl e;
          below = subst (λ (i : ℕ). n / 2 ^ i < 2048) (sym e) (omega arith);
        }

    few_digits : j ≤ 10 → FirstEleven n (j - 10)
    few_digits h = no_cut (j - 10) (omega arith) (lt_of_lt_of_le d (pow_mono {i = suc j} {j = 11} (omega arith)))

    more_digits : (k : ℕ) → j ≡ 10 + k → FirstEleven n k
    more_digits k e =
        let x : 2 ^ j ≡ 1024 * 2 ^ k = ap (λ (i : ℕ). 2 ^ i) e ∙ pow-add 2 10 k in
        let y : 2 ^ suc j ≡ 2 * 2 ^ j = pow-succ' 2 j in
        record {
          few = omega (arith, j_few);
          filled = inr ((le-div_iff_mul-le (pow_pos k)).1 (le_trans (le_of_eq (sym x)) c));
          below = (div-lt_iff_lt-mul (pow_pos k)).1 (omega (arith, x, y));
        }

    go : (j < 10) ⊎ (10 ≤ j) → FirstEleven n (j - 10)
    go (inl h) = few_digits (omega arith)
    go (inr h) = more_digits (j - 10) (omega arith)

pub first_eleven : (n : ℕ) → n ≤ half_end → FirstEleven n (behind_eleven n)
unfolding count_leading_zeros
first_eleven zero h = record { few = lit≤ tt; filled = inl refl; below = lit< tt }
first_eleven (suc m) h =
    let t = leading_top 64 (suc m) (omega arith) (omega arith) in
    subst (FirstEleven (suc m)) (omega (arith, t.1)) (with_digits (suc m) t.0 h t.2 t.3)

-- ---- the nearest half
module _ (n k : ℕ) (inside : n < half_end) (e : FirstEleven n k) where
  abbrev p : ℕ
  p = joined k (q n k)

  p_size : size p ≡ q n k * 2 ^ k
  p_size = joined_size k (q n k) e.filled (omega (arith, e.below))

  next_size : size (suc p) ≡ q n k * 2 ^ k + 2 ^ k
  next_size = ap size (omega arith) ∙ joined_size k (suc (q n k)) (more e.filled) e.below ∙ omega arith
    where
      more : (k ≡ 0) ⊎ (1024 ≤ q n k) → (k ≡ 0) ⊎ (1024 ≤ suc (q n k))
      more (inl z) = inl z
      more (inr h) = inr (omega arith)

  room : suc p < finites
  room = go (eq-or-lt_of_le e.few)
    where
      at_29 : n / 2 ^ 29 < 2047
      at_29 = omega arith

      go : (k ≡ 29) ⊎ (k < 29) → suc p < finites
      go (inl z) = let l : q n k < 2047 = subst (λ (i : ℕ). n / 2 ^ i < 2047) (sym z) at_29 in omega arith
      go (inr l) = omega (arith, e.below)

  rounded : NearestSize n (joined k (to_even n k))
  rounded = go (less_or_not (2 ^ k) (2 * r n k + q n k % 2))
    where
      down : 2 * r n k + q n k % 2 ≤ 2 ^ k → NearestSize n (joined k (to_even n k))
      down h =
          subst (λ (x : ℕ). NearestSize n (joined k x)) (sym (goes_down n k h))
          (lower n p room (omega (arith, p_size, whole_is n k)) (omega (arith, next_size, whole_is n k, rest_below n k))
          (omega (arith, p_size, next_size, whole_is n k, rest_below n k))
          (λ t. even_down (omega (arith, p_size, next_size, whole_is n k, rest_below n k))))
        where
          even_down : q n k % 2 ≡ 0 → p % 2 ≡ 0
          even_down z = omega arith

      up : 2 ^ k < 2 * r n k + q n k % 2 → NearestSize n (joined k (to_even n k))
      up h =
          subst (NearestSize n) (omega (arith, goes_up n k h))
          (upper n p room (omega (arith, p_size, whole_is n k)) (omega (arith, next_size, whole_is n k, rest_below n k))
          (omega (arith, p_size, next_size, whole_is n k, rest_below n k))
          (λ t. even_up (omega (arith, p_size, next_size, whole_is n k, rest_below n k))))
        where
          even_up : q n k % 2 ≡ 1 → suc p % 2 ≡ 0
          even_up z = omega arith

      go : (2 ^ k < 2 * r n k + q n k % 2) ⊎ (2 * r n k + q n k % 2 ≤ 2 ^ k) → NearestSize n (joined k (to_even n k))
      go (inl h) = up h
      go (inr h) = down h

end_rounded : rounded_size half_end ≡ last
unfolding count_leading_zeros
end_rounded = refl

-- from the end on it is the end
pub end_reached : (m : ℕ) → half_end ≤ m → half_size m ≡ last
end_reached m h = let e : min m half_end ≡ half_end = omega arith in ap rounded_size e ∙ end_rounded

pub size_nearest : (m : ℕ) → NearestSize m (half_size m)
size_nearest m = go (less_or_not m half_end)
  where
    go : (m < half_end) ⊎ (half_end ≤ m) → NearestSize m (half_size m)
    go (inl h) =
        let e : min m half_end ≡ m = omega arith in
        subst (λ (n : ℕ). NearestSize m (rounded_size n)) (sym e) (rounded m (behind_eleven m) h (first_eleven m (omega arith)))
    go (inr h) = subst (NearestSize m) (sym (end_reached m h)) (at_end m (omega (arith, last_size)))
