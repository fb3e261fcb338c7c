-- The nearest step is the one whose midpoints, to the step before it and to the step after it, are on the two sides of the number.
-- Assumes nothing.
use mathlib.Core.Bool.{Bool, true, false}
use mathlib.Core.Path.{◌≡◌, refl, ap}
use Prim.Native.Nat.{ℕ, ◌+◌, ◌-◌, ◌*◌, ◌≤◌, ◌<◌}
use native.Mathlib.Nat.{le_refl, le_of_eq, le_of_lt, le_of_suc-le-suc, lt_of_not-le, not-le_of_lt}
use native.Mathlib.Omega.{arith}
use borrow.Author.Tests.{ltb-true, ltb-false}
use lib.Dec.{ltb, lit<}
use lib.IntN.{ℤ, nat_abs, sub_ℕ, ◌-ℤ◌}
use Rattle.whole.specs.Parts.{up, dn}
use Rattle.whole.proofs.Reflect.{abs_is, at, sub, dif, one_zero, sub_dif}
use Rattle.whole.proofs.Near.{Near}
use Rattle.rules.specs.Encoding.{distance, IsNearest}
use Rattle.decode.specs.Decoded.{offset}
use Rattle.nearest_code.specs.Search.{NearestStep}

-- ---- two numbers p and q with the offset, and the midpoint between them

-- of the lower of two numbers where x is not past the midpoint, and of the higher where x is past it
closer : (x : ℤ) (p q : ℕ) → p < q → 2 * (up x + offset) ≤ p + q + 2 * dn x → nat_abs (x -ℤ sub_ℕ p offset) ≤ nat_abs (x -ℤ sub_ℕ q offset)
closer x p q h i =
    omega (arith, abs_is (x -ℤ sub_ℕ p offset), abs_is (x -ℤ sub_ℕ q offset), one_zero (x -ℤ sub_ℕ p offset), one_zero (x -ℤ sub_ℕ q offset), dif (sub (at x) (at (sub_ℕ p offset))), dif (sub (at x) (at (sub_ℕ q offset))), sub_dif p offset, sub_dif q offset)

nearer : (x : ℤ) (p q : ℕ) → p < q → p + q + 2 * dn x < 2 * (up x + offset) → nat_abs (x -ℤ sub_ℕ q offset) < nat_abs (x -ℤ sub_ℕ p offset)
nearer x p q h i =
    omega (arith, abs_is (x -ℤ sub_ℕ p offset), abs_is (x -ℤ sub_ℕ q offset), one_zero (x -ℤ sub_ℕ p offset), one_zero (x -ℤ sub_ℕ q offset), dif (sub (at x) (at (sub_ℕ p offset))), dif (sub (at x) (at (sub_ℕ q offset))), sub_dif p offset, sub_dif q offset)

-- and from the distances to the midpoint
before_midpoint : (x : ℤ) (p q : ℕ) → p < q → nat_abs (x -ℤ sub_ℕ p offset) ≤ nat_abs (x -ℤ sub_ℕ q offset) → 2 * (up x + offset) ≤ p + q + 2 * dn x
before_midpoint x p q h i = le_of_suc-le-suc (lt_of_not-le (λ g. not-le_of_lt (nearer x p q h g) i))

past_midpoint : (x : ℤ) (p q : ℕ) → p < q → nat_abs (x -ℤ sub_ℕ q offset) < nat_abs (x -ℤ sub_ℕ p offset) → p + q + 2 * dn x < 2 * (up x + offset)
past_midpoint x p q h i = lt_of_not-le (λ g. not-le_of_lt i (closer x p q h g))

-- ---- steps

-- x, with the offset, is above the midpoint from the step before n to n, and at most the midpoint from n to the step after it
pub record Within (u : ℕ → ℕ) (last : ℕ) (x : ℤ) (n : ℕ) : Type 0 where
  pub in_range : n ≤ last
  pub above : (m : ℕ) → m + 1 ≡ n → u m + u n + 2 * dn x < 2 * (up x + offset)
  pub below : n < last → 2 * (up x + offset) ≤ u n + u (n + 1) + 2 * dn x

module _ (u : ℕ → ℕ) (last : ℕ) (rises : (m n : ℕ) → m < n → n ≤ last → u m < u n) (x : ℤ) where
  abbrev number : ℕ → ℤ
  number n = sub_ℕ (u n) offset

  not_less : (m n : ℕ) → m ≤ n → n ≤ last → u m ≤ u n
  not_less m n h g = go (ltb m n) refl
    where
      equal : n ≤ m → m ≡ n
      equal f = omega arith

      go : (b : Bool) → ltb m n ≡ b → u m ≤ u n
      go true e = le_of_lt (rises m n (ltb-true m n e) g)
      go false e = le_of_eq (ap u (equal (ltb-false m n e)))

  module _ (n : ℕ) (i : Within u last x n) where
    than_lower : (m : ℕ) → m < n → distance number x n < distance number x m
    than_lower m h =
        nearer x (u m) (u n) (rises m n h i.in_range)
        (omega (arith, not_less m (n - 1) (omega arith) (omega (arith, i.in_range)), i.above (n - 1) (omega arith)))

    than_higher : (m : ℕ) → n < m → m ≤ last → distance number x n ≤ distance number x m
    than_higher m h g =
        closer x (u n) (u m) (rises n m h g)
        (omega (arith, not_less (n + 1) m (omega arith) g, i.below (omega arith)))

    than_any : (m : ℕ) → m ≤ last → distance number x n ≤ distance number x m
    than_any m g = go (ltb m n) refl (ltb n m) refl
      where
        equal : m ≤ n → n ≤ m → n ≡ m
        equal f g = omega arith

        go : (b : Bool) → ltb m n ≡ b → (c : Bool) → ltb n m ≡ c → distance number x n ≤ distance number x m
        go true e c f = le_of_lt (than_lower m (ltb-true m n e))
        go false e true f = than_higher m (ltb-true n m f) g
        go false e false f = le_of_eq (ap (λ (k : ℕ). distance number x k) (equal (ltb-false n m f) (ltb-false m n e)))

    pub within_nearest : IsNearest number last x n
    within_nearest = record { in_range = i.in_range; nearest = than_any; lowest = than_lower }

  pub nearest_within : (n : ℕ) → IsNearest number last x n → Within u last x n
  nearest_within n i =
      record {
        in_range = i.in_range;
        above = λ m e. past_midpoint x (u m) (u n) (rises m n (omega arith) i.in_range) (i.lowest m (omega arith));
        below = λ h. before_midpoint x (u n) (u (n + 1)) (rises n (n + 1) (omega arith) (omega arith)) (i.nearest (n + 1) (omega arith));
      }

-- ---- which numbers have a step
module _ (u : ℕ → ℕ) (last : ℕ) (rises : (m n : ℕ) → m < n → n ≤ last → u m < u n) where
  -- the number of the step itself
  pub own_within : (n : ℕ) → n ≤ last → Within u last (sub_ℕ (u n) offset) n
  own_within n h =
      record {
        in_range = h;
        above = λ m e. omega (arith, sub_dif (u n) offset, rises m n (omega arith) h);
        below = λ g. omega (arith, sub_dif (u n) offset, rises n (n + 1) (omega arith) (omega arith));
      }

  -- what is not above the number of step 0, and what is not below that of the last
  pub first_within : (x : ℤ) → up x + offset ≤ u 0 + dn x → Within u last x 0
  first_within x h =
      record { in_range = omega arith; above = λ m e. absurd (omega arith); below = λ g. omega (arith, rises 0 1 (lit< tt) g) }

  pub last_within : (x : ℤ) → u last + dn x ≤ up x + offset → Within u last x last
  last_within x h =
      record { in_range = le_refl last; above = λ m e. omega (arith, rises m last (omega arith) (le_refl last)); below = λ g. absurd (omega arith) }

-- what is nearer to the number of a step than half the gap
pub near_within : (g b : ℕ) → 2 * b < g → (u : ℕ → ℕ) (last : ℕ) → ((m n : ℕ) → m < n → n ≤ last → u m + g ≤ u n) → (x : ℤ) (n : ℕ) → n ≤ last → Near x (sub_ℕ (u n) offset) b → Within u last x n
near_within g b p u last apart x n h i =
    record {
      in_range = h;
      above = λ m e. omega (arith, sub_dif (u n) offset, i.low, apart m n (omega arith) h);
      below = λ k. omega (arith, sub_dif (u n) offset, i.high, apart n (n + 1) (omega arith) (omega arith));
    }

-- what a search finds, where y is x with the offset
pub step_within : (u : ℕ → ℕ) (last : ℕ) (x : ℤ) (y n : ℕ) → up x + offset ≡ y + dn x → NearestStep u last y n → Within u last x n
step_within u last x y n e f =
    record { in_range = f.in_range; above = λ m g. omega (arith, f.above m g); below = λ h. omega (arith, f.below h) }
