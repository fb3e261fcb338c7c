-- Which half is nearest, without signs: of two neighbours the nearer, and at a tie the even one.
-- Assumes nothing.
use mathlib.Core.Path.{◌≡◌, ap}
use mathlib.Core.Logic.{◌⊎◌, inl, inr}
use Prim.Native.Nat.{ℕ, suc, ◌-◌, ◌%◌, ◌≤◌, ◌<◌}
use native.Mathlib.Nat.{le_of_suc-le-suc}
use native.Mathlib.Omega.{arith}
use lib.Dec.{lit<}
use Rattle.whole.proofs.Apart.{three_ways, apart}
use Rattle.half.proofs.Sizes.{last, finites, size, size_lt, size_le, size_only}

-- p is a finite half's bits without the sign whose units are nearest to m
pub record NearestSize (m p : ℕ) : Type 0 where
  pub finite : p < finites
  pub near : (q : ℕ) → q < finites → apart m (size p) ≤ apart m (size q)
  pub even : (q : ℕ) → q < finites → apart m (size q) ≡ apart m (size p) → (q ≡ p) ⊎ (p % 2 ≡ 0)

-- beyond the last half it is the last
pub at_end : (m : ℕ) → size last ≤ m → NearestSize m last
at_end m h =
    record {
      finite = lit< tt;
      near = λ q k. let l : size q ≤ size last = size_le q last (le_of_suc-le-suc k) in omega arith;
      even = λ q k d. let l : size q ≤ size last = size_le q last (le_of_suc-le-suc k) in inl (size_only q last (omega arith));
    }

-- m between the neighbours p and p + 1
module _ (m p : ℕ) (room : suc p < finites) (low : size p ≤ m) (high : m ≤ size (suc p)) where
  pub lower : m - size p ≤ size (suc p) - m → (m - size p ≡ size (suc p) - m → p % 2 ≡ 0) → NearestSize m p
  lower c t = record { finite = omega arith; near = λ q k. near q (three_ways q p); even = λ q k d. even q (three_ways q p) d }
    where
      near : (q : ℕ) → (q < p) ⊎ ((q ≡ p) ⊎ (p < q)) → apart m (size p) ≤ apart m (size q)
      near q (inl l) = omega (arith, size_lt q p l)
      near q (inr (inl e)) = omega (arith, ap size e)
      near q (inr (inr l)) = omega (arith, size_le (suc p) q l)

      even : (q : ℕ) → (q < p) ⊎ ((q ≡ p) ⊎ (p < q)) → apart m (size q) ≡ apart m (size p) → (q ≡ p) ⊎ (p % 2 ≡ 0)
      even q (inl l) d = absurd (omega (arith, size_lt q p l))
      even q (inr (inl e)) d = inl e
      even q (inr (inr l)) d = inr (t (omega (arith, size_le (suc p) q l)))

  pub upper : size (suc p) - m ≤ m - size p → (m - size p ≡ size (suc p) - m → suc p % 2 ≡ 0) → NearestSize m (suc p)
  upper c t = record { finite = room; near = λ q k. near q (three_ways q (suc p)); even = λ q k d. even q (three_ways q (suc p)) d }
    where
      near : (q : ℕ) → (q < suc p) ⊎ ((q ≡ suc p) ⊎ (suc p < q)) → apart m (size (suc p)) ≤ apart m (size q)
      near q (inl l) = omega (arith, size_le q p (le_of_suc-le-suc l))
      near q (inr (inl e)) = omega (arith, ap size e)
      near q (inr (inr l)) = omega (arith, size_lt (suc p) q l)

      even : (q : ℕ) → (q < suc p) ⊎ ((q ≡ suc p) ⊎ (suc p < q)) → apart m (size q) ≡ apart m (size (suc p)) → (q ≡ suc p) ⊎ (suc p % 2 ≡ 0)
      even q (inl l) d = inr (t (omega (arith, size_le q p (le_of_suc-le-suc l))))
      even q (inr (inl e)) d = inl e
      even q (inr (inr l)) d = absurd (omega (arith, size_lt (suc p) q l))
