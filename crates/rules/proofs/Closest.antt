-- The nearest code is one code, and `closest` computes it.
-- Assumes nothing.
use mathlib.Core.Bool.{Bool, true, false}
use mathlib.Core.Path.{◌≡◌, refl, ap, subst}
use Prim.Native.Nat.{ℕ, zero, suc, ◌≤◌, ◌<◌}
use native.Mathlib.Nat.{le_refl, le_of_eq, le_of_lt, le_trans, lt_of_lt_of_le, le_of_suc-le-suc, not-le_of_lt}
use native.Mathlib.Omega.{arith}
use borrow.Author.Tests.{ltb-true, ltb-false}
use lib.Dec.{ltb}
use lib.IntN.{ℤ}
use Rattle.rules.specs.Choice.{choose}
use Rattle.rules.specs.Encoding.{distance, IsNearest, closest}

equal : (m n : ℕ) → m ≤ n → n ≤ m → m ≡ n
equal m n h g = omega arith

module _ (number : ℕ → ℤ) (x : ℤ) where
  -- what is true of the codes up to k and of the code after k is true of the codes up to that
  one_more : (P : ℕ → Type 0) (k : ℕ) → ((m : ℕ) → m ≤ k → P m) → P (suc k) → (m : ℕ) → m ≤ suc k → P m
  one_more P k h g m l = go (ltb m (suc k)) refl
    where
      go : (b : Bool) → ltb m (suc k) ≡ b → P m
      go true e = h m (le_of_suc-le-suc (ltb-true m (suc k) e))
      go false e = subst P (equal (suc k) m (ltb-false m (suc k) e) l) g

  next : (k n : ℕ) (b : Bool) → ltb (distance number x (suc k)) (distance number x n) ≡ b → IsNearest number k x n → IsNearest number (suc k) x (choose b (suc k) n)
  next k n true e i =
      let less : distance number x (suc k) < distance number x n = ltb-true (distance number x (suc k)) (distance number x n) e in
      record {
        in_range = le_refl (suc k);
        nearest = one_more (λ m. distance number x (suc k) ≤ distance number x m) k (λ m h. le_of_lt (lt_of_lt_of_le less (i.nearest m h))) (le_refl (distance number x (suc k)));
        lowest = λ m h. lt_of_lt_of_le less (i.nearest m (le_of_suc-le-suc h));
      }
  next k n false e i =
      record {
        in_range = le_trans i.in_range (above k);
        nearest = one_more (λ m. distance number x n ≤ distance number x m) k i.nearest (ltb-false (distance number x (suc k)) (distance number x n) e);
        lowest = i.lowest;
      }
    where
      above : (k : ℕ) → k ≤ suc k
      above k = omega arith

  -- the equation is the nearest code
  pub closest_is_nearest : (top : ℕ) → IsNearest number top x (closest number x top)
  unfolding closest
  closest_is_nearest zero =
      record { in_range = le_refl 0; nearest = λ m h. le_of_eq (ap (λ (j : ℕ). distance number x j) (equal 0 m (omega arith) h)); lowest = λ m h. absurd (omega arith) }
  closest_is_nearest (suc k) =
      next k (closest number x k) (ltb (distance number x (suc k)) (distance number x (closest number x k))) refl (closest_is_nearest k)

  -- and no other code is
  pub nearest_only : (top m n : ℕ) → IsNearest number top x m → IsNearest number top x n → m ≡ n
  nearest_only top m n i j = go (ltb m n) refl (ltb n m) refl
    where
      go : (b : Bool) → ltb m n ≡ b → (c : Bool) → ltb n m ≡ c → m ≡ n
      go true e c f = absurd (not-le_of_lt (j.lowest m (ltb-true m n e)) (i.nearest n j.in_range))
      go false e true f = absurd (not-le_of_lt (i.lowest n (ltb-true n m f)) (j.nearest m i.in_range))
      go false e false f = equal m n (ltb-false n m f) (ltb-false m n e)
