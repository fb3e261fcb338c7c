-- Decimal digits: a number's are those of its tenth and the last, and how many there are.
-- Assumes nothing.
use mathlib.Core.Bool.{Bool, true, false}
use mathlib.Core.Path.{◌≡◌, refl, subst}
use mathlib.Core.List.{[], ◌∷◌, ◌++◌}
use Prim.Native.Nat.{ℕ, zero, suc, ◌*◌, ◌/◌, ◌%◌, ◌^◌, ◌≤◌, ◌<◌}
use native.Mathlib.Nat.{pow-suc}
use native.Mathlib.Omega.{arith}
use lib.Dec.{T, ltb}
use lib.IntN.{ℤ, pos, negsuc, nat_abs}
use lib.Signed.{lt_z}
use lib.ListN.{length, length-append}
use borrow.Author.Tests.{ltb-true, ltb-false, lt-ltb, le-ltb}
use Rattle.rules.specs.Choice.{choose}
use Rattle.rules.specs.Decimal.{digit, decimal_in, decimal, signed}

-- of more places than are needed none is used
any_places : (k j n : ℕ) → n ≤ k → n ≤ j → decimal_in k n ≡ decimal_in j n
unfolding decimal_in
any_places zero zero n h l = refl
any_places zero (suc j) n h l = let e : n ≡ 0 = omega arith in rw e
any_places (suc k) zero n h l = let e : n ≡ 0 = omega arith in rw e
any_places (suc k) (suc j) n h l = go (ltb n 10) refl (λ m. any_places k j (n / 10) (omega arith) (omega arith))
  where
    go : (b : Bool) → ltb n 10 ≡ b
        → (10 ≤ n → decimal_in k (n / 10) ≡ decimal_in j (n / 10))
        → choose b (digit n ∷ []) (decimal_in k (n / 10) ++ (digit (n % 10) ∷ [])) ≡ choose b (digit n ∷ []) (decimal_in j (n / 10) ++ (digit (n % 10) ∷ []))
    go true e same = refl
    go false e same = rw (same (ltb-false n 10 e))

-- a number below 10, and one that has a tenth
pub decimal_small : (n : ℕ) → n < 10 → decimal n ≡ digit n ∷ []
unfolding decimal decimal_in
decimal_small zero h = refl
decimal_small (suc n) h = rw (lt-ltb (suc n) 10 h)

pub decimal_large : (n : ℕ) → 10 ≤ n → decimal n ≡ decimal (n / 10) ++ (digit (n % 10) ∷ [])
unfolding decimal decimal_in
decimal_large zero h = absurd (omega arith)
decimal_large (suc n) h = rw (le-ltb (suc n) 10 h, any_places n (suc n / 10) (suc n / 10) (omega arith) (omega arith))

-- no more digits than a power of 10 above the number has
pub length_decimal : (k n : ℕ) → n < 10 ^ suc k → length (decimal n) ≤ suc k
length_decimal zero n h = rw (decimal_small n h) (omega arith)
length_decimal (suc k) n h =
    let e : 10 ^ suc (suc k) ≡ 10 ^ suc k * 10 = pow-suc 10 (suc k) in
    go (ltb n 10) refl (length_decimal k (n / 10) (omega arith))
  where
    go : (b : Bool) → ltb n 10 ≡ b → length (decimal (n / 10)) ≤ suc k → length (decimal n) ≤ suc (suc k)
    go true e l = rw (decimal_small n (ltb-true n 10 e)) (omega arith)
    go false e l = rw (decimal_large n (ltb-false n 10 e), length-append) (omega arith)

-- ---- signed numbers
pub signed_below : (z : ℤ) → lt_z z (pos 0) ≡ true → signed z ≡ 45 ∷ decimal (nat_abs z)
signed_below (pos n) e = absurd (omega (arith, ltb-true n 0 e))
signed_below (negsuc n) e = refl

pub signed_above : (z : ℤ) → lt_z z (pos 0) ≡ false → signed z ≡ decimal (nat_abs z)
signed_above (pos n) e = refl
signed_above (negsuc n) e = absurd (subst T e tt)

pub length_signed : (k : ℕ) (z : ℤ) → nat_abs z < 10 ^ suc k → length (signed z) ≤ suc (suc k)
length_signed k (pos n) h = omega (arith, length_decimal k n h)
length_signed k (negsuc n) h = omega (arith, length_decimal k (suc n) h)
