-- The entries that the program multiplies are small, so that its sums fit words.
-- Assumes nothing.
use mathlib.Core.Bool.{Bool}
use mathlib.Core.List.{List, [], ◌∷◌}
use mathlib.Core.Path.{◌≡◌}
use Prim.Native.Nat.{ℕ, ◌+◌, ◌*◌, ◌^◌, ◌≤◌}
use native.Mathlib.Nat.{mul-le-mul}
use native.Mathlib.Omega.{arith}
use lib.Dec.{T, leb, leb→le}
use lib.IntN.{ℤ, pos, negsuc, nat_abs, ◌+ℤ◌, ◌*ℤ◌}
use mir.Syntax.{w64}
use mir.Val.{SFits}
use Rattle.whole.specs.Parts.{up, dn}
use Rattle.whole.proofs.Reflect.{at, add, mul, dif, abs_is, one_zero}
use Rattle.whole.proofs.Words.{fits_z, read_back, read_is}
use Rattle.rules.specs.Matrix.{entry, row_product}
use Rattle.whole.proofs.Tests.{every, nth, passes}
use Rattle.row_product.specs.Row.{Number, Sum, entry_limit, SmallRow, SmallRows, IsProducts, plain}

-- a product of an entry and a number
bound : (c x : ℤ) → nat_abs c ≤ 2100000 → nat_abs x ≤ 2 ^ 38 → (up c * up x + dn c * dn x ≤ 577243604582400000) × (up c * dn x + dn c * up x ≤ 577243604582400000)
bound (pos c) (pos x) h o = let p = mul-le-mul h o in (omega arith, omega arith)
bound (pos c) (negsuc x) h o = let p = mul-le-mul h o in (omega arith, omega arith)
bound (negsuc c) (pos x) h o = let p = mul-le-mul h o in (omega arith, omega arith)
bound (negsuc c) (negsuc x) h o = let p = mul-le-mul h o in (omega arith, omega arith)

-- what a row product computes fits
pub term_fits : (c x : ℤ) → nat_abs c ≤ entry_limit → Number x → SFits w64 (c *ℤ x)
term_fits c x i o = let b = bound c x i o.small in fits_z (mul (at c) (at x)) (omega (arith, b)) (omega (arith, b))

module _ (c₀ c₁ c₂ x y z : ℤ) (i₀ : nat_abs c₀ ≤ entry_limit) (i₁ : nat_abs c₁ ≤ entry_limit) (i₂ : nat_abs c₂ ≤ entry_limit) (o₀ : Number x) (o₁ : Number y) (o₂ : Number z) where
  pub two_fit : SFits w64 (c₀ *ℤ x +ℤ c₁ *ℤ y)
  two_fit =
      let b₀ = bound c₀ x i₀ o₀.small in
      let b₁ = bound c₁ y i₁ o₁.small in
      fits_z (add (mul (at c₀) (at x)) (mul (at c₁) (at y))) (omega (arith, b₀, b₁)) (omega (arith, b₀, b₁))

  pub sum_small : Sum (c₀ *ℤ x +ℤ c₁ *ℤ y +ℤ c₂ *ℤ z)
  sum_small =
      let b₀ = bound c₀ x i₀ o₀.small in
      let b₁ = bound c₁ y i₁ o₁.small in
      let b₂ = bound c₂ z i₂ o₂.small in
      let S = c₀ *ℤ x +ℤ c₁ *ℤ y +ℤ c₂ *ℤ z in
      record { small = omega (arith, b₀, b₁, b₂, abs_is S, one_zero S, dif (add (add (mul (at c₀) (at x)) (mul (at c₁) (at y))) (mul (at c₂) (at z)))) }

-- the row product of a small row is a sum
pub product_small : (m : List (List ℤ)) (i : ℕ) (x y z : ℤ) → SmallRow m i → Number x → Number y → Number z → Sum (row_product (plain m) i x y z)
product_small m i x y z r = sum_small (entry (plain m) i 0) (entry (plain m) i 1) (entry (plain m) i 2) x y z r.first r.second r.third

-- numbers and sums fit words
pub number_fits : {x : ℤ} → Number x → SFits w64 x
number_fits {x} n = fits_z (at x) (omega (arith, n.small, abs_is x)) (omega (arith, n.small, abs_is x))

pub sum_fits : (p : ℤ) → Sum p → SFits w64 p
sum_fits p s = fits_z (at p) (omega (arith, s.small, abs_is p)) (omega (arith, s.small, abs_is p))

-- three row products, as they are read of words
pub record Read (m : List (List ℤ)) (x y z p q r : ℤ) : Type 0 where
  pub red : read_back p ≡ row_product (plain m) 0 x y z
  pub green : read_back q ≡ row_product (plain m) 1 x y z
  pub blue : read_back r ≡ row_product (plain m) 2 x y z
  pub red_sum : Sum (row_product (plain m) 0 x y z)
  pub green_sum : Sum (row_product (plain m) 1 x y z)
  pub blue_sum : Sum (row_product (plain m) 2 x y z)

pub read_products : (m : List (List ℤ)) (x y z : ℤ) {p q r : ℤ} → SmallRows m → Number x → Number y → Number z → IsProducts m x y z p q r → Read m x y z p q r
read_products m x y z s i j k e =
    let a = product_small m 0 x y z s.red i j k in
    let b = product_small m 1 x y z s.green i j k in
    let c = product_small m 2 x y z s.blue i j k in
    record {
      red = read_is e.red_is (sum_fits _ a);
      green = read_is e.green_is (sum_fits _ b);
      blue = read_is e.blue_is (sum_fits _ c);
      red_sum = a;
      green_sum = b;
      blue_sum = c;
    }

-- ---- the entries of a matrix are small, by tests that compute
abbrev small : List (List ℤ) → (i j : ℕ) → Bool
small m i j = leb (nat_abs (entry (plain m) i j)) entry_limit

abbrev row_small : List (List ℤ) → (i : ℕ) → List Bool
row_small m i = small m i 0 ∷ small m i 1 ∷ small m i 2 ∷ []

row_small_lem : (m : List (List ℤ)) (i : ℕ) → T (every (row_small m i)) → SmallRow m i
unfolding nth
row_small_lem m i t =
    record { first = leb→le _ _ (passes (row_small m i) t 0); second = leb→le _ _ (passes (row_small m i) t 1); third = leb→le _ _ (passes (row_small m i) t 2) }

pub rows_small : (m : List (List ℤ)) → T (every (row_small m 0)) → T (every (row_small m 1)) → T (every (row_small m 2)) → SmallRows m
rows_small m r g b = record { red = row_small_lem m 0 r; green = row_small_lem m 1 g; blue = row_small_lem m 2 b }
