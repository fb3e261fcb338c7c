-- Row products in words: what the entries, the numbers and the sums are at most, and the three products.
-- Assumes nothing.
use Rattle.std.specs.Prelude.{List, ◌≡◌, ℕ, ◌^◌, ◌≤◌, ℤ, nat_abs}
use Rattle.rules.specs.Matrix.{Matrix, entry, row_product}

-- an array of entries over a scale, and with no scale
abbrev pub over : ℕ → List (List ℤ) → Matrix
over s m = record { rows = m; scale = s }

abbrev pub plain : List (List ℤ) → Matrix
plain m = over 1 m

-- what the numbers and the sums are at most
pub record Number (x : ℤ) : Type 0 where
  pub small : nat_abs x ≤ 2 ^ 38

pub record Sum (p : ℤ) : Type 0 where
  pub small : nat_abs p ≤ 1750000000000000000

-- the entries that a sum may have
abbrev pub entry_limit : ℕ
entry_limit = 2100000

pub record SmallRow (m : List (List ℤ)) (i : ℕ) : Type 0 where
  pub first : nat_abs (entry (plain m) i 0) ≤ entry_limit
  pub second : nat_abs (entry (plain m) i 1) ≤ entry_limit
  pub third : nat_abs (entry (plain m) i 2) ≤ entry_limit

pub record SmallRows (m : List (List ℤ)) : Type 0 where
  pub red : SmallRow m 0
  pub green : SmallRow m 1
  pub blue : SmallRow m 2

-- the three row products
pub record IsProducts (m : List (List ℤ)) (x y z p q r : ℤ) : Type 0 where
  pub red_is : p ≡ row_product (plain m) 0 x y z
  pub green_is : q ≡ row_product (plain m) 1 x y z
  pub blue_is : r ≡ row_product (plain m) 2 x y z
