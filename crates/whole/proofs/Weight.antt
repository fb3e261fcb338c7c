-- The weight of three integers: their sum without their signs.
-- Assumes nothing.
use Prim.Native.Nat.{ℕ, ◌+◌}
use lib.IntN.{ℤ, nat_abs}

abbrev pub weight : ℤ → ℤ → ℤ → ℕ
weight x y z = nat_abs x + nat_abs y + nat_abs z
