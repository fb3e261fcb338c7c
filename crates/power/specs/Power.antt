-- A fraction compared with a power whose exponent is a fraction that is not negative, by q-th powers of whole numbers.
-- (data, so that no q-th power is ever computed.)
-- Assumes nothing.
use Rattle.std.specs.Prelude.{ℕ, ◌*◌, ◌^◌, ◌≤◌}

-- x / s is at most b ^ (m / q)
pub data Below (b q m x s : ℕ) : Type 0 where
  below : x ^ q ≤ b ^ m * s ^ q → Below b q m x s

-- x / s is at least b ^ (m / q)
pub data Above (b q m x s : ℕ) : Type 0 where
  above : b ^ m * s ^ q ≤ x ^ q → Above b q m x s
