-- The set of laws by which the ones and zeros that fractions bring are dropped.
-- Assumes nothing.
use native.Mathlib.Nat.{mul-one, one-mul, mul-zero, zero-mul, zero-add, add-zero, sub-zero}

pub ruleset tidy = (mul-one, one-mul, mul-zero, zero-mul, zero-add, add-zero, sub-zero)
