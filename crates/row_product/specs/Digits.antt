-- The digits of an entry: it is its upper part times the base and its lower digit. Both have the sign of the entry.
-- Assumes nothing.
use Rattle.std.specs.Prelude.{ℕ, ℤ, pos, ◌-ℤ◌, ◌*ℤ◌}
use Rattle.std.specs.Int.Signed.{quot_z}

abbrev pub upper : (base : ℕ) → ℤ → ℤ
upper base c = quot_z c (pos base)

abbrev pub lower : (base : ℕ) → ℤ → ℤ
lower base c = c -ℤ pos base *ℤ upper base c
