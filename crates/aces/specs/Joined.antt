-- Sums of three digits to the base 10 ^ 6, joined.
-- Assumes nothing.
use Rattle.std.specs.Prelude.{ℤ, pos, ◌+ℤ◌, ◌*ℤ◌}

abbrev pub joined : (h m l : ℤ) → ℤ
joined h m l = pos 1000000 *ℤ (pos 1000000 *ℤ h +ℤ m) +ℤ l
