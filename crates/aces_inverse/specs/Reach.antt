-- The ACES numbers that the inverse takes: those of the way back and of the graded road.
-- Assumes nothing.
use Rattle.std.specs.Prelude.{ℕ, ◌^◌, ℤ}
use Rattle.rules.specs.Pixels.{Small3}

-- no pixel has an ACES number beyond it
abbrev pub reach : ℕ
reach = 2 ^ 38

abbrev pub InReach : (a b c : ℤ) → Type 0
InReach a b c = Small3 reach a b c
