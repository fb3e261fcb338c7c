-- How far from ACES numbers three numbers may be, so that the inverse leads to near the scene numbers.
-- Assumes nothing.
use Rattle.std.specs.Prelude.{ℕ}

-- in units; a row of an inverse weighs up to 2.032, so numbers e away lead to less than 1/2 + 2.032 (e + 1/2) + 1/50 from the scene numbers:
-- up to here that is less than 2 e + 2
abbrev pub farthest : ℕ
farthest = 14
