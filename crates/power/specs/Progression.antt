-- Squares and geometric progressions at a scale s (the number x stands for x / s), each step rounded.
-- Assumes nothing.
use Rattle.std.specs.Prelude.{List, [], ◌∷◌, ℕ, zero, suc, ◌+◌, ◌*◌, ◌/◌}

-- squared n times, rounded down at each
abbrev pub square_down : (s n x : ℕ) → ℕ
square_down s zero x = x
square_down s (suc n) x = square_down s n (x * x / s)

-- and rounded up
abbrev pub square_up : (s n x : ℕ) → ℕ
square_up s zero x = x
square_up s (suc n) x = square_up s n (x * x / s + 1)

-- count entries: first, first * ratio, first * ratio ^ 2, .., each from the scale s to the scale t / c
abbrev pub progression : (count s first ratio t c : ℕ) → List ℕ
progression zero s first ratio t c = []
progression (suc count) s first ratio t c = first * t / (c * s) ∷ progression count s (first * ratio / s) ratio t c
