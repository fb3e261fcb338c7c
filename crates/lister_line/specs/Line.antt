-- How long a line is at most.
-- Assumes nothing.
use Rattle.std.specs.Prelude.{ℕ}

-- no line is longer than 66 bytes, and no tail's than 7
abbrev pub longest : ℕ
longest = 66

abbrev pub longest_tail : ℕ
longest_tail = 7
