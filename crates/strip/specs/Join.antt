-- The answer for a strip that is converted in two parts.
-- Assumes nothing.
use Rattle.std.specs.Prelude.{ℕ, ◌+◌, Err, Ok}
use Rattle.rules.specs.Refusal.{Answer, refused_at}

-- the second part's answer, its count and its index moved by the records of the first
abbrev pub moved : ℕ → Answer → Answer
moved m (Ok n) = Ok (m + n)
moved m (Err e) = refused_at e.cause (m + e.index)

-- the first part's answer where it refuses, else the second's
abbrev pub followed : Answer → Answer → Answer
followed (Ok m) second = moved m second
followed (Err e) second = Err e
