-- What a caller in C gets: the answer as a number and a place, and every byte of the output strip.
-- Assumes nothing.
use Rattle.std.specs.Prelude.{List, ◌≡◌, ℕ, get_or}
use Rattle.rules.specs.Result.{Result}
use Rattle.rules.specs.Strip.{Conversion, result_of, strip_after}

-- the count of records where the strip is converted, else the index of the refused record
abbrev pub place : Result ℕ → ℕ
place r = get_or r.values 0 r.index

-- the number (0 where the strip is converted), the place and the output strip are those that the rules give for the two strips
pub record Gives (c : Conversion) (input output : List ℕ) (n at : ℕ) (after : List ℕ) : Type 0 where
  pub numbered : n ≡ (result_of c input output).number
  pub placed : at ≡ place (result_of c input output)
  pub writes : after ≡ strip_after c input output
