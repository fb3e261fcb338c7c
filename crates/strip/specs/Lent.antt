-- What is lent to a conversion of strips is bytes.
-- Assumes nothing.
use Rattle.std.specs.Prelude.{List, ℕ}
use Rattle.rules.specs.Record.{IsBytes}

-- the two strips, and the output as it is given back
pub record LentBytes (input output after : List ℕ) : Type 0 where
  pub input_bytes : IsBytes input
  pub output_bytes : IsBytes output
  pub after_bytes : IsBytes after
