-- Records that a conversion writes something for.
-- Assumes nothing.
use Rattle.std.specs.Prelude.{Ok}
use mathlib.Core.Path.{◌≡◌}
use mathlib.Core.List.{List}
use Prim.Native.Nat.{ℕ}
use lib.ListN.{length}
use Rattle.rules.specs.Record.{IsBytes}
use Rattle.rules.specs.Strip.{Conversion, record_check}

-- a record that is whole and not refused
pub record Good (c : Conversion) (r : List ℕ) : Type 0 where
  pub long : length r ≡ c.from
  pub bytes : IsBytes r
  pub passes : record_check c r ≡ Ok tt
