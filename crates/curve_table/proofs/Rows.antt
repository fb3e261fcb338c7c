-- The tables of a curve with a toe at a width, in the order of the rows of its constants.
-- Assumes nothing.
use mathlib.Core.List.{List, [], ◌∷◌}
use mathlib.Core.Path.{◌≡◌, refl}
use Prim.Native.Nat.{ℕ, zero, suc, ◌≤◌}
use native.Mathlib.Omega.{arith}
use lib.ListN.{length, get_or}
use Rattle.rules.specs.Curve.{Row, log_c, log_c2_rows, log_c3_rows}
use Rattle.rules.specs.Setting.{codes_at}
use Rattle.rules.specs.declared.CurveName.TheVariants.{LogC2, LogC3}
use Rattle.curve_table.specs.Seeds.{Seed, log_c2_seeds, log_c3_seeds}
use Rattle.curve_table.specs.Table.{no_table, table_with, table_in, log_c2_table, log_c3_table}

abbrev tables : (last : ℕ) → List Row → List Seed → List (List ℕ)
tables last [] ss = []
tables last (r ∷ rs) [] = []
tables last (r ∷ rs) (s ∷ ss) = table_with (log_c r.numbers) s last ∷ tables last rs ss

at_row : (last row : ℕ) (rs : List Row) (ss : List Seed) → get_or (tables last rs ss) row no_table ≡ table_in last row rs ss
at_row last row [] ss = refl
at_row last row (r ∷ rs) [] = refl
at_row last zero (r ∷ rs) (s ∷ ss) = refl
at_row last (suc row) (r ∷ rs) (s ∷ ss) = at_row last row rs ss

-- past the last row there is none
pub no_row : (last row : ℕ) (rs : List Row) (ss : List Seed) → length rs ≤ row → no_table ≡ table_in last row rs ss
no_row last row [] ss h = refl
no_row last row (r ∷ rs) [] h = refl
no_row last zero (r ∷ rs) (s ∷ ss) h = absurd (omega arith)
no_row last (suc row) (r ∷ rs) (s ∷ ss) h = no_row last row rs ss (omega arith)

pub log_c2_row : (width row : ℕ) → get_or (tables (codes_at LogC2 width).last log_c2_rows log_c2_seeds) row no_table ≡ log_c2_table width row
unfolding log_c2_table
log_c2_row width row = at_row (codes_at LogC2 width).last row log_c2_rows log_c2_seeds

pub log_c3_row : (width row : ℕ) → get_or (tables (codes_at LogC3 width).last log_c3_rows log_c3_seeds) row no_table ≡ log_c3_table width row
unfolding log_c3_table
log_c3_row width row = at_row (codes_at LogC3 width).last row log_c3_rows log_c3_seeds
