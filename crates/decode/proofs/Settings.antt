-- Every valid setting passes the tests.
-- Assumes nothing.
use mathlib.Core.Bool.{Bool}
use lib.Dec.{T}
use Rattle.rules.specs.declared.Setting.{Setting}
use Rattle.rules.specs.Setting.{codes_of, last_of, Valid}
use Rattle.rules.specs.Exact.{scale_of}
use Rattle.rules.proofs.Settings.{for_settings, for_valid}
use Rattle.curves.specs.LogC.{row_of}
use Rattle.curve_table.specs.Table.{seed_of, ratio_of, shift_of, log_c2_table, log_c3_table, log_c4_table, table_of}
use Rattle.decode.specs.Gap.{gap_of}
use Rattle.decode.specs.Decoded.{raw_by}
use Rattle.whole.proofs.Tests.{every}
use Rattle.decode.proofs.Tests.{Source, tests, Tested, tested}

abbrev pub source_of : Setting → Source
source_of s = record { front = (seed_of s).front; first = (seed_of s).first; ratio = ratio_of (last_of s) (seed_of s); shift = shift_of (last_of s) }

abbrev test : Setting → Bool
test s = every (tests (scale_of s) (gap_of s) (table_of s) (source_of s))

-- computed for all the settings
all_pass : T (for_settings (λ c w e. test (record { curve = c; width = w; ei = e })))
unfolding table_of log_c2_table log_c3_table log_c4_table raw_by row_of codes_of
all_pass = tt

pub passed : (s : Setting) → Valid s → Tested (scale_of s) (gap_of s) (table_of s) (source_of s)
passed s v =
    tested (scale_of s) (gap_of s) (table_of s) (source_of s)
    (for_valid (λ c w e. test (record { curve = c; width = w; ei = e })) all_pass s v)
