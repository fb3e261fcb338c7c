-- Every valid setting passes the tests of the thirds.
-- Assumes nothing.
use mathlib.Core.Bool.{Bool}
use lib.Dec.{T}
use Rattle.rules.specs.declared.Setting.{Setting}
use Rattle.rules.specs.Setting.{codes_of, Valid}
use Rattle.rules.specs.Exact.{scale_of}
use Rattle.rules.proofs.Settings.{for_settings, for_valid}
use Rattle.curves.specs.LogC.{row_of}
use Rattle.curve_table.specs.Table.{log_c2_table, log_c3_table, log_c4_table, table_of}
use Rattle.decode.specs.Decoded.{raw_by}
use Rattle.whole.proofs.Tests.{every}
use Rattle.decode.proofs.Settings.{source_of}
use Rattle.encode.proofs.ThirdTests.{third_tests, Thirds, thirds_tested}

abbrev test : Setting → Bool
test s = every (third_tests (scale_of s) (table_of s) (source_of s))

-- computed for all the settings
all_pass : T (for_settings (λ c w e. test (record { curve = c; width = w; ei = e })))
unfolding table_of log_c2_table log_c3_table log_c4_table raw_by row_of codes_of
all_pass = tt

pub thirds_passed : (s : Setting) → Valid s → Thirds (scale_of s) (table_of s) (source_of s)
thirds_passed s v =
    thirds_tested (scale_of s) (table_of s) (source_of s)
    (for_valid (λ c w e. test (record { curve = c; width = w; ei = e })) all_pass s v)
