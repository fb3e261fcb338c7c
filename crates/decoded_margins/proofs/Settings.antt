-- The margins of every step of every valid setting, computed. Several declarations, since what antt keeps while it computes one is free for
-- the next: all in one took 1.5 GB.
-- Assumes nothing.
use mathlib.Core.Bool.{Bool, true, false}
use mathlib.Core.List.{List, [], ◌∷◌}
use Prim.Native.Nat.{ℕ, zero, suc}
use lib.Dec.{T}
use lib.ListN.{take, drop}
use Rattle.rules.specs.Choice.{choose}
use Rattle.rules.specs.declared.Setting.{Setting}
use Rattle.rules.specs.declared.CurveName.TheVariants.{LogC2, LogC3, LogC4}
use Rattle.rules.specs.Setting.{named, widths_of, eis_of, codes_of, Valid}
use Rattle.rules.specs.Exact.{scale_of}
use Rattle.curves.specs.LogC.{row_of}
use Rattle.rules.proofs.Settings.{curves, for_all, for_settings, for_valid, first, others}
use Rattle.curve_table.specs.Table.{log_c2_table, log_c3_table, log_c4_table, table_of}
use Rattle.decoded_margins.proofs.Margins.{margin_test}

-- ---- a test of a list from tests of its parts
join : (x y : Bool) → T x → T y → T (choose x y false)
join true y h g = g
join false y h g = h

-- of each number
abbrev Each : List ℕ → (ℕ → Bool) → Type 0
Each [] p = Unit {0}
Each (n ∷ ns) p = T (p n) × Each ns p

each : (ns : List ℕ) (p : ℕ → Bool) → Each ns p → T (for_all ns p)
each [] p h = tt
each (n ∷ ns) p h = join (p n) (for_all ns p) h.0 (each ns p h.1)

-- of the first k numbers and of the others
parts : (k : ℕ) (ns : List ℕ) (p : ℕ → Bool) → T (for_all (take k ns) p) → T (for_all (drop k ns) p) → T (for_all ns p)
parts zero ns p h g = g
parts (suc k) [] p h g = g
parts (suc k) (n ∷ ns) p h g = join (p n) (for_all ns p) (first (p n) (for_all (take k ns) p) h) (parts k ns p (others (p n) (for_all (take k ns) p) h) g)

-- ---- of a setting. It is no abbreviation, so that what is computed once is not computed again where the parts are joined.
test : (curve width ei : ℕ) → Bool
test c w e = margin_test (scale_of (record { curve = c; width = w; ei = e })) (table_of (record { curve = c; width = w; ei = e }))

-- ---- computed
c2_w10 : T (for_all (eis_of LogC2) (λ e. test 2 10 e))
unfolding test table_of log_c2_table row_of codes_of
c2_w10 = tt

c2_w12 : T (for_all (eis_of LogC2) (λ e. test 2 12 e))
unfolding test table_of log_c2_table row_of codes_of
c2_w12 = tt

c3_w10 : T (for_all (eis_of LogC3) (λ e. test 3 10 e))
unfolding test table_of log_c3_table row_of codes_of
c3_w10 = tt

c3_w12 : T (for_all (eis_of LogC3) (λ e. test 3 12 e))
unfolding test table_of log_c3_table row_of codes_of
c3_w12 = tt

-- the first three EI values, the next three, ..
c3_w16_first : T (for_all (take 3 (eis_of LogC3)) (λ e. test 3 16 e))
unfolding test table_of log_c3_table row_of codes_of
c3_w16_first = tt

c3_w16_second : T (for_all (take 3 (drop 3 (eis_of LogC3))) (λ e. test 3 16 e))
unfolding test table_of log_c3_table row_of codes_of
c3_w16_second = tt

c3_w16_third : T (for_all (take 3 (drop 6 (eis_of LogC3))) (λ e. test 3 16 e))
unfolding test table_of log_c3_table row_of codes_of
c3_w16_third = tt

c3_w16_last : T (for_all (drop 9 (eis_of LogC3)) (λ e. test 3 16 e))
unfolding test table_of log_c3_table row_of codes_of
c3_w16_last = tt

c4 : T (for_all (widths_of LogC4) (λ w. for_all (eis_of LogC4) (λ e. test 4 w e)))
unfolding test table_of log_c4_table codes_of
c4 = tt

-- ---- all of them
c3_w16 : T (for_all (eis_of LogC3) (λ e. test 3 16 e))
c3_w16 =
    parts 3 (eis_of LogC3) (λ e. test 3 16 e) c3_w16_first
    (parts 3 (drop 3 (eis_of LogC3)) (λ e. test 3 16 e) c3_w16_second (parts 3 (drop 6 (eis_of LogC3)) (λ e. test 3 16 e) c3_w16_third c3_w16_last))

all_clear : T (for_settings test)
all_clear =
    each curves (λ c. for_all (widths_of (named c)) (λ w. for_all (eis_of (named c)) (λ e. test c w e)))
    (each (widths_of LogC2) (λ w. for_all (eis_of LogC2) (λ e. test 2 w e)) (c2_w10, (c2_w12, tt)), (each (widths_of LogC3) (λ w. for_all (eis_of LogC3) (λ e. test 3 w e)) (c3_w10, (c3_w12, (c3_w16, tt))), (c4, tt)))

pub margins : (s : Setting) → Valid s → T (margin_test (scale_of s) (table_of s))
unfolding test
margins s v = for_valid test all_clear s v
