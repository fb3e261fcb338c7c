-- The table of a setting: 128 numbers, from which the power part of the curve is computed. A step i is cut into three digits,
-- i / 1024, i / 32 % 32 and i % 32, and its power is the product of their entries, at 0, at 64 and at 96.
-- Assumes nothing.
use Rattle.std.specs.Prelude.{List, [], ◌∷◌, ◌++◌, ℕ, zero, suc, ◌+◌, ◌-◌, ◌*◌, ◌/◌, ◌^◌, eqb}
use Rattle.rules.specs.Choice.{choose}
use Rattle.rules.specs.declared.Setting.{Setting}
use Rattle.rules.specs.declared.CurveName.{CurveName}
use Rattle.rules.specs.declared.CurveName.TheVariants.{LogC2, LogC3, LogC4, Unknown}
use Rattle.rules.specs.Curve.{Curve, log_c4, log_c, Row, log_c2_rows, log_c3_rows, base, factor}
use Rattle.rules.specs.Setting.{named, top_of, legal_codes, codes_at}
use Rattle.curves.specs.LogC.{row_of}
use Rattle.power.specs.Progression.{square_down, progression}
use Rattle.curve_table.specs.Seeds.{At, at, Seed, seed, log_c4_seed, log_c2_seeds, log_c3_seeds}

-- what a list has for a number, else a default
abbrev pub value_at : {A : Type 0} → A → (number : ℕ) → List (At A) → A
value_at default number [] = default
value_at default number (x ∷ xs) = choose (eqb number x.number) x.value (value_at default number xs)

-- how many entries the first digit has
abbrev pub first_digits : (last : ℕ) → ℕ
first_digits last = last / 1024 + 1

-- the middle digit's entries stand at the scale 2 ^ 63 over this, so that each fits a word; the first digit's entries make up for it
abbrev pub shift_of : (last : ℕ) → ℕ
shift_of last = value_at 1 last (at (top_of 10) (2 ^ 13) ∷ at (top_of 12) (2 ^ 3) ∷ at (top_of 16) 1 ∷ at legal_codes.last (2 ^ 4) ∷ [])

abbrev pub ratio_of : (last : ℕ) → Seed → ℕ
ratio_of last s = value_at 0 last s.ratios

-- every exponent is made positive by adding this
abbrev pub lift : ℕ
lift = 2

abbrev pub zeros : ℕ → List ℕ
zeros zero = []
zeros (suc k) = 0 ∷ zeros k

-- of a setting that is not valid
abbrev pub no_table : List ℕ
no_table = zeros 128

-- the scale of the seeds
abbrev pub fine : ℕ
fine = 2 ^ 128

abbrev pub table_by : (c : Curve) (s : Seed) (ratio count shift : ℕ) → List ℕ
table_by c s ratio count shift =
    progression count fine (base c ^ s.front * s.first) (square_down fine 10 ratio) (4 * (shift * (2 ^ 51 * (factor c).plus))) ((factor c).over * base c ^ lift)
    ++ (zeros (64 - count)
    ++ (progression 32 fine fine (square_down fine 5 ratio) (2 ^ 63 / shift) 1
    ++ progression 32 fine fine ratio (2 ^ 63) 1))

-- of a curve's last step
abbrev pub table_with : (c : Curve) (s : Seed) (last : ℕ) → List ℕ
table_with c s last = table_by c s (ratio_of last s) (first_digits last) (shift_of last)

-- of a row of constants and the seed of the same row
abbrev pub table_in : (last row : ℕ) → List Row → List Seed → List ℕ
table_in last n [] ss = no_table
table_in last n (r ∷ rs) [] = no_table
table_in last zero (r ∷ rs) (s ∷ ss) = table_with (log_c r.numbers) s last
table_in last (suc n) (r ∷ rs) (s ∷ ss) = table_in last n rs ss

-- of a width: that of its last step. (At curve 4, widths 12 and 16 have one.)
unfoldable pub log_c2_table : (width row : ℕ) → List ℕ
log_c2_table width row = table_in (codes_at LogC2 width).last row log_c2_rows log_c2_seeds

unfoldable pub log_c3_table : (width row : ℕ) → List ℕ
log_c3_table width row = table_in (codes_at LogC3 width).last row log_c3_rows log_c3_seeds

abbrev log_c4_at : (width : ℕ) → List ℕ
log_c4_at width = table_with log_c4 log_c4_seed (codes_at LogC4 width).last

unfoldable pub log_c4_table : (width : ℕ) → List ℕ
log_c4_table width = value_at no_table width (at 12 (log_c4_at 12) ∷ at 16 (log_c4_at 16) ∷ at 140 (log_c4_at 140) ∷ [])

abbrev table_for : CurveName → (width ei : ℕ) → List ℕ
table_for LogC2 width ei = value_at no_table width (at 10 (log_c2_table 10 (row_of ei)) ∷ at 12 (log_c2_table 12 (row_of ei)) ∷ [])
table_for LogC3 width ei =
    value_at no_table width (at 10 (log_c3_table 10 (row_of ei)) ∷ at 12 (log_c3_table 12 (row_of ei)) ∷ at 16 (log_c3_table 16 (row_of ei)) ∷ [])
table_for LogC4 width ei = log_c4_table width
table_for Unknown width ei = no_table

unfoldable pub table_of : Setting → List ℕ
table_of s = table_for (named s.curve) s.width s.ei

-- ---- the seed that a setting's table was computed from
abbrev pub no_seed : Seed
no_seed = seed 0 0 []

abbrev pub seed_in : (row : ℕ) → List Seed → Seed
seed_in n [] = no_seed
seed_in zero (s ∷ ss) = s
seed_in (suc n) (s ∷ ss) = seed_in n ss

abbrev seed_for : CurveName → (ei : ℕ) → Seed
seed_for LogC2 ei = seed_in (row_of ei) log_c2_seeds
seed_for LogC3 ei = seed_in (row_of ei) log_c3_seeds
seed_for LogC4 ei = log_c4_seed
seed_for Unknown ei = no_seed

abbrev pub seed_of : Setting → Seed
seed_of s = seed_for (named s.curve) s.ei
