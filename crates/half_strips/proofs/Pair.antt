-- 02, item 6: "Different pixels may share a half record": two that do.
-- Assumes nothing.
use Rattle.std.specs.Prelude.{Ok}
use mathlib.Core.Path.{◌≡◌, refl, ap}
use mathlib.Core.Bool.{Bool, true}
use mathlib.Core.List.{List, [], ◌∷◌}
use Prim.Native.Nat.{ℕ, zero, suc, ◌<◌}
use native.Mathlib.Omega.{arith}
use lib.Count.{count_leading_zeros}
use lib.Dec.{T, ltb, ltb→lt, lit<}
use lib.ListN.{get_or}
use Rattle.whole.proofs.Tests.{both, both_left, both_right}
use Rattle.rules.specs.Half.{half_of}
use Rattle.rules.specs.Matrix.{aces_number}
use Rattle.rules.specs.Record.{IsBytes, value, digits, bytes_of, record_of, pixel_in, pixel_size}
use Rattle.rules.specs.Setting.{setting_check, aces_check, codes_of, code_check}
use Rattle.rules.specs.Strip.{records, record_at, written}
use Rattle.curve_table.specs.Table.{log_c3_table, table_of}
use Rattle.decode.specs.Decoded.{raw_by}
use Rattle.promise.specs.Words.{HoldsPixel, Accepted}
use Rattle.half_strips.specs.Words.{ShareHalf, pair_setting, with_red}

-- ---- a test that a list is of bytes
abbrev bytes : List ℕ → Bool
bytes [] = true
bytes (x ∷ xs) = both (ltb x 256) (bytes xs)

bytes_passed : (l : List ℕ) → T (bytes l) → IsBytes l
bytes_passed [] t i = lit< tt
bytes_passed (x ∷ xs) t zero = ltb→lt x 256 (both_left (ltb x 256) (bytes xs) t)
bytes_passed (x ∷ xs) t (suc i) = bytes_passed xs (both_right (ltb x 256) (bytes xs) t) i

-- ---- such a strip is accepted where its red code passes
accepted : (red : ℕ) → T (bytes (with_red red)) → code_check pair_setting (pixel_in (with_red red)).red.0 ≡ Ok tt → Accepted (with_red red) 1
unfolding record_of bytes_of digits value setting_check aces_check codes_of
accepted red t e = record { bytes = bytes_passed (with_red red) t; long = refl; each = λ k i. at k i }
  where
    at : (k : ℕ) → k < 1 → HoldsPixel (record_at pixel_size k (with_red red))
    at zero i = record { valid = refl; pixel = record { red = e; green = refl; blue = refl } }
    at (suc k) i = absurd (omega arith)

-- ---- they differ in the lower byte of the red code
differ : with_red 1001 ≡ with_red 1002 → ⊥
unfolding record_of bytes_of digits
differ e = let d : get_or (with_red 1001) 4 0 ≡ get_or (with_red 1002) 4 0 = ap (λ (l : List ℕ). get_or l 4 0) e in omega arith

-- TWO PIXELS THAT SHARE A HALF RECORD
pub pixels_share_half : ShareHalf (with_red 1001) (with_red 1002)
unfolding records written record_of bytes_of digits value aces_number raw_by table_of log_c3_table codes_of half_of count_leading_zeros
pixels_share_half = record { first_accepted = accepted 1001 tt refl; second_accepted = accepted 1002 tt refl; differ = differ; same_half = refl }
