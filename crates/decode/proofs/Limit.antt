-- The number of the last step is at most 2 ^ 33, so a decoded number may be encoded again: it passes the check of a scene number.
-- Assumes nothing.
use Rattle.std.specs.Prelude.{Ok}
use mathlib.Core.Bool.{Bool, true, false}
use mathlib.Core.Path.{◌≡◌, refl, subst}
use Prim.Native.Nat.{ℕ, ◌^◌, ◌≤◌}
use native.Mathlib.Nat.{le_trans, le_of_lt, le_antisymm, le_refl}
use native.Mathlib.Omega.{arith}
use borrow.Author.Tests.{ltb-true, ltb-false}
use lib.Dec.{T, ltb, leb, leb→le}
use lib.IntN.{nat_abs, sub_ℕ}
use Rattle.whole.proofs.Reflect.{abs_is, one_zero, sub_dif}
use Rattle.rules.specs.declared.Setting.{Setting}
use Rattle.rules.specs.Setting.{last_of, step_of, codes_of, code_check, Valid}
use Rattle.rules.specs.Encoding.{scene_check}
use Rattle.rules.proofs.Settings.{for_settings, for_valid}
use Rattle.rules.proofs.Between.{scene_passes}
use Rattle.rules.proofs.Codes.{code_passed}
use Rattle.curves.specs.LogC.{row_of}
use Rattle.curve_table.specs.Table.{table_of, log_c2_table, log_c3_table, log_c4_table}
use Rattle.decode.specs.Decoded.{offset, raw_by, raw, decoded}
use Rattle.decode.proofs.Theorems.{raw_rises}

-- computed for all the settings
abbrev test : Setting → Bool
test s = leb (raw s (last_of s)) (2 ^ 33)

all_limited : T (for_settings (λ c w e. test (record { curve = c; width = w; ei = e })))
unfolding table_of log_c2_table log_c3_table log_c4_table raw_by row_of codes_of
all_limited = tt

last_limited : (s : Setting) → Valid s → raw s (last_of s) ≤ 2 ^ 33
last_limited s v = leb→le (raw s (last_of s)) (2 ^ 33) (for_valid (λ c w e. test (record { curve = c; width = w; ei = e })) all_limited s v)

pub raw_limited : (s : Setting) → Valid s → (i : ℕ) → i ≤ last_of s → raw s i ≤ 2 ^ 33
raw_limited s v i h = go (ltb i (last_of s)) refl
  where
    go : (x : Bool) → ltb i (last_of s) ≡ x → raw s i ≤ 2 ^ 33
    go true e = le_trans (le_of_lt (raw_rises s v i (last_of s) (ltb-true _ _ e) (le_refl _))) (last_limited s v)
    go false e = subst (λ (m : ℕ). raw s m ≤ 2 ^ 33) (le_antisymm (ltb-false _ _ e) h) (last_limited s v)

within : (u : ℕ) → u ≤ 2 ^ 33 → nat_abs (sub_ℕ u offset) ≤ 2 ^ 40
within u h = omega (arith, sub_dif u offset, abs_is (sub_ℕ u offset), one_zero (sub_ℕ u offset))

pub decoded_passes : (s : Setting) → Valid s → (n : ℕ) → code_check s n ≡ Ok tt → scene_check (decoded s n) ≡ Ok tt
decoded_passes s v n e = scene_passes (decoded s n) (within (raw s (step_of s n)) (raw_limited s v (step_of s n) (code_passed s n e)))
