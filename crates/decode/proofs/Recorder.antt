-- 02, item 5: A CODE OF CURVE 4 AT WIDTH 16 and the 12-bit code that it is 16 times have one decoded number.
-- Assumes nothing.
use mathlib.Core.List.{List, [], ◌∷◌}
use mathlib.Core.Path.{◌≡◌, refl, ap, ap₂, ◌∙◌}
use Prim.Native.Nat.{ℕ, ◌*◌, ◌/◌}
use native.Mathlib.Nat.{mul-div_cancel_left}
use lib.Dec.{lit<}
use lib.IntN.{ℤ}
use Rattle.rules.specs.Refusal.{Check, then}
use Rattle.rules.specs.Result.{single}
use Rattle.rules.specs.Setting.{step_of}
use Rattle.rules.specs.Exact.{Scale}
use Rattle.rules.proofs.Recorder.{sixteen_bits, twelve_bits, same_setting_check, same_scale, over_sixteen, check_times_sixteen}
use Rattle.curve_table.specs.Table.{table_of, log_c4_table}
use Rattle.decode.specs.Decoded.{decoder_of, decoded_by, decoded_at, decoded}
use Rattle.decode.specs.Answer.{decode_result}

module _ (ei : ℕ) where
  same_table : table_of (sixteen_bits ei) ≡ table_of (twelve_bits ei)
  unfolding table_of log_c4_table
  same_table = refl

  pub same_at_step : (i : ℕ) → decoded_at (sixteen_bits ei) i ≡ decoded_at (twelve_bits ei) i
  same_at_step i = ap₂ (λ (k : Scale) (t : List ℕ). decoded_by (decoder_of k) t i) (same_scale ei) same_table

  -- "the code over 16 is read as a 12-bit code"
  pub decoded_over_sixteen : (n : ℕ) → decoded (sixteen_bits ei) n ≡ decoded (twelve_bits ei) (n / 16)
  decoded_over_sixteen n = same_at_step (step_of (sixteen_bits ei) n) ∙ ap (decoded_at (twelve_bits ei)) (over_sixteen ei n)

  pub decoded_times_sixteen : (n : ℕ) → decoded (sixteen_bits ei) (16 * n) ≡ decoded (twelve_bits ei) n
  decoded_times_sixteen n = decoded_over_sixteen (16 * n) ∙ ap (decoded (twelve_bits ei)) (mul-div_cancel_left n (lit< tt))

  -- of the call: the same number, or the same refusal
  pub decode_times_sixteen : (n : ℕ) → decode_result (sixteen_bits ei) (16 * n) ≡ decode_result (twelve_bits ei) n
  unfolding decode_result
  decode_times_sixteen n = ap₂ (λ (x : Check) (y : ℤ). single x (y ∷ [])) (ap₂ then (same_setting_check ei) (check_times_sixteen ei n)) (decoded_times_sixteen n)
