-- 02, item 5: AT CURVE 4, WIDTH 16, "encoding writes the 12-bit answer times 16".
-- Assumes nothing.
use Rattle.std.specs.Prelude.{Err, Ok}
use mathlib.Core.List.{[], ◌∷◌, map}
use mathlib.Core.Path.{◌≡◌, refl, sym, ap, ◌∙◌}
use Prim.Native.Nat.{ℕ, ◌*◌}
use lib.IntN.{ℤ}
use Rattle.rules.specs.Refusal.{Check, then}
use Rattle.rules.specs.Result.{Result, single}
use Rattle.rules.specs.Setting.{setting_check}
use Rattle.rules.specs.Encoding.{number_at, scene_check}
use Rattle.rules.proofs.Recorder.{sixteen_bits, twelve_bits, same_setting_check, answer_times_sixteen}
use Rattle.decode.specs.Decoded.{decoded}
use Rattle.decode.proofs.Recorder.{same_at_step}
use Rattle.encode.specs.Encoded.{encoded}
use Rattle.encode.specs.Answer.{encode_result}
use Rattle.encode.proofs.Codes.{number_at_lem}

-- a result with every value times 16
abbrev pub times_sixteen : Result ℕ → Result ℕ
times_sixteen r = record { number = r.number; index = r.index; values = map (λ n. 16 * n) r.values }

module _ (ei : ℕ) where
  same_number : (i : ℕ) → number_at decoded (sixteen_bits ei) i ≡ number_at decoded (twelve_bits ei) i
  same_number i =
      ap (λ (number : ℕ → ℤ). number i) (number_at_lem (sixteen_bits ei)) ∙ same_at_step ei i ∙ sym (ap (λ (number : ℕ → ℤ). number i) (number_at_lem (twelve_bits ei)))

  pub encoded_times_sixteen : (x : ℤ) → encoded (sixteen_bits ei) x ≡ 16 * encoded (twelve_bits ei) x
  encoded_times_sixteen = answer_times_sixteen ei decoded same_number

  -- of the call
  pub encode_times_sixteen : (x : ℤ) → encode_result (sixteen_bits ei) x ≡ times_sixteen (encode_result (twelve_bits ei) x)
  unfolding encode_result
  encode_times_sixteen x = rw (same_setting_check ei, encoded_times_sixteen x) (go (then (setting_check (twelve_bits ei)) (scene_check x)) (encoded (twelve_bits ei) x))
    where
      go : (c : Check) (n : ℕ) → single c (16 * n ∷ []) ≡ times_sixteen (single c (n ∷ []))
      go (Ok tt) n = refl
      go (Err why) n = refl
