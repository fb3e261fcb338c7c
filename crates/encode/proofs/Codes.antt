-- Of a valid setting: its numbers may be searched, and what lies between the midpoints of a step has that step, and its code.
-- Assumes nothing.
use Rattle.std.specs.Prelude.{Ok}
use mathlib.Core.Path.{◌≡◌, sym, ap, ◌∙◌}
use Prim.Native.Nat.{ℕ, ◌^◌, ◌≤◌}
use native.Mathlib.Omega.{arith}
use lib.IntN.{ℤ}
use Rattle.whole.specs.Parts.{up, dn}
use Rattle.whole.proofs.Reflect.{abs_is}
use Rattle.rules.specs.declared.Setting.{Setting}
use Rattle.rules.specs.Setting.{last_of, code_at, Valid}
use Rattle.rules.specs.Exact.{scale_of}
use Rattle.rules.specs.Encoding.{number_at, closest, scene_check}
use Rattle.rules.proofs.Between.{scene_small}
use Rattle.rules.proofs.Closest.{closest_is_nearest, nearest_only}
use Rattle.rules.proofs.Codes.{step_of_code, last_small}
use Rattle.curve_table.specs.Table.{table_of}
use Rattle.decode.specs.Decoded.{decoder_of, raw, decoded_at, decoded}
use Rattle.decode.specs.Gap.{gap_of}
use Rattle.decode.proofs.Fit.{fits}
use Rattle.decode.proofs.Theorems.{raw_rises, raw_apart}
use Rattle.encode.specs.Encoded.{encoded, encoded_step}
use Rattle.nearest_code.specs.Search.{Rising}
use Rattle.encode.proofs.Midpoints.{Within, within_nearest}

-- a scene number that passes
pub scene_passed : (x : ℤ) → scene_check x ≡ Ok tt → (up x ≤ 2 ^ 40) × (dn x ≤ 2 ^ 40)
scene_passed x e = (omega (arith, abs_is x, scene_small x e), omega (arith, abs_is x, scene_small x e))

-- the number of a step, by its code
pub number_at_lem : (s : Setting) → number_at decoded s ≡ decoded_at s
number_at_lem s = λ j i. decoded_at s (step_of_code s i j)

pub step_by : (s : Setting) (x : ℤ) → encoded_step s x ≡ closest (decoded_at s) x (last_of s)
step_by s x = ap (λ (number : ℕ → ℤ). closest number x (last_of s)) (number_at_lem s)

module _ (s : Setting) (v : Valid s) where
  pub rising : Rising (decoder_of (scale_of s)) (table_of s) (last_of s) (gap_of s)
  rising = record { small = last_small s; fits = fits s v; rises = raw_rises s v; apart = raw_apart s v }

  pub step_is : (x : ℤ) (n : ℕ) → Within (raw s) (last_of s) x n → n ≡ encoded_step s x
  step_is x n i =
      nearest_only (decoded_at s) x (last_of s) n (closest (decoded_at s) x (last_of s)) (within_nearest (raw s) (last_of s) (raw_rises s v) x n i) (closest_is_nearest (decoded_at s) x (last_of s))
      ∙ sym (step_by s x)

  pub code_is : (x : ℤ) (n : ℕ) → Within (raw s) (last_of s) x n → code_at s n ≡ encoded s x
  code_is x n i = ap (code_at s) (step_is x n i)
