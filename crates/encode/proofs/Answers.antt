-- What encoding one scene number gives is the code that 01 asks.
-- Assumes nothing.
use mathlib.Core.List.{[], ◌∷◌}
use mathlib.Core.Path.{refl}
use lib.IntN.{ℤ}
use Rattle.rules.specs.declared.Setting.{Setting}
use Rattle.rules.specs.Refusal.{then}
use Rattle.rules.specs.Result.{Each}
use Rattle.rules.specs.Setting.{setting_check, Valid}
use Rattle.rules.specs.Encoding.{scene_check}
use Rattle.rules.proofs.Results.{each_single}
use Rattle.rules.proofs.Settings.{both}
use Rattle.encode.specs.Encoded.{encoded, encoded_step}
use Rattle.encode.specs.Answer.{encode_result, Encodes}
use Rattle.encode.proofs.Theorems.{encoded_nearest, encoded_two_thirds}

-- THE CODE OF A SCENE NUMBER is what 01 asks
pub code_encodes : (s : Setting) → Valid s → (x : ℤ) → Encodes s x (encoded s x)
code_encodes s v x = record { step = encoded_step s x; code = refl; nearest = encoded_nearest s x; two_thirds = encoded_two_thirds s v x }

-- so is that of a call
pub result_encodes : (s : Setting) (x : ℤ) → Each (Encodes s x) (encode_result s x).values
unfolding encode_result
result_encodes s x =
    each_single (Encodes s x) (then (setting_check s) (scene_check x)) (encoded s x ∷ [])
    (λ e. let b = both (setting_check s) (scene_check x) e in (code_encodes s b.0 x, tt))
