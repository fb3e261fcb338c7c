-- What encoding one scene number gives.
-- Assumes nothing.
use Rattle.std.specs.Prelude.{[], ◌∷◌, ℕ, ℤ}
use Rattle.rules.specs.declared.Code.{Code}
use Rattle.rules.specs.declared.Setting.{Setting}
use Rattle.rules.specs.Refusal.{OrRefusal}
use Rattle.rules.specs.Result.{Result, answered}
use Rattle.rules.specs.Calls.{encode_by, EncodesBy}
use Rattle.decode.specs.Decoded.{decoded}

-- the number and the values of an answer
abbrev pub encoding_result : OrRefusal Code → Result ℕ
encoding_result = answered (λ (n : Code). n.0 ∷ [])

-- the code, or the refusal of the first check that fails: 3, 4, 5, then 7
unfoldable pub encode_result : Setting → ℤ → Result ℕ
encode_result = encode_by decoded

-- what 01 asks of the code of a scene number
abbrev pub Encodes : Setting → ℤ → ℕ → Type 0
Encodes = EncodesBy decoded
