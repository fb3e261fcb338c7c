-- What decoding one code gives.
-- Assumes nothing.
use Rattle.std.specs.Prelude.{[], ◌∷◌, ℕ, ℤ}
use Rattle.rules.specs.declared.Scene.{Scene}
use Rattle.rules.specs.declared.Setting.{Setting}
use Rattle.rules.specs.Refusal.{OrRefusal}
use Rattle.rules.specs.Result.{Result, answered}
use Rattle.rules.specs.Calls.{decode_by}
use Rattle.decode.specs.Decoded.{decoded}

-- the number and the values of an answer
abbrev pub decoding_result : OrRefusal Scene → Result ℤ
decoding_result = answered (λ (y : Scene). y.0 ∷ [])

-- the decoded number, or the refusal of the first check that fails: 3, 4, 5, then 13, 11 and 6
unfoldable pub decode_result : Setting → ℕ → Result ℤ
decode_result = decode_by decoded
