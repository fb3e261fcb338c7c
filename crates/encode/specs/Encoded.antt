-- The code of a scene number, for a setting.
-- Assumes nothing.
use Rattle.std.specs.Prelude.{ℕ, ℤ}
use Rattle.rules.specs.declared.Setting.{Setting}
use Rattle.rules.specs.Encoding.{code_by, step_by}
use Rattle.decode.specs.Decoded.{decoded}

-- "the code whose decoded number is nearest; of two equally near, the lower", and its step
abbrev pub encoded : Setting → ℤ → ℕ
encoded = code_by decoded

abbrev pub encoded_step : Setting → ℤ → ℕ
encoded_step = step_by decoded
