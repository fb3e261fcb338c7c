-- What decoding one code gives is a decoded number in the rules' sense.
-- Assumes nothing.
use mathlib.Core.List.{[], ◌∷◌}
use Prim.Native.Nat.{ℕ}
use Rattle.rules.specs.declared.Setting.{Setting}
use Rattle.rules.specs.Decoding.{DecodesCode}
use Rattle.rules.specs.Refusal.{then}
use Rattle.rules.specs.Result.{Each}
use Rattle.rules.specs.Setting.{setting_check, code_check}
use Rattle.rules.proofs.Results.{each_single}
use Rattle.rules.proofs.Settings.{both}
use Rattle.decode.specs.Decoded.{decoded}
use Rattle.decode.specs.Answer.{decode_result}
use Rattle.decode.proofs.Theorems.{decoding}

pub result_decodes : (s : Setting) (n : ℕ) → Each (DecodesCode s n) (decode_result s n).values
unfolding decode_result
result_decodes s n =
    each_single (DecodesCode s n) (then (setting_check s) (code_check s n)) (decoded s n ∷ [])
    (λ e. let b = both (setting_check s) (code_check s n) e in (decoding s b.0 n b.1, tt))
