-- What is tested of a setting: whether it is of curve 4 at a width, and how many low bits of its codes are 0.
-- Assumes nothing.
use Rattle.std.specs.Prelude.{Bool, false, ℕ, eqb}
use Rattle.rules.specs.declared.Setting.{Setting}
use Rattle.rules.specs.Choice.{choose}

unfoldable pub is_log_c4 : Setting → (width : ℕ) → Bool
is_log_c4 s width = choose (eqb s.curve 4) (eqb s.width width) false

-- two to this is the rules' distance of codes (proofs/Ranges.antt)
unfoldable pub low_zeros : Setting → ℕ
low_zeros s = choose (is_log_c4 s 16) 4 0
