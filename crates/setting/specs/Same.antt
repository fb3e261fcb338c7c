-- A test that two settings are the same, and a setting as one number.
-- Assumes nothing.
use Rattle.std.specs.Prelude.{Bool, false, ℕ, ◌+◌, ◌*◌, eqb}
use Rattle.rules.specs.declared.Setting.{Setting}
use Rattle.rules.specs.Choice.{choose}

unfoldable pub same_setting : Setting → Setting → Bool
same_setting a b = choose (eqb a.curve b.curve) (choose (eqb a.width b.width) (eqb a.ei b.ei) false) false

-- its four bytes, little endian
abbrev pub word_of : Setting → ℕ
word_of s = s.curve + 256 * s.width + 65536 * s.ei
