-- What holds of every conversion.
-- Assumes nothing.
use Rattle.std.specs.Prelude.{List, ◌≡◌, ℕ, ◌≤◌, length, Ok}
use Rattle.rules.specs.declared.Setting.{Setting}
use Rattle.rules.specs.Record.{setting_bytes}
use Rattle.rules.specs.Setting.{Valid}
use Rattle.rules.specs.Strip.{Conversion}
use Rattle.record_conversion.specs.declared.TheConstants.{FIRST}

-- a setting that passes is valid, a record is no shorter than its setting, what is written has the length that is said, and the setting that a
-- pass begins with passes
pub record Lawful (c : Conversion) : Type 0 where
  pub valid : (s : Setting) → c.setting s ≡ Ok tt → Valid s
  pub holds_setting : setting_bytes ≤ c.from
  pub long : (r : List ℕ) → length (c.bytes r) ≡ c.to
  pub begins : c.setting FIRST ≡ Ok tt
