-- What is prepared for a record has its setting.
-- Assumes nothing.
use mathlib.Core.Bool.{true}
use mathlib.Core.Path.{◌≡◌, ap, sym, ◌∙◌}
use Rattle.rules.specs.declared.Setting.{Setting}
use Rattle.setting.specs.Same.{same_setting}
use Rattle.setting.proofs.Same.{same_is}
use Rattle.decode.specs.declared.prepared.Prepared.{Prepared}

-- it was prepared for this record, or for the one before, which has the same setting
module _ {d from : Prepared} {next : Setting} (e : d ≡ from) where
  pub anew : from.setting ≡ next → d.setting ≡ next
  anew f = ap (λ (x : Prepared). x.setting) e ∙ f

  pub as_before : true ≡ same_setting from.setting next → d.setting ≡ next
  as_before f = ap (λ (x : Prepared). x.setting) e ∙ same_is from.setting next (sym f)
