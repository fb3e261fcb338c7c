-- `Decoder::new` meets its contract: the curve chooses as the definition does.
use Rattle.std.proofs.Common.{◌≡◌, refl, sym, ap, ◌∙◌}
use Rattle.rules.specs.declared.CurveName.{CurveName}
use Rattle.rules.specs.declared.Setting.{Setting}
use Rattle.rules.specs.Curve.{Constants, log_c}
use Rattle.rules.specs.Setting.{named, curve_at, curve_of}
use Rattle.rules.proofs.Settings.{valid_named}
use Rattle.decode.proofs.Program.{constants_small}
use Rattle.decode.proofs.decoder.Decoder.new.Goals as goal

-- the curve of a setting that names n, whose constants at its EI are k
curve_is : (s : Setting) {n : CurveName} {k m : Constants} → named s.curve ≡ n → k ≡ m → curve_at n s.ei ≡ log_c m → curve_of s ≡ log_c k
curve_is s e f g = ap (λ (x : CurveName). curve_at x s.ei) e ∙ g ∙ ap log_c (sym f)

pub log_c-requires : goal.log_c-requires
log_c-requires c =
    rw c.last_step.ensures (constants_small c.args.s c.requires _ (curve_is c.args.s (sym c.name_of.ensures ∙ c.in-LogC2.is) c.at.ensures refl))

pub log_c-requires-in-LogC3 : goal.log_c-requires-in-LogC3
log_c-requires-in-LogC3 c =
    rw c.last_step-in-LogC3.ensures
    (constants_small c.args.s c.requires _ (curve_is c.args.s (sym c.name_of.ensures ∙ c.in-LogC3.is) c.at-in-LogC3.ensures refl))

pub returns-in-Unknown : goal.returns-in-Unknown
returns-in-Unknown c = valid_named c.args.s c.requires (sym c.name_of.ensures ∙ c.in-Unknown.is)
