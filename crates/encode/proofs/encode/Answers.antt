-- `encode` meets its contract: the code that is given is what 01 asks.
use Rattle.std.proofs.Common.{◌≡◌, ℕ, ℤ, Ok, sym, subst, rules}
use Rattle.rules.specs.declared.Code.{Code}
use Rattle.rules.specs.declared.Setting.{Setting}
use Rattle.rules.specs.Refusal.{OrRefusal}
use Rattle.rules.specs.Result.{Result, Each}
use Rattle.encode.specs.Answer.{encoding_result, encode_result, Encodes}
use Rattle.encode.proofs.Answers.{result_encodes}
use Rattle.encode.proofs.encode.Goals as goal

encodes : (s : Setting) (x : ℤ) (r : OrRefusal Code) → encoding_result r ≡ encode_result s x → Each (Encodes s x) (encoding_result r).values
encodes s x r e = subst (λ (y : Result ℕ). Each (Encodes s x) y.values) (sym e) (result_encodes s x)

pub returns-clause-each : goal.returns-clause-each
unfolding encode_result
returns-clause-each c = encodes c.args.s c.args.x.0 (Ok c.code_of.result) (search rules)
