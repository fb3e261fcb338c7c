-- `decode` meets its contract: the number that is given is a decoded number.
use Rattle.std.proofs.Common.{◌≡◌, ℕ, ℤ, Ok, sym, subst, rules}
use Rattle.rules.specs.declared.Scene.{Scene}
use Rattle.rules.specs.declared.Setting.{Setting}
use Rattle.rules.specs.Decoding.{DecodesCode}
use Rattle.rules.specs.Refusal.{OrRefusal}
use Rattle.rules.specs.Result.{Result, Each}
use Rattle.decode.specs.Answer.{decoding_result, decode_result}
use Rattle.decode.proofs.Answers.{result_decodes}
use Rattle.decode.proofs.decode.Goals as goal

decodes : (s : Setting) (n : ℕ) (r : OrRefusal Scene) → decoding_result r ≡ decode_result s n → Each (DecodesCode s n) (decoding_result r).values
decodes s n r e = subst (λ (x : Result ℤ). Each (DecodesCode s n) x.values) (sym e) (result_decodes s n)

pub returns-clause-each : goal.returns-clause-each
unfolding decode_result
returns-clause-each c = decodes c.args.s c.args.n.0 (Ok c.scene.result) (search rules)
