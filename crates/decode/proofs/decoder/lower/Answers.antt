-- `lower` meets its contract: dividing in two steps gives the quotient.
use Rattle.std.proofs.Common.{sym, ap, ◌∙◌, arith, ℕ, ◌*◌, ◌/◌, ◌^◌}
use Rattle.decode.proofs.Quotient.{two_steps}
use Rattle.decode.proofs.decoder.lower.Goals as goal

pub returns : goal.returns
returns c = sym (ap (λ (n : ℕ). n / c.args.over) (omega arith) ∙ two_steps (2 ^ 40 * c.args.part) 2048 c.args.over c.requires.2)
