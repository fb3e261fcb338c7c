-- `size` meets its contract: the shifted digits fit a word.
use Rattle.std.proofs.Common.{ℕ, ◌^◌, ◌<◌, sym, subst, arith}
use Rattle.half.proofs.Sizes.{size_below}
use Rattle.half.proofs.Words.{shifted}
use Rattle.half.proofs.size.Goals as goal

pub returns-else-exponent-eq0 : goal.returns-else-exponent-eq0
returns-else-exponent-eq0 c =
    let a = c.args in
    let e = shifted a.exponent a.fraction (omega arith) c.requires.0 c.requires.1 in
    (e, subst (λ (n : ℕ). n < 2 ^ 41) (sym e) (size_below a.exponent a.fraction c.requires.0 c.requires.1))
