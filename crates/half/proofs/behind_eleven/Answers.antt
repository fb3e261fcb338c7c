-- `behind_eleven` meets its contract: at most 29 digits are behind the first eleven.
use Rattle.std.proofs.Common.{◌≤◌, sym, subst}
use Rattle.half.proofs.Digits.{first_eleven}
use Rattle.half.proofs.behind_eleven.Goals as goal

pub returns : goal.returns
returns c =
    let e = c.saturating_sub.ensures in (e, subst (λ k. k ≤ 29) (sym e) (first_eleven c.args.n c.requires).few)
