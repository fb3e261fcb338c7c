-- `nearest_size` meets its contract: the joined digits of the lesser of m and the end.
use Rattle.std.proofs.Common.{◌≡◌, ℕ, ◌^◌, ◌<◌, min, ap, ◌∙◌, arith}
use Rattle.rules.specs.Half.{half_end, joined, to_even, rounded_size, half_size}
use Rattle.half.proofs.Digits.{size_nearest}
use Rattle.half.proofs.nearest_size.Goals as goal

-- what is joined
sized : (c : goal.After-to_even) → joined c.behind_eleven-k.result c.to_even.result ≡ half_size c.args.m
sized c =
    let lesser : c.min-n.result ≡ min c.args.m half_end = omega (arith, c.min-n.ensures) in
    ap (joined c.behind_eleven-k.result) c.to_even.ensures
    ∙ ap (λ (k : ℕ). joined k (to_even c.min-n.result k)) c.behind_eleven-k.ensures.0
    ∙ ap rounded_size lesser

below : (c : goal.After-to_even) → joined c.behind_eleven-k.result c.to_even.result < 2 ^ 15
below c = omega (arith, sized c, (size_nearest c.args.m).finite)

pub overflow_cast-result : goal.overflow_cast-result
overflow_cast-result c = record { fits = omega (arith, below c) }

pub returns : goal.returns
returns c = (sized c, below c)
