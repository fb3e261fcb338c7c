-- `write` meets its contract: the nearest size, with the number's sign.
use Rattle.std.proofs.Common.{◌≡◌, ℕ, ◌+◌, ap, ◌∙◌, rules, w64, nat_abs, FitsSigned}
use Rattle.whole.proofs.Words.{read_back_lem}
use Rattle.rules.specs.Half.{half_size}
use Rattle.half.proofs.Words.{of_minus, of_plus}
use Rattle.half.proofs.write.Goals as goal

pub returns-then-v-lt0 : goal.returns-then-v-lt0
returns-then-v-lt0 c =
    let f : FitsSigned w64 c.args.v.0 = search rules in
    let n : c.nearest_size-size.result ≡ half_size (nat_abs c.args.v.0) =
    c.nearest_size-size.ensures.0 ∙ ap half_size (c.unsigned_abs.ensures.value ∙ ap nat_abs (read_back_lem f)) in
    ap (λ (p : ℕ). 32768 + p) n ∙ of_minus c.args.v.0 (rw (read_back_lem f) at c.if-v-lt0.true)

pub returns-else-v-lt0 : goal.returns-else-v-lt0
returns-else-v-lt0 c =
    let f : FitsSigned w64 c.args.v.0 = search rules in
    let n : c.nearest_size-size.result ≡ half_size (nat_abs c.args.v.0) =
    c.nearest_size-size.ensures.0 ∙ ap half_size (c.unsigned_abs.ensures.value ∙ ap nat_abs (read_back_lem f)) in
    n ∙ of_plus c.args.v.0 (rw (read_back_lem f) at c.if-v-lt0.false)
