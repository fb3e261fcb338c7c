-- The cases are those of the rules.
use Rattle.std.proofs.Common.{ℕ, ◌-◌, ap, sym, ◌∙◌, arith}
use Rattle.rules.specs.Setting.{Codes, top_of}
use Rattle.setting_codes.proofs.Ranges.{is_log_c4_lem, legal, zeros_are}
use Rattle.setting_codes.proofs.last_step.Goals as goal

pub returns-then-is_log_c4 : goal.returns-then-is_log_c4
returns-then-is_log_c4 c =
    ap (λ (k : Codes). k.last) (legal c.args.s (is_log_c4_lem c.args.s 140 (sym c.is_log_c4.ensures ∙ c.if-is_log_c4.true)))

pub overflow_sub-bits : goal.overflow_sub-bits
overflow_sub-bits c = omega (arith, c.low_zeros.ensures.value, (zeros_are c.args.s).fits)

pub returns : goal.returns
returns c =
    c.top_code.ensures
    ∙ ap (λ (n : ℕ). top_of (c.args.s.width - n)) c.low_zeros.ensures.value
    ∙ (zeros_are c.args.s).last (sym c.is_log_c4.ensures ∙ c.if-is_log_c4.false)
