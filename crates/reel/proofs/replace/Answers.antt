-- `replace` meets its contract: the old record's numbers are read before the new record is written.
use Rattle.std.proofs.Common.{sym, ◌∙◌}
use Rattle.std.proofs.lemmas.Result.{err_from_is_err_and}
use Rattle.rules.specs.Reel.{replace, totals_with}
use Rattle.reel.proofs.Answered.{refused, accepted, replace_held, replace_not_held}
use Rattle.reel.proofs.replace.Goals as goal

pub returns-then-not-held : goal.returns-then-not-held
returns-then-not-held c =
    refused c.args.strip.now c.args.t (replace c.args.index c.args.r.now) (replace_not_held _ _ _ _ (sym c.if-not-held.ensures))

-- the index is held: the record's answer decides
pub returns-in_err-check : goal.returns-in_err-check
returns-in_err-check c =
    let p = err_from_is_err_and c.from_residual.result c.from_residual.ensures.1 in
    rw (p.1, p.2)
    (refused c.args.strip.now c.args.t (replace c.args.index c.args.r.now)
    (replace_held _ _ _ _ (sym c.if-not-held.ensures) ∙ sym c.in_err-check.ensures))

pub returns : goal.returns
returns c =
    accepted c.args.strip.now c.args.t (replace c.args.index c.args.r.now)
    (replace_held _ _ _ _ (sym c.if-not-held.ensures) ∙ sym c.in_ok-check.ensures)
    (c.totals_with.ensures ∙ (λ i. totals_with c.args.t.count c.args.t (c.metered_at-old.ensures i) (c.scenes_in-new.ensures i)))
    c.put_record.ensures
