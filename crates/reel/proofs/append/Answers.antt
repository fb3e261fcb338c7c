-- `append` meets its contract.
use Rattle.std.proofs.Common.{sym, ◌∙◌, add-one}
use Rattle.std.proofs.lemmas.Result.{err_from_is_err_and}
use Rattle.rules.specs.Reel.{append, no_scenes, totals_with}
use Rattle.rules.proofs.ReelChecks.{in_place}
use Rattle.reel.proofs.Answered.{refused, accepted}
use Rattle.reel.proofs.append.Goals as goal

pub returns-then-room_in-t : goal.returns-then-room_in-t
returns-then-room_in-t c =
    refused c.args.strip.now c.args.t (append c.args.r.now) (in_place.full_first _ _ _ (rw c.room_in.ensures at c.if-room_in-t.true))

-- there is room: the record's answer decides
pub returns-in_err-check : goal.returns-in_err-check
returns-in_err-check c =
    let p = err_from_is_err_and c.from_residual.result c.from_residual.ensures.1 in
    rw (p.1, p.2)
    (refused c.args.strip.now c.args.t (append c.args.r.now)
    (in_place.append_then _ _ _ (rw c.room_in.ensures at c.if-room_in-t.false) ∙ sym c.in_err-check.ensures))

pub returns : goal.returns
returns c =
    accepted c.args.strip.now c.args.t (append c.args.r.now)
    (in_place.append_then _ _ _ (rw c.room_in.ensures at c.if-room_in-t.false) ∙ sym c.in_ok-check.ensures)
    (c.totals_with.ensures ∙ (λ i. totals_with (add-one c.args.t.count i) c.args.t no_scenes (c.scenes_in-new.ensures i)))
    c.put_record.ensures
