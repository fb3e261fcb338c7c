-- `nearest_step` meets its contract: what is below every number has step 0, and the search finds the others.
use Rattle.std.proofs.Common.{◌+◌, ◌^◌, ◌≤◌, arith}
use borrow.Author.Rules.{rules}
use mir.Syntax.{w64}
use mir.Val.{SFits}
use Rattle.whole.specs.Parts.{up, dn}
use Rattle.whole.proofs.Words.{read_back_lem}
use Rattle.rules.specs.Setting.{last_of}
use Rattle.decode.specs.Decoded.{offset, raw}
use Rattle.decode.proofs.Theorems.{raw_rises}
use Rattle.encode.proofs.Midpoints.{step_within, first_within}
use Rattle.encode.proofs.Codes.{scene_passed, rising, step_is}
use Rattle.encode.proofs.Shifted as shifted
use Rattle.encode.proofs.nearest_step.Goals as goal

-- the number fits a word
fits : (c : goal.After-find-arg-2-1) → SFits w64 c.args.x.0
fits c = search rules

above : (c : goal.After-find-arg-2-1) → dn c.args.x.0 ≤ up c.args.x.0 + offset
above c = shifted.not_under c.args.x.0 (rw (read_back_lem (fits c)) at c.if-number.false)

high : (c : goal.After-find-arg-2-1) → up c.args.x.0 ≤ 2 ^ 40
high c = (scene_passed c.args.x.0 c.requires.x_value).0

pub returns-then-number : goal.returns-then-number
returns-then-number c =
    let fits_then : SFits w64 c.args.x.0 = search rules in
    let below : up c.args.x.0 + offset ≤ dn c.args.x.0 = shifted.under c.args.x.0 (rw (read_back_lem fits_then) at c.if-number.true) in
    step_is c.args.d.now.setting c.args.d.now.ready.valid c.args.x.0 0
    (first_within (raw c.args.d.now.setting) (last_of c.args.d.now.setting) (raw_rises c.args.d.now.setting c.args.d.now.ready.valid) c.args.x.0 (omega (arith, below)))

pub overflow_add-number : goal.overflow_add-number
overflow_add-number c = shifted.add_fits c.args.x.0 (fits c) (above c) (high c)

pub overflow_cast-number : goal.overflow_cast-number
overflow_cast-number c = shifted.cast_fits c.args.x.0 (fits c) (above c) (high c)

pub find-requires-clause-rising : goal.find-requires-clause-rising
find-requires-clause-rising c =
    rw (c.args.d.now.ready.decoder, c.args.d.now.ready.table, c.requires.last_value) (rising c.args.d.now.setting c.args.d.now.ready.valid)

pub find-requires-clause-y_bound : goal.find-requires-clause-y_bound
find-requires-clause-y_bound c = shifted.small c.args.x.0 (fits c) (above c) (high c)

pub returns : goal.returns
returns c =
    step_is c.args.d.now.setting c.args.d.now.ready.valid c.args.x.0 c.find.result.0
    (step_within _ _ c.args.x.0 _ c.find.result.0 (shifted.shifted c.args.x.0 (fits c.before) (above c.before) (high c.before))
    (rw (c.args.d.now.ready.decoder, c.args.d.now.ready.table, c.requires.last_value) at c.find.ensures))
