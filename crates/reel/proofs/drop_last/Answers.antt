-- `drop_last` meets its contract: the last record is at the count less one.
use Rattle.std.proofs.Common.{refl, sym, ◌∙◌, ◌-◌}
use Rattle.rules.specs.Reel.{drop_last, no_scenes, totals_with}
use Rattle.reel.proofs.Answered.{refused, accepted, drop_none, drop_held, drop_not_held}
use Rattle.reel.proofs.drop_last.Goals as goal

pub returns-then-t-eq0 : goal.returns-then-t-eq0
returns-then-t-eq0 c = refused c.args.strip.now c.args.t drop_last (drop_none _ c.if-t-eq0.true)

pub returns-then-not-held : goal.returns-then-not-held
returns-then-not-held c = refused c.args.strip.now c.args.t drop_last (drop_not_held _ _ (sym c.if-not-held.ensures))

pub returns : goal.returns
returns c =
    accepted c.args.strip.now c.args.t drop_last (drop_held _ _ (sym c.if-not-held.ensures))
    (c.totals_with.ensures ∙ (λ i. totals_with (c.args.t.count - 1) c.args.t (c.metered_at-old.ensures i) no_scenes)) refl
