-- `put_lines` meets its contract: each line is that of the record at which the loop stands.
use Rattle.std.proofs.Common.{refl, ap, ◌∙◌}
use Rattle.strip_passes.proofs.Cut.{read_at}
use Rattle.lister_text.specs.Listed.{outcome_of}
use Rattle.lister_text.proofs.Standing.{stands_start, next_room, stands_more}
use Rattle.lister_text.proofs.put_lines.Goals as goal

pub loop-i-init : goal.loop-i-init
loop-i-init c = stands_start _ _ _ _ c.requires.1 c.requires.2

pub put_line-at-requires : goal.put_line-at-requires
put_line-at-requires c =
    let read = read_at refl c.loop-i-test.true c.requires.0 c.record_at.ensures in
    rw (c.judge-o.ensures ∙ ap outcome_of read.is) (next_room _ _ _ _ c.requires.1 c.requires.2 c.loop-i.i c.loop-i-test.true _ _ c.loop-i.invariant)

pub loop-i-preserved : goal.loop-i-preserved
loop-i-preserved c =
    let read = read_at refl c.loop-i-test.true c.requires.0 c.record_at.ensures in
    stands_more _ _ _ _ c.requires.1 c.requires.2 c.loop-i.i c.loop-i-test.true _ _ c.loop-i.invariant (rw (c.judge-o.ensures ∙ ap outcome_of read.is) at c.put_line-at.ensures)
