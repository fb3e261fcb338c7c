-- `replace` meets its contract: the count stays.
use Rattle.rules.specs.Reel.{replace}
use Rattle.reel_for_c.proofs.Given.{gives, same_count}
use Rattle.reel_for_c.proofs.replace.Goals as goal

pub returns : goal.returns
returns c =
    let a = c.args in
    let e = c.totals_of-t.ensures in
    let stays = same_count a.strip.now a.count a.sums.now a.index a.r.now c.replace.result e c.replace.ensures in
    gives a.strip.now a.count a.sums.now (replace a.index a.r.now) c.replace.result
    e c.replace.ensures c.give.ensures.value stays c.give.ensures.sums_after
