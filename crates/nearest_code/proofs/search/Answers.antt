-- Each step whose number is asked for is in range, and the numbers of two ends are small.
use Rattle.std.proofs.Common.{◌≡◌, ◌∙◌, sym, ap, arith}
use Rattle.decode.specs.Decoded.{raw_by}
use Rattle.decode.proofs.Program.{raw_small}
use Rattle.nearest_code.proofs.search.Goals as goal
use Rattle.nearest_code.proofs.search.Goals.{then-low-eq0, else-low-eq0}

pub raw-number-requires : goal.raw-number-requires
raw-number-requires c =
    c.requires.rising.fits _
    (omega (arith, c.loop-low.invariant.next.inside c.loop-low-test.true, c.loop-low.invariant.between.in_range))

pub raw-low_number-requires : goal.raw-low_number-requires
raw-low_number-requires c = c.requires.rising.fits 0 (omega arith)

pub overflow_add-low_number : goal.overflow_add-low_number
overflow_add-low_number c =
    let between = c.loop-low.invariant.between in
    let low : c.if-low-eq0.low_number ≡ raw_by c.args.d c.args.t.now c.loop-low.low =
    elim c.if-low-eq0.branch [
      | then-low-eq0 w ↦ w.low_number-is ∙ w.raw-low_number.ensures ∙ ap (raw_by c.args.d c.args.t.now) (sym w.if-low-eq0.true)
      | else-low-eq0 w ↦ w.low_number-is ∙ between.below_is (omega (arith, w.if-low-eq0.false))
    ]
    in
    let high : c.loop-low.high_number ≡ raw_by c.args.d c.args.t.now c.loop-low.high = between.above_is c.if-last-high.false in
    omega (
      arith,
      low,
      high,
      raw_small (c.requires.rising.fits c.loop-low.low (omega (arith, between.apart, between.in_range))),
      raw_small (c.requires.rising.fits c.loop-low.high c.if-last-high.false),
    )
