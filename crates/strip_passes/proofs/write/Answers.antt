-- `write` meets its contract: each record passed, and what is prepared at it is of its setting.
use Rattle.std.proofs.Common.{◌≡◌, ◌∙◌}
use Rattle.rules.proofs.Strips.{room_at}
use Rattle.strip_passes.proofs.Cut.{read_at}
use Rattle.strip_passes.proofs.FirstPass.{passed}
use Rattle.strip_passes.proofs.SecondPass.{filled_start, filled_more, filled_end}
use Rattle.strip_passes.proofs.Prepared.{anew, as_before}
use Rattle.strip_passes.proofs.write.Goals as goal
use Rattle.strip_passes.proofs.write.Goals.{then-not-same_setting, else-not-same_setting}

pub loop-i-init : goal.loop-i-init
loop-i-init g c = filled_start _ (g.met.C.RecordConversion.lawful c.args.k).long _ _ _ c.requires.k_in_bounds.1

pub setting_of-s-requires : goal.setting_of-s-requires
setting_of-s-requires g c =
    let read = read_at c.size_from-from.ensures.0 c.loop-i-test.true c.requires.k_in_bounds.0 c.record_at-r.ensures in
    rw read.long (g.met.C.RecordConversion.lawful c.args.k).holds_setting

pub slice_bounds-write_record-end : goal.slice_bounds-write_record-end
slice_bounds-write_record-end g c =
    rw c.loop-i.invariant.long (room_at _ _ _ _ _ c.size_to-to.ensures.0 c.loop-i-test.true c.requires.k_in_bounds.1)

pub new-d-requires-then-not-same_setting : goal.new-d-requires-then-not-same_setting
new-d-requires-then-not-same_setting g c =
    let rule = g.C.RecordConversion.rule c.args.k in
    let read = read_at c.size_from-from.ensures.0 c.loop-i-test.true c.requires.k_in_bounds.0 c.record_at-r.ensures in
    (g.met.C.RecordConversion.lawful c.args.k).valid _ (passed rule _ _ c.args.input.now c.requires.n_value c.loop-i-test.true read.is c.setting_of-s.ensures).0

pub write_record-requires-clause-s_value : goal.write_record-requires-clause-s_value
write_record-requires-clause-s_value g c =
    let rule = g.C.RecordConversion.rule c.args.k in
    let read = read_at c.size_from-from.ensures.0 c.loop-i-test.true c.requires.k_in_bounds.0 c.record_at-r.ensures in
    let passes = passed rule _ _ c.args.input.now c.requires.n_value c.loop-i-test.true read.is c.setting_of-s.ensures in
    let e : c.if-not-same_setting.d.setting ≡ c.setting_of-s.result =
    elim c.if-not-same_setting.branch [
      | then-not-same_setting w ↦ anew w.d-is w.new-d-then-not-same_setting.ensures
      | else-not-same_setting w ↦ as_before w.d-is w.if-not-same_setting.ensures
    ]
    in
    (e ∙ c.setting_of-s.ensures, read.long, passes.1, rw e passes.0)

pub loop-i-preserved : goal.loop-i-preserved
loop-i-preserved g c =
    let read = read_at c.size_from-from.ensures.0 c.loop-i-test.true c.requires.k_in_bounds.0 c.record_at-r.ensures in
    filled_more _ (g.met.C.RecordConversion.lawful c.args.k).long _ _ _ c.requires.k_in_bounds.1 _ _ _ _ c.size_to-to.ensures.0 c.loop-i-test.true c.loop-i.invariant read.is c.write_record.ensures

pub returns : goal.returns
returns g c = filled_end _ (g.met.C.RecordConversion.lawful c.args.k).long _ _ _ c.requires.k_in_bounds.1 _ _ c.loop-i-test.false c.loop-i.invariant
