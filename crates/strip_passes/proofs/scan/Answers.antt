-- `scan` meets its contract: what is prepared at a record is of its setting, which passes.
use Rattle.std.specs.Prelude.{Ok}
use Rattle.std.proofs.Common.{◌≡◌, sym, ◌∙◌}
use Rattle.strip_passes.proofs.Cut.{read_at}
use Rattle.strip_passes.proofs.FirstPass.{setting_decides, scanned_more, scanned_stop, scanned_end}
use Rattle.strip_passes.proofs.Prepared.{anew, as_before}
use Rattle.strip_passes.proofs.scan.Goals as goal
use Rattle.strip_passes.proofs.scan.Goals.{then-not-same_setting+in_default, else-not-same_setting, After-check_inner}

pub setting_of-next-requires : goal.setting_of-next-requires
setting_of-next-requires g c =
    let read = read_at c.size_from-size.ensures.0 c.loop-index-test.true c.requires c.record_at-r.ensures in
    rw read.long (g.met.C.RecordConversion.lawful c.args.k).holds_setting

pub returns-in-Err : goal.returns-in-Err
returns-in-Err g c =
    let rule = g.C.RecordConversion.rule c.args.k in
    let read = read_at c.size_from-size.ensures.0 c.loop-index-test.true c.requires c.record_at-r.ensures in
    scanned_stop rule _ _ _ _ c.loop-index-test.true c.loop-index.invariant.scanned (setting_decides rule read.is c.setting_of-next.ensures (sym c.check_setting.ensures ∙ c.in-Err.is))

pub check_inner-requires : goal.check_inner-requires
check_inner-requires g c =
    let rule = g.C.RecordConversion.rule c.args.k in
    let read = read_at c.size_from-size.ensures.0 c.loop-index-test.true c.requires c.record_at-r.ensures in
    let s : (c.if-not-same_setting.d.setting ≡ c.setting_of-next.result) × (rule.setting c.if-not-same_setting.d.setting ≡ Ok tt) =
    elim c.if-not-same_setting.branch [
      | then-not-same_setting+in_default w ↦ let e = anew w.d-is w.new-d-then-not-same_setting.ensures in (e, rw e (sym w.check_setting.ensures ∙ w.in_default.is))
      | else-not-same_setting w ↦ (as_before w.d-is w.if-not-same_setting.ensures, rw w.d-is c.loop-index.invariant.passes)
    ]
    in
    (s.0 ∙ c.setting_of-next.ensures, read.long, s.1)

-- what is prepared is of the record's setting, which passes
checked : (g : _) (c : After-check_inner g) → (c.if-not-same_setting.d.setting ≡ c.setting_of-next.result) × (g.C.RecordConversion.rule c.args.k).setting c.if-not-same_setting.d.setting ≡ Ok tt
checked g c =
    elim c.if-not-same_setting.branch [
      | then-not-same_setting+in_default w ↦ let e = anew w.d-is w.new-d-then-not-same_setting.ensures in (e, rw e (sym w.check_setting.ensures ∙ w.in_default.is))
      | else-not-same_setting w ↦ (as_before w.d-is w.if-not-same_setting.ensures, rw w.d-is c.loop-index.invariant.passes)
    ]

pub returns-in-Err-check_inner : goal.returns-in-Err-check_inner
returns-in-Err-check_inner g c =
    let rule = g.C.RecordConversion.rule c.args.k in
    let read = read_at c.size_from-size.ensures.0 c.loop-index-test.true c.requires c.record_at-r.ensures in
    let s = checked g (goal.at.returns-in-Err-check_inner g c).After-check_inner in
    scanned_stop rule _ _ _ _ c.loop-index-test.true c.loop-index.invariant.scanned (setting_decides rule read.is (s.0 ∙ c.setting_of-next.ensures) s.1 ∙ sym c.check_inner.ensures ∙ c.in-Err-check_inner.is)

pub loop-index-preserved : goal.loop-index-preserved
loop-index-preserved g c =
    let rule = g.C.RecordConversion.rule c.args.k in
    let read = read_at c.size_from-size.ensures.0 c.loop-index-test.true c.requires c.record_at-r.ensures in
    let s = checked g (goal.at.loop-index-preserved g c).After-check_inner in
    record {
      scanned = scanned_more rule _ _ _ c.loop-index-test.true c.loop-index.invariant.scanned (setting_decides rule read.is (s.0 ∙ c.setting_of-next.ensures) s.1 ∙ sym c.check_inner.ensures ∙ c.in_default-check_inner.is);
      passes = s.1;
    }

pub returns : goal.returns
returns g c = scanned_end _ _ _ _ c.loop-index-test.false c.loop-index.invariant.scanned
