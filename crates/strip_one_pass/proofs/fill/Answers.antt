-- `fill` meets its contract: what is prepared at a record is of its setting, which passes.
use Rattle.std.specs.Prelude.{Ok}
use Rattle.std.proofs.Common.{◌≡◌, refl, sym, ◌∙◌}
use Rattle.rules.specs.declared.Distance.{Distance}
use Rattle.rules.specs.Strip.{Conversion}
use Rattle.rules.specs.WayBack.{distance_of}
use Rattle.record_conversion.specs.Conversions.{back_within}
use Rattle.record_conversion.specs.Laws.{back_lawful}
use Rattle.strip_passes.proofs.Cut.{read_at}
use Rattle.strip_passes.proofs.FirstPass.{setting_decides, scanned_start, scanned_more, scanned_stop, scanned_end}
use Rattle.strip_passes.proofs.Prepared.{anew, as_before}
use Rattle.strip_passes.proofs.SecondPass.{filled_start, filled_more}
use Rattle.strip_one_pass.proofs.fill.Goals as goal
use Rattle.strip_one_pass.proofs.fill.Goals.{then-not-same_setting+in_default, else-not-same_setting, After-convert_aces}

-- the conversion
abbrev back : Distance → Conversion
back k = back_within (distance_of k)

pub new-d-requires : goal.new-d-requires
new-d-requires c = let l = back_lawful (distance_of c.args.k) in l.valid _ l.begins

pub loop-index-init : goal.loop-index-init
loop-index-init c =
    let l = back_lawful (distance_of c.args.k) in
    record { scanned = scanned_start _ _ _; filled = filled_start _ l.long _ _ _ c.requires.1; passes = rw c.new-d.ensures l.begins }

pub returns-in-Err-clause-value : goal.returns-in-Err-clause-value
returns-in-Err-clause-value c =
    let read = read_at refl c.loop-index-test.true c.requires.0 c.record_at-r.ensures in
    scanned_stop _ _ _ _ _ c.loop-index-test.true c.loop-index.invariant.scanned
    (setting_decides (back c.args.k) read.is c.setting_of-next.ensures (sym c.check_setting.ensures ∙ c.in-Err.is))

pub new-d-requires-then-not-same_setting : goal.new-d-requires-then-not-same_setting
new-d-requires-then-not-same_setting c = (back_lawful (distance_of c.args.k)).valid _ (sym c.check_setting.ensures ∙ c.in_default.is)

pub convert_aces-requires-clause-s_value : goal.convert_aces-requires-clause-s_value
convert_aces-requires-clause-s_value c =
    let read = read_at refl c.loop-index-test.true c.requires.0 c.record_at-r.ensures in
    let s : (c.if-not-same_setting.d.setting ≡ c.setting_of-next.result) × ((back c.args.k).setting c.if-not-same_setting.d.setting ≡ Ok tt) =
    elim c.if-not-same_setting.branch [
      | then-not-same_setting+in_default w ↦ let e = anew w.d-is w.new-d-then-not-same_setting.ensures in (e, rw e (sym w.check_setting.ensures ∙ w.in_default.is))
      | else-not-same_setting w ↦ (as_before w.d-is w.if-not-same_setting.ensures, rw w.d-is c.loop-index.invariant.passes)
    ]
    in
    (s.0 ∙ c.setting_of-next.ensures, read.long, s.1)

-- what is prepared is of the record's setting, which passes
checked : (c : After-convert_aces) → (c.if-not-same_setting.d.setting ≡ c.setting_of-next.result) × ((back c.args.k).setting c.if-not-same_setting.d.setting ≡ Ok tt)
checked c =
    elim c.if-not-same_setting.branch [
      | then-not-same_setting+in_default w ↦ let e = anew w.d-is w.new-d-then-not-same_setting.ensures in (e, rw e (sym w.check_setting.ensures ∙ w.in_default.is))
      | else-not-same_setting w ↦ (as_before w.d-is w.if-not-same_setting.ensures, rw w.d-is c.loop-index.invariant.passes)
    ]

pub returns-in-Err-convert_aces-clause-value : goal.returns-in-Err-convert_aces-clause-value
returns-in-Err-convert_aces-clause-value c =
    let read = read_at refl c.loop-index-test.true c.requires.0 c.record_at-r.ensures in
    let s = checked (goal.at.returns-in-Err-convert_aces-clause-value c).After-convert_aces in
    scanned_stop _ _ _ _ _ c.loop-index-test.true c.loop-index.invariant.scanned
    (setting_decides (back c.args.k) read.is (s.0 ∙ c.setting_of-next.ensures) s.1 ∙ sym c.convert_aces.ensures.value ∙ c.in-Err-convert_aces.is)

pub loop-index-preserved : goal.loop-index-preserved
loop-index-preserved c =
    let read = read_at refl c.loop-index-test.true c.requires.0 c.record_at-r.ensures in
    let s = checked (goal.at.loop-index-preserved c).After-convert_aces in
    record {
      scanned = scanned_more _ _ _ _ c.loop-index-test.true c.loop-index.invariant.scanned (setting_decides (back c.args.k) read.is (s.0 ∙ c.setting_of-next.ensures) s.1 ∙ sym c.convert_aces.ensures.value ∙ c.in_default-convert_aces.is);
      filled = filled_more _ (back_lawful (distance_of c.args.k)).long _ _ _ c.requires.1 _ _ _ _ refl c.loop-index-test.true c.loop-index.invariant.filled read.is (rw c.in_default-convert_aces.is at c.convert_aces.ensures.out_after);
      passes = s.1;
    }

pub returns-clause-value : goal.returns-clause-value
returns-clause-value c = scanned_end _ _ _ _ c.loop-index-test.false c.loop-index.invariant.scanned
