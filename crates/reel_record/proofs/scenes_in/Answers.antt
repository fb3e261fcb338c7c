-- `scenes_in` meets its contract: each code's scene number.
use Rattle.std.proofs.Common.{◌∙◌}
use Rattle.reel_record.proofs.Metered.{setting_valid, codes_pass, numbers_metered}
use Rattle.reel_record.proofs.scenes_in.Goals as goal

pub new-d-requires : goal.new-d-requires
new-d-requires c = setting_valid c.args.r.now c.requires.r_value c.setting_of.ensures

pub scene-requires : goal.scene-requires
scene-requires c = (codes_pass c.args.r.now c.requires.r_value (c.new-d.ensures ∙ c.setting_of.ensures) c.channels_in-p.ensures).red

pub scene-requires-2 : goal.scene-requires-2
scene-requires-2 c = (codes_pass c.args.r.now c.requires.r_value (c.new-d.ensures ∙ c.setting_of.ensures) c.channels_in-p.ensures).green

pub scene-requires-3 : goal.scene-requires-3
scene-requires-3 c = (codes_pass c.args.r.now c.requires.r_value (c.new-d.ensures ∙ c.setting_of.ensures) c.channels_in-p.ensures).blue

pub returns : goal.returns
returns c =
    numbers_metered c.args.r.now c.requires.r_value (c.new-d.ensures ∙ c.setting_of.ensures) c.channels_in-p.ensures
    c.scene.ensures c.scene-2.ensures c.scene-3.ensures
