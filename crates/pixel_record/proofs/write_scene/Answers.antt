-- The codes of a record that passes its checks pass theirs.
use Rattle.rules.specs.Setting.{code_check}
use Rattle.rules.specs.Record.{code_bytes}
use Rattle.rules.proofs.Channels.{all_pass}
use Rattle.pixel_record.proofs.write_scene.Goals as goal

pub scene-requires : goal.scene-requires
scene-requires c = rw c.channels_in-p.ensures (all_pass code_bytes (code_check c.args.d.now.setting) c.args.r.now c.requires.r_value).red

pub scene-requires-2 : goal.scene-requires-2
scene-requires-2 c = rw c.channels_in-p.ensures (all_pass code_bytes (code_check c.args.d.now.setting) c.args.r.now c.requires.r_value).green

pub scene-requires-3 : goal.scene-requires-3
scene-requires-3 c = rw c.channels_in-p.ensures (all_pass code_bytes (code_check c.args.d.now.setting) c.args.r.now c.requires.r_value).blue
