-- The numbers of a record that passes its checks pass theirs.
use Rattle.std.proofs.Common.{ap, ◌∙◌}
use Rattle.rules.specs.Triples.{Scenes}
use Rattle.rules.specs.Conversions.{number_check}
use Rattle.rules.specs.Encoding.{scene_check}
use Rattle.rules.specs.Record.{number_bytes}
use Rattle.rules.proofs.Channels.{all_pass}
use Rattle.scene_record.proofs.write_pixel.Goals as goal

pub pixel_of-p-requires-clause-red_value : goal.pixel_of-p-requires-clause-red_value
pixel_of-p-requires-clause-red_value c =
    ap (λ (x : Scenes). scene_check x.red.0) c.channels_in-x.ensures ∙ (all_pass number_bytes (number_check c.args.d.now.setting) c.args.r.now c.requires.r_value).red

pub pixel_of-p-requires-clause-green_value : goal.pixel_of-p-requires-clause-green_value
pixel_of-p-requires-clause-green_value c =
    ap (λ (x : Scenes). scene_check x.green.0) c.channels_in-x.ensures ∙ (all_pass number_bytes (number_check c.args.d.now.setting) c.args.r.now c.requires.r_value).green

pub pixel_of-p-requires-clause-blue_value : goal.pixel_of-p-requires-clause-blue_value
pixel_of-p-requires-clause-blue_value c =
    ap (λ (x : Scenes). scene_check x.blue.0) c.channels_in-x.ensures ∙ (all_pass number_bytes (number_check c.args.d.now.setting) c.args.r.now c.requires.r_value).blue
