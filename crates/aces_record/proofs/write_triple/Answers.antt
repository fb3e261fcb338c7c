-- The codes of a record that passes its checks are a pixel.
use Rattle.rules.proofs.Channels.{codes_pixel}
use Rattle.aces_record.proofs.write_triple.Goals as goal

pub of_pixel-a-requires : goal.of_pixel-a-requires
of_pixel-a-requires c = record { pixel = rw c.channels_in.ensures (codes_pixel c.args.d.now.setting c.args.r.now c.requires.r_value) }
