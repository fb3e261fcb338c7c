-- `judge` meets its contract: a setting that passes is valid, and codes that pass are a pixel.
use Rattle.std.proofs.Common.{sym, ◌∙◌}
use Rattle.rules.proofs.Channels.{codes_pixel}
use Rattle.rules.proofs.Settings.{aces_valid}
use Rattle.lister_text.proofs.judge.Goals as goal

pub new-d-requires : goal.new-d-requires
new-d-requires c = aces_valid _ (sym c.check_setting.ensures ∙ c.in_ok-check_setting.was)

pub of_pixel-requires : goal.of_pixel-requires
of_pixel-requires c =
    record { pixel = rw (c.channels_in.ensures, c.new-d.ensures, c.setting_of-s.ensures) (codes_pixel _ _ (sym c.check_inner.ensures ∙ c.in_ok-check_inner.was)) }
