-- Each conversion is as every one is.
-- Assumes nothing.
use Rattle.std.specs.Prelude.{ℕ, refl}
use lib.Dec.{lit≤}
use Rattle.rules.specs.Conversions.{aces_to_half, half_to_aces}
use Rattle.rules.specs.Record.{setting_of, code_bytes, number_bytes, half_bytes}
use Rattle.rules.specs.Setting.{setting_check, aces_check}
use Rattle.rules.proofs.Records.{length_record}
use Rattle.rules.proofs.Settings.{aces_valid}
use Rattle.record_conversion.specs.Conversions.{pixel_to_scene, scene_to_pixel, pixel_to_aces, back_within, graded_to_pixel, graded_to_scene}
use Rattle.record_conversion.specs.Lawful.{Lawful}

pub pixel_to_scene_lawful : Lawful pixel_to_scene
unfolding setting_check
pixel_to_scene_lawful =
    record { valid = λ s e. e; holds_setting = lit≤ tt; long = λ r. length_record number_bytes (setting_of r) _; begins = refl }

pub scene_to_pixel_lawful : Lawful scene_to_pixel
unfolding setting_check
scene_to_pixel_lawful =
    record { valid = λ s e. e; holds_setting = lit≤ tt; long = λ r. length_record code_bytes (setting_of r) _; begins = refl }

pub pixel_to_aces_lawful : Lawful pixel_to_aces
unfolding setting_check aces_check
pixel_to_aces_lawful =
    record { valid = λ s e. aces_valid s e; holds_setting = lit≤ tt; long = λ r. length_record number_bytes (setting_of r) _; begins = refl }

pub back_lawful : (e : ℕ) → Lawful (back_within e)
unfolding setting_check aces_check
back_lawful e =
    record { valid = λ s e. aces_valid s e; holds_setting = lit≤ tt; long = λ r. length_record code_bytes (setting_of r) _; begins = refl }

pub aces_to_half_lawful : Lawful aces_to_half
unfolding setting_check aces_check
aces_to_half_lawful =
    record { valid = λ s e. aces_valid s e; holds_setting = lit≤ tt; long = λ r. length_record half_bytes (setting_of r) _; begins = refl }

pub half_to_aces_lawful : Lawful half_to_aces
unfolding setting_check aces_check
half_to_aces_lawful =
    record { valid = λ s e. aces_valid s e; holds_setting = lit≤ tt; long = λ r. length_record number_bytes (setting_of r) _; begins = refl }

pub graded_to_pixel_lawful : Lawful graded_to_pixel
unfolding setting_check aces_check
graded_to_pixel_lawful =
    record { valid = λ s e. aces_valid s e; holds_setting = lit≤ tt; long = λ r. length_record code_bytes (setting_of r) _; begins = refl }

pub graded_to_scene_lawful : Lawful graded_to_scene
unfolding setting_check aces_check
graded_to_scene_lawful =
    record { valid = λ s e. aces_valid s e; holds_setting = lit≤ tt; long = λ r. length_record number_bytes (setting_of r) _; begins = refl }
