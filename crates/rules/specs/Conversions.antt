-- 01, "Records and settings": "The strip conversions are pixel to scene (decoding), scene to pixel (encoding), pixel to ACES, and ACES to pixel
-- (the way back).", 02, item 6: "strip conversions from ACES records" to half records "and back", item 7: "the strip conversion" of graded
-- numbers, and item 8: "a tolerant way back": what each checks of a record's setting, what it checks of the record after it, and what it writes.
-- The numbers of the codes are a parameter, and so are the distance of a way back and the scene triple of graded numbers.
-- Assumes nothing.
use Rattle.std.specs.Prelude.{List, ℕ, ℤ, None, Ok, Option, Some}
use Rattle.rules.specs.Refusal.{Check, then}
use Rattle.rules.specs.declared.Setting.{Setting}
use Rattle.rules.specs.Triples.{Pixel}
use Rattle.rules.specs.Triples.{Scenes}
use Rattle.rules.specs.Triples.{Triple}
use Rattle.rules.specs.Setting.{setting_check, aces_check, code_check}
use Rattle.rules.specs.Encoding.{code_by, scene_check}
use Rattle.rules.specs.Pixels.{pixel, aces_by}
use Rattle.rules.specs.Record.{to_bits, of_bits, size_of, code_bytes, number_bytes, half_bytes, setting_of, channel_at, record_of, pixel_in, pixel_record, scene_record, triple_in, aces_record}
use Rattle.rules.specs.Half.{half_of, half_units, half_check}
use Rattle.rules.specs.WayBack.{pixel_by, found_check}
use Rattle.rules.specs.Graded.{graded_checks, pixel_nearest}
use Rattle.rules.specs.Strip.{Conversion}

-- "red, green and blue (each channel's checks before the next channel)", of channels of a bytes
unfoldable pub channel_checks : (a : ℕ) → (ℕ → Check) → List ℕ → Check
channel_checks a check r = then (check (channel_at a r 0)) (then (check (channel_at a r 1)) (check (channel_at a r 2)))

-- the record of a setting with channels of b bytes, made one by one from the channels of a bytes of a record
abbrev pub each_channel : (a b : ℕ) → Setting → (ℕ → ℕ) → List ℕ → List ℕ
each_channel a b s one r = record_of b s (record { red = one (channel_at a r 0); green = one (channel_at a r 1); blue = one (channel_at a r 2) })

-- channel by channel: the setting's checks, a channel's check, and what a channel becomes. "A conversion copies the setting."
abbrev pub channelwise : (setting : Setting → Check) (a b : ℕ) (check : Setting → ℕ → Check) (one : Setting → ℕ → ℕ) → Conversion
channelwise setting a b check one =
    record {
      from = size_of a;
      to = size_of b;
      setting = setting;
      inner = λ r. channel_checks a (check (setting_of r)) r;
      bytes = λ r. each_channel a b (setting_of r) (one (setting_of r)) r;
    }

-- refusal 7, of the bits of a number
abbrev pub number_check : Setting → ℕ → Check
number_check s u = scene_check (of_bits number_bytes u)

-- ACES to half: "each ACES number to the nearest finite half". Nothing of a channel is checked
abbrev pub no_check : Setting → ℕ → Check
no_check s u = Ok tt

abbrev pub half_bits : Setting → ℕ → ℕ
half_bits s u = half_of (of_bits number_bytes u)

abbrev pub aces_to_half : Conversion
aces_to_half = channelwise aces_check number_bytes half_bytes no_check half_bits

-- half to ACES: "Reading is exact", and "refuses infinities and NaN by 8"
abbrev pub finite_check : Setting → ℕ → Check
finite_check s h = half_check h

abbrev pub unit_bits : Setting → ℕ → ℕ
unit_bits s h = to_bits number_bytes (half_units h)

abbrev pub half_to_aces : Conversion
half_to_aces = channelwise aces_check half_bytes number_bytes finite_check unit_bits

-- what is written for what was found (nothing is where there is none: refusal 10)
abbrev pub pixel_found : Option Pixel → Pixel
pixel_found (Some p) = p
pixel_found None = pixel 0 0 0

-- ---- where codes have these numbers
module _ (number : Setting → ℕ → ℤ) where
  -- "pixel to scene (decoding)"
  abbrev pub scene_bits : Setting → ℕ → ℕ
  scene_bits s n = to_bits number_bytes (number s n)

  abbrev pub pixel_to_scene : Conversion
  pixel_to_scene = channelwise setting_check code_bytes number_bytes code_check scene_bits

  -- "scene to pixel (encoding)"
  abbrev pub code_bits : Setting → ℕ → ℕ
  code_bits s u = code_by number s (of_bits number_bytes u)

  abbrev pub scene_to_pixel : Conversion
  scene_to_pixel = channelwise setting_check number_bytes code_bytes number_check code_bits

  -- "pixel to ACES": a pixel "gives the ACES record that holds this setting and the pixel's three ACES numbers"
  abbrev pub pixel_to_aces : Conversion
  pixel_to_aces =
      record {
        from = size_of code_bytes;
        to = size_of number_bytes;
        setting = aces_check;
        inner = λ r. channel_checks code_bytes (code_check (setting_of r)) r;
        bytes = λ r. aces_record (setting_of r) (aces_by number (setting_of r) (pixel_in r));
      }

  -- "ACES to pixel (the way back)": the pixel that gives the record, or numbers at most e from its own
  abbrev pub aces_to_pixel : (e : ℕ) → Conversion
  aces_to_pixel e =
      record {
        from = size_of number_bytes;
        to = size_of code_bytes;
        setting = aces_check;
        inner = λ r. found_check (pixel_by e number (setting_of r) (triple_in r));
        bytes = λ r. pixel_record (setting_of r) (pixel_found (pixel_by e number (setting_of r) (triple_in r)));
      }

-- ---- 02, item 7, where a setting and a graded triple have this scene triple
module _ (scenesFor : Setting → Triple → Scenes) where
  -- graded to scene: "give a scene triple"
  abbrev pub graded_to_scene : Conversion
  graded_to_scene =
      record {
        from = size_of number_bytes;
        to = size_of number_bytes;
        setting = aces_check;
        inner = λ r. graded_checks (triple_in r);
        bytes = λ r. scene_record (setting_of r) (scenesFor (setting_of r) (triple_in r));
      }

  -- graded to pixel: "then encode that triple: .. the strip conversion" gives "the pixel records"
  abbrev pub graded_to_pixel : (number : Setting → ℕ → ℤ) → Conversion
  graded_to_pixel number =
      record {
        from = size_of number_bytes;
        to = size_of code_bytes;
        setting = aces_check;
        inner = λ r. graded_checks (triple_in r);
        bytes = λ r. pixel_record (setting_of r) (pixel_nearest number (setting_of r) (scenesFor (setting_of r) (triple_in r)));
      }
