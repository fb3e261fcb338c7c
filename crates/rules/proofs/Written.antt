-- What is read of a record that was written: of three signed numbers of which none is beyond 2 ^ 40, and of three codes.
-- Assumes nothing.
use mathlib.Core.Path.{◌≡◌, ap, ◌∙◌}
use mathlib.Core.List.{List}
use Prim.Native.Nat.{ℕ, ◌*◌, ◌^◌, ◌≤◌, ◌<◌}
use native.Mathlib.Omega.{arith}
use lib.IntN.{ℤ, nat_abs}
use lib.ListN.{drop}
use Rattle.whole.specs.Parts.{up, dn}
use Rattle.whole.proofs.Reflect.{abs_is}
use Rattle.rules.specs.Triples.{Pixel}
use Rattle.rules.specs.declared.Setting.{Setting}
use Rattle.rules.specs.Pixels.{pixel, Small3}
use Rattle.rules.specs.Record.{IsBytes, to_bits, of_bits, setting_of, Channels, channel_at, code_bytes, number_bytes, numbers_record, pixel_in, pixel_record}
use Rattle.rules.proofs.Records.{FitsRecord, value_small, drop_bytes, read_setting, read_channels, of_to, bits_fit}

pub small_fits : (x : ℤ) → nat_abs x ≤ 2 ^ 40 → (2 * up x < 256 ^ number_bytes) × (2 * dn x ≤ 256 ^ number_bytes)
small_fits x h = (omega (arith, abs_is x), omega (arith, abs_is x))

-- the setting of a record fits its bytes
pub record FitsSetting (s : Setting) : Type 0 where
  pub curve : s.curve < 256
  pub width : s.width < 256
  pub ei : s.ei < 65536

pub fits_setting : (r : List ℕ) → IsBytes r → FitsSetting (setting_of r)
fits_setting r h = record { curve = h 0; width = h 1; ei = value_small 2 (drop 2 r) (drop_bytes 2 r h) }

-- ---- three signed numbers
module _ (s : Setting) (f : FitsSetting s) (x y z : ℤ) (h : Small3 (2 ^ 40) x y z) where
  abbrev channels : Channels
  channels = record { red = to_bits number_bytes x; green = to_bits number_bytes y; blue = to_bits number_bytes z }

  fits : FitsRecord number_bytes s channels
  fits =
      let r = small_fits x h.red in
      let g = small_fits y h.green in
      let b = small_fits z h.blue in
      record {
        curve = f.curve;
        width = f.width;
        ei = f.ei;
        red = bits_fit number_bytes x r.0 r.1;
        green = bits_fit number_bytes y g.0 g.1;
        blue = bits_fit number_bytes z b.0 b.1;
      }

  pub setting_read : setting_of (numbers_record s x y z) ≡ s
  setting_read = read_setting number_bytes s channels fits

  -- the numbers come back
  abbrev pub read_at : ℕ → ℤ
  read_at i = of_bits number_bytes (channel_at number_bytes (numbers_record s x y z) i)

  pub numbers_read : (read_at 0 ≡ x) × (read_at 1 ≡ y) × (read_at 2 ≡ z)
  numbers_read =
      let e = read_channels number_bytes s channels fits in
      let r = small_fits x h.red in
      let g = small_fits y h.green in
      let b = small_fits z h.blue in (
        ap (λ (c : Channels). of_bits number_bytes c.red) e ∙ of_to number_bytes x r.0 r.1,
        ap (λ (c : Channels). of_bits number_bytes c.green) e ∙ of_to number_bytes y g.0 g.1,
        ap (λ (c : Channels). of_bits number_bytes c.blue) e ∙ of_to number_bytes z b.0 b.1,
      )

-- ---- three codes
pub record FitsPixel (p : Pixel) : Type 0 where
  pub red : p.red.0 < 256 ^ code_bytes
  pub green : p.green.0 < 256 ^ code_bytes
  pub blue : p.blue.0 < 256 ^ code_bytes

module _ (s : Setting) (f : FitsSetting s) (p : Pixel) (h : FitsPixel p) where
  abbrev codes : Channels
  codes = record { red = p.red.0; green = p.green.0; blue = p.blue.0 }

  codes_fit : FitsRecord code_bytes s codes
  codes_fit = record { curve = f.curve; width = f.width; ei = f.ei; red = h.red; green = h.green; blue = h.blue }

  pub pixel_setting : setting_of (pixel_record s p) ≡ s
  pixel_setting = read_setting code_bytes s codes codes_fit

  pub pixel_read : pixel_in (pixel_record s p) ≡ p
  pixel_read = ap (λ (c : Channels). pixel c.red c.green c.blue) (read_channels code_bytes s codes codes_fit)
