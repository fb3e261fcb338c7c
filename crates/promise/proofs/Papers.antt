-- THE MASTER DEPENDS ON THE PUBLISHED PAPERS ALONE: whoever decodes each code to the nearest whole number, as the published curves say,
-- makes the same ACES strip of an accepted pixel strip, byte for byte, and finds the same pixel on the way back. None of our tables is
-- needed to read a master, only the layout of its records.
-- Assumes nothing.
use mathlib.Core.Path.{◌≡◌, ap}
use mathlib.Core.List.{List}
use Prim.Native.Nat.{ℕ}
use lib.IntN.{ℤ}
use Rattle.rules.specs.declared.Setting.{Setting}
use Rattle.rules.specs.Triples.{Triple}
use Rattle.rules.specs.Setting.{code_at, last_of, ValidForAces}
use Rattle.rules.specs.Matrix.{matrix_of}
use Rattle.rules.specs.Record.{setting_of, pixel_in, aces_record, pixel_size}
use Rattle.rules.specs.Strip.{record_at}
use Rattle.rules.specs.WayBack.{pixel_by}
use Rattle.rules.proofs.Search.{same_aces, same_found}
use Rattle.rules.proofs.Codes.{code_passes}
use Rattle.rules.proofs.Settings.{aces_valid}
use Rattle.decode.specs.Decoded.{decoded}
use Rattle.decoded_nearest.specs.Nearest.{NearestNumbers}
use Rattle.decoded_nearest.proofs.Theorems.{nearest_numbers}
use Rattle.way_back.specs.Back.{pixel_for}
use Rattle.promise.specs.Words.{HoldsPixel, Accepted, aces_strip_by, aces_strip}
use Rattle.promise.proofs.Strips.{whole_records, same_written}
use Rattle.rules.specs.Pixels.{aces_of}

module _ (number : Setting → ℕ → ℤ) (near : NearestNumbers number) where
  same_record : (r : List ℕ) → HoldsPixel r
      → aces_of (number (setting_of r)) (matrix_of (setting_of r)) (pixel_in r) ≡ aces_of (decoded (setting_of r)) (matrix_of (setting_of r)) (pixel_in r)
  same_record r h =
      let s = setting_of r in
      let p = pixel_in r in
      same_aces (number s) (decoded s) (matrix_of s) p (nearest_numbers number near s (aces_valid s h.valid) p.red.0 h.pixel.red)
      (nearest_numbers number near s (aces_valid s h.valid) p.green.0 h.pixel.green)
      (nearest_numbers number near s (aces_valid s h.valid) p.blue.0 h.pixel.blue)

  -- THE ACES STRIP is the same, byte for byte
  pub papers_alone : (pixels : List ℕ) (n : ℕ) → Accepted pixels n → aces_strip_by number pixels ≡ aces_strip pixels
  papers_alone pixels n a =
      rw (whole_records pixels n a)
      (same_written (λ r. aces_record (setting_of r) (aces_of (number (setting_of r)) (matrix_of (setting_of r)) (pixel_in r)))
      (λ r. aces_record (setting_of r) (aces_of (decoded (setting_of r)) (matrix_of (setting_of r)) (pixel_in r)))
      pixel_size pixel_size n pixels pixels (λ k l. ap (aces_record (setting_of (record_at pixel_size k pixels))) (same_record (record_at pixel_size k pixels) (a.each k l))))

  -- A WAY BACK finds the same pixel, or none, for any three numbers, at any distance
  pub papers_alone_back : (e : ℕ) (s : Setting) → ValidForAces s → (a : Triple) → pixel_by e number s a ≡ pixel_for e s a
  unfolding pixel_by
  papers_alone_back e s v a = same_found e (number s) (decoded s) (matrix_of s) (code_at s) (last_of s) a (λ i h. nearest_numbers number near s (aces_valid s v) (code_at s i) (code_passes s i h))
