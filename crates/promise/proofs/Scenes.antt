-- DEMAND 2 OF SCENE STRIPS: for an accepted pixel strip each scene number written is a decoded
-- number of the same channel's code, and for an accepted scene strip each code written is the
-- nearest one, within two thirds of a code where it is not clipped. For every strip of bytes, settings mixed.
-- Assumes nothing.
use Rattle.std.specs.Prelude.{Ok}
use mathlib.Core.Path.{◌≡◌, sym, subst}
use mathlib.Core.List.{List}
use Prim.Native.Nat.{ℕ, ◌*◌, ◌^◌, ◌≤◌, ◌<◌}
use lib.Dec.{lit<}
use lib.ListN.{length}
use Rattle.rules.specs.declared.Setting.{Setting}
use Rattle.rules.specs.Setting.{setting_check, code_check, Valid}
use Rattle.rules.specs.Decoding.{DecodesCode}
use Rattle.rules.specs.Record.{of_bits, code_bytes, number_bytes, pixel_size, numbers_size}
use Rattle.rules.specs.Strip.{record_check, record_at}
use Rattle.rules.proofs.Codes.{code_small}
use Rattle.decode.proofs.Theorems.{decoding}
use Rattle.encode.specs.Encoded.{encoded_step}
use Rattle.encode.proofs.Theorems.{encoded_nearest}
use Rattle.encode.proofs.Answers.{code_encodes}
use Rattle.record_conversion.specs.Conversions.{scene_bits, code_bits, pixel_to_scene, scene_to_pixel}
use Rattle.record_conversion.proofs.SceneBits.{scene_fits, scene_read}
use Rattle.promise.specs.Each.{ConvertedEach}
use Rattle.promise.specs.Scenes.{AcceptedCodes, HoldsScene, AcceptedScenes, IsDecoded, DecodedRecord, IsEncoded, EncodedRecord}
use Rattle.promise.proofs.Strips.{holds_passes}
use Rattle.rules.specs.Conversions.{channel_checks, number_check}
use Rattle.promise.proofs.EachChannel.{strip_each}

-- ---- decoding
scene_decoded : (s : Setting) → Valid s → (code : ℕ) → code_check s code ≡ Ok tt → IsDecoded s code (scene_bits s code)
scene_decoded s v code e =
    record { near = subst (DecodesCode s code) (sym (scene_read s v code e)) (decoding s v code e); same = scene_read s v code e }

-- PIXEL TO SCENE converts an accepted strip, and writes for each record its setting and decoded
-- numbers of its codes, channel by channel
pub pixels_decoded : (pixels output : List ℕ) (n : ℕ) → AcceptedCodes pixels n → n * numbers_size ≤ length output → ConvertedEach pixel_to_scene DecodedRecord pixels output n
pixels_decoded pixels output n a room =
    strip_each setting_check code_bytes number_bytes code_check scene_bits IsDecoded (λ s v u l e. scene_fits s v u e) (λ s v u l e. scene_decoded s v u e) pixels output n a.bytes a.long
    (λ k i. holds_passes setting_check (record_at pixel_size k pixels) (a.each k i)) (lit< tt) room

-- ---- encoding
module _ (s : Setting) (v : Valid s) (bits : ℕ) (e : number_check s bits ≡ Ok tt) where
  code_fits : code_bits s bits < 256 ^ code_bytes
  code_fits = code_small s (encoded_step s (of_bits number_bytes bits)) (encoded_nearest s (of_bits number_bytes bits)).in_range

  code_encoded : IsEncoded s bits (code_bits s bits)
  code_encoded = code_encodes s v (of_bits number_bytes bits)

scene_passes : (r : List ℕ) → HoldsScene r → record_check scene_to_pixel r ≡ Ok tt
unfolding channel_checks
scene_passes r h = rw (h.valid, h.numbers 0 (lit< tt), h.numbers 1 (lit< tt), h.numbers 2 (lit< tt))

-- SCENE TO PIXEL converts an accepted strip, and writes for each record its setting and the nearest
-- codes of its numbers, channel by channel
pub scenes_encoded : (scenes output : List ℕ) (n : ℕ) → AcceptedScenes scenes n → n * pixel_size ≤ length output → ConvertedEach scene_to_pixel EncodedRecord scenes output n
scenes_encoded scenes output n a room =
    strip_each setting_check number_bytes code_bytes number_check code_bits IsEncoded (λ s v u l e. code_fits s v u e) (λ s v u l e. code_encoded s v u e) scenes output n a.bytes a.long
    (λ k i. scene_passes (record_at numbers_size k scenes) (a.each k i)) (lit< tt) room
