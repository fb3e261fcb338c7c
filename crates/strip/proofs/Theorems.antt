-- DEMAND 3 of the scene strips: pixel to scene to pixel returns the same bytes, for every strip that is accepted; two pixel strips are one
-- exactly where their scene strips are.
-- Assumes nothing.
use Rattle.std.specs.Prelude.{Ok}
use mathlib.Core.Path.{◌≡◌, ◌∙◌}
use mathlib.Core.Logic.{◌↔◌}
use mathlib.Core.List.{List, ◌++◌}
use Prim.Native.Nat.{ℕ, ◌*◌, ◌^◌, ◌≤◌, ◌<◌}
use lib.Dec.{lit<}
use lib.ListN.{length, take, drop}
use Rattle.rules.specs.declared.Setting.{Setting}
use Rattle.rules.specs.Setting.{setting_check, code_check, Valid}
use Rattle.rules.specs.Record.{IsBytes, code_bytes, number_bytes, numbers_size}
use Rattle.rules.specs.Strip.{record_check, answer_of, output_after}
use Rattle.rules.proofs.Records.{write_read}
use Rattle.decode.proofs.Limit.{decoded_passes}
use Rattle.encode.proofs.Theorems.{encode_decoded}
use Rattle.record_conversion.specs.Conversions.{scene_bits, code_bits, pixel_to_scene, scene_to_pixel}
use Rattle.record_conversion.proofs.Good.{Good}
use Rattle.record_conversion.proofs.Channelwise.{TakenBack}
use Rattle.record_conversion.proofs.SceneBits.{scene_fits, scene_read}
use Rattle.strip.proofs.Back as back
use Rattle.strip.proofs.ChannelsBack.{written_long, record_returned}
use Rattle.rules.specs.Conversions.{number_check}

-- a code's number, in its bytes, is read back, passes, and is encoded to the code
code_back : (s : Setting) → Valid s → (n : ℕ) → n < 256 ^ code_bytes → code_check s n ≡ Ok tt → TakenBack setting_check code_bytes number_bytes code_check number_check scene_bits code_bits (λ s u. u) s n
code_back s v n l e =
    record {
      fits = scene_fits s v n e;
      passes = rw (scene_read s v n e) (decoded_passes s v n e);
      returns = rw (scene_read s v n e) (encode_decoded s v n e);
    }

long : (r : List ℕ) → length (pixel_to_scene.bytes r) ≡ pixel_to_scene.to
long = written_long setting_check code_bytes number_bytes code_check number_check scene_bits code_bits (λ s u. u) code_back

taken_back : (r : List ℕ) → Good pixel_to_scene r → (record_check scene_to_pixel (pixel_to_scene.bytes r) ≡ Ok tt) × (scene_to_pixel.bytes (pixel_to_scene.bytes r) ≡ r)
taken_back r g =
    let t = record_returned setting_check code_bytes number_bytes code_check number_check scene_bits code_bits (λ s u. u) code_back r g in
    (t.0, t.1 ∙ write_read code_bytes r g.bytes g.long)

-- PIXEL TO SCENE TO PIXEL: a strip that is converted whole is returned, byte by byte, where there is room for it
pub pixel_scene_pixel : (pixels scenes others : List ℕ) (n : ℕ) → IsBytes pixels → Ok n ≡ answer_of pixel_to_scene pixels scenes → length pixels ≤ length others
    → (Ok n ≡ answer_of scene_to_pixel (take (n * numbers_size) (output_after pixel_to_scene pixels scenes (Ok n))) others)
    × (output_after scene_to_pixel (take (n * numbers_size) (output_after pixel_to_scene pixels scenes (Ok n))) others (Ok n) ≡ pixels ++ drop (length pixels) others)
pixel_scene_pixel pixels scenes others n h e room =
    back.round_trip pixel_to_scene long scene_to_pixel taken_back (lit< tt) pixels scenes others n h e room

-- EQUAL PIXEL STRIPS exactly where equal scene strips
pub scenes_decide : (pixels pixels' scenes scenes' : List ℕ) (n : ℕ) → IsBytes pixels → IsBytes pixels'
    → Ok n ≡ answer_of pixel_to_scene pixels scenes → Ok n ≡ answer_of pixel_to_scene pixels' scenes'
    → (pixels ≡ pixels') ↔ (take (n * numbers_size) (output_after pixel_to_scene pixels scenes (Ok n)) ≡ take (n * numbers_size) (output_after pixel_to_scene pixels' scenes' (Ok n)))
scenes_decide = back.same_written pixel_to_scene long scene_to_pixel taken_back
