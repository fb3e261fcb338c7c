-- 02, item 7: GRADED STRIPS, for every strip of bytes, settings mixed.
-- Assumes nothing.
use Rattle.std.specs.Prelude.{Ok}
use mathlib.Core.Logic.{◌↔◌}
use mathlib.Core.Path.{◌≡◌, sym, ap, ◌∙◌}
use mathlib.Core.List.{List, [], ◌∷◌, ◌++◌}
use Prim.Native.Nat.{ℕ, ◌*◌, ◌≤◌, ◌<◌}
use native.Mathlib.Omega.{arith}
use lib.Dec.{lit<}
use lib.ListN.{length, take, drop}
use Rattle.rules.specs.Record.{IsBytes, setting_of, code_bytes, number_bytes, pixel_size, numbers_size}
use Rattle.rules.specs.Result.{done, strip_result}
use Rattle.rules.specs.Strip.{record_at, answer_of, output_after, result_of, strip_after}
use Rattle.rules.proofs.Graded.{to_scene_never, to_pixel_never}
use Rattle.rules.proofs.Records.{length_record}
use Rattle.rules.proofs.Results.{done_answer}
use Rattle.decode.specs.Decoded.{decoded}
use Rattle.aces_inverse.specs.Inverse.{candidates}
use Rattle.record_conversion.specs.Conversions.{scene_to_pixel, aces_to_pixel, graded_to_scene, graded_to_pixel}
use Rattle.strip.proofs.Join.{whole_answer}
use Rattle.strip.proofs.Back.{done_whole, whole_done, one_after_other}
use Rattle.strip.proofs.Exactly.{converted_exactly}
use Rattle.strip.proofs.Same.{same_converted}
use Rattle.promise.specs.Each.{ConvertedEach}
use Rattle.promise.specs.Words.{Accepted, aces_strip}
use Rattle.promise.proofs.Each.{each_converted}
use Rattle.promise.proofs.Strips.{bytes_at}
use Rattle.promise.proofs.Theorems.{way_back_returns}
use Rattle.graded_strips.specs.Words.{HoldsGraded, AcceptedGraded, GivesScenes, GivesPixel}
use Rattle.graded_strips.proofs.Single.{passes_exactly, scenes_written, pixel_written, scenes_encoded, as_way_back}

-- ---- IT CONVERTS exactly where each record has a valid setting and numbers within the limits
pub graded_converts_exactly : (aces output : List ℕ) (n : ℕ) → length aces ≡ n * numbers_size → n * pixel_size ≤ length output
    → (result_of graded_to_pixel aces output ≡ done (n ∷ [])) ↔ ((k : ℕ) → k < n → HoldsGraded (record_at numbers_size k aces))
graded_converts_exactly aces output n l room =
    let c = converted_exactly graded_to_pixel (lit< tt) aces output n l room in
    (λ e k i. (passes_exactly (record_at numbers_size k aces)).0 (c.0 e k i), λ h. c.1 (λ k i. (passes_exactly (record_at numbers_size k aces)).1 (h k i)))

-- BOTH CONVERSIONS ANSWER ALIKE, where both have room: the count, or one refusal of one record
pub same_answers : (aces scenes pixels : List ℕ) (n : ℕ) → length aces ≡ n * numbers_size → n * numbers_size ≤ length scenes → n * pixel_size ≤ length pixels
    → result_of graded_to_scene aces scenes ≡ result_of graded_to_pixel aces pixels
same_answers aces scenes pixels n l more room =
    ap strip_result (whole_answer graded_to_scene aces scenes n (lit< tt) l more ∙ sym (whole_answer graded_to_pixel aces pixels n (lit< tt) l room))

-- ---- 7 AND 10 never occur
pub to_scene_never_seven : (input output : List ℕ) → (result_of graded_to_scene input output).number ≡ 7 → ⊥
to_scene_never_seven = to_scene_never 7 (lit< tt) (λ e. omega arith) (λ e. omega arith) candidates

pub to_scene_never_ten : (input output : List ℕ) → (result_of graded_to_scene input output).number ≡ 10 → ⊥
to_scene_never_ten = to_scene_never 10 (lit< tt) (λ e. omega arith) (λ e. omega arith) candidates

pub to_pixel_never_seven : (input output : List ℕ) → (result_of graded_to_pixel input output).number ≡ 7 → ⊥
to_pixel_never_seven = to_pixel_never 7 (lit< tt) (λ e. omega arith) (λ e. omega arith) candidates decoded

pub to_pixel_never_ten : (input output : List ℕ) → (result_of graded_to_pixel input output).number ≡ 10 → ⊥
to_pixel_never_ten = to_pixel_never 10 (lit< tt) (λ e. omega arith) (λ e. omega arith) candidates decoded

-- ---- GRADED TO SCENE converts an accepted strip, and writes for each record its setting and a scene triple whose ACES triple is near
module _ (aces output : List ℕ) (n : ℕ) (a : AcceptedGraded aces n) where
  pub scenes_given : n * numbers_size ≤ length output → ConvertedEach graded_to_scene GivesScenes aces output n
  scenes_given room =
      each_converted graded_to_scene (λ r. length_record number_bytes (setting_of r) _) (lit< tt) GivesScenes aces output n a.long
      (λ k i. (passes_exactly (record_at numbers_size k aces)).1 (a.each k i))
      (λ k i. scenes_written (record_at numbers_size k aces) (bytes_at numbers_size k aces a.bytes) ((passes_exactly (record_at numbers_size k aces)).1 (a.each k i)))
      room

  -- GRADED TO PIXEL writes its setting and the codes nearest to such a triple
  pub pixels_given : n * pixel_size ≤ length output → ConvertedEach graded_to_pixel GivesPixel aces output n
  pixels_given room =
      each_converted graded_to_pixel (λ r. length_record code_bytes (setting_of r) _) (lit< tt) GivesPixel aces output n a.long
      (λ k i. (passes_exactly (record_at numbers_size k aces)).1 (a.each k i))
      (λ k i. pixel_written (record_at numbers_size k aces) (bytes_at numbers_size k aces a.bytes) ((passes_exactly (record_at numbers_size k aces)).1 (a.each k i)))
      room

-- ---- THAT TRIPLE ENCODED: graded to pixel is graded to scene and then scene to pixel, every byte of it
pub graded_then_encoded : (aces scenes pixels : List ℕ) (n : ℕ) → IsBytes aces → Ok n ≡ answer_of graded_to_scene aces scenes → n * pixel_size ≤ length pixels
    → (Ok n ≡ answer_of graded_to_pixel aces pixels)
    × (Ok n ≡ answer_of scene_to_pixel (take (n * numbers_size) (output_after graded_to_scene aces scenes (Ok n))) pixels)
    × (output_after scene_to_pixel (take (n * numbers_size) (output_after graded_to_scene aces scenes (Ok n))) pixels (Ok n) ≡ output_after graded_to_pixel aces pixels (Ok n))
unfolding output_after
graded_then_encoded aces scenes pixels n h e room =
    let w = done_whole graded_to_scene aces scenes n e in
    let t = one_after_other graded_to_scene (λ r. length_record number_bytes (setting_of r) _) scene_to_pixel graded_to_pixel.bytes (λ r g. scenes_encoded r g.bytes g.passes) (lit< tt) pixel_size aces scenes pixels n h e room in
    (whole_done graded_to_pixel aces pixels n (lit< tt) (record { long = w.long; room = room; passes = w.passes }), t.0, t.1)

-- ---- WHERE THE WAY BACK CONVERTS a strip, the graded road gives the same count and the same bytes
pub graded_as_way_back : (aces output : List ℕ) (n : ℕ) → result_of aces_to_pixel aces output ≡ done (n ∷ [])
    → (result_of graded_to_pixel aces output ≡ done (n ∷ [])) × (strip_after graded_to_pixel aces output ≡ strip_after aces_to_pixel aces output)
graded_as_way_back aces output n e =
    let d = done_answer (answer_of aces_to_pixel aces output) n e in
    let s = same_converted aces_to_pixel graded_to_pixel as_way_back (lit< tt) aces output n d in
    (ap strip_result (sym s.0), ap (output_after graded_to_pixel aces output) (sym s.0) ∙ s.1 ∙ ap (output_after aces_to_pixel aces output) d)

-- AN UNMOVED MASTER: from the ACES strip of an accepted pixel strip the graded road returns that strip
pub unmoved_returns : (pixels output : List ℕ) (n : ℕ) → Accepted pixels n → length pixels ≤ length output
    → (result_of graded_to_pixel (aces_strip pixels) output ≡ done (n ∷ [])) × (strip_after graded_to_pixel (aces_strip pixels) output ≡ pixels ++ drop (length pixels) output)
unmoved_returns pixels output n a room =
    let b = way_back_returns pixels output n a room in
    let g = graded_as_way_back (aces_strip pixels) output n b.0 in
    (g.0, g.1 ∙ b.1)
