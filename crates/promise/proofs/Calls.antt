-- WHAT THE THEOREMS SAY OF A CALL. They speak of the answer and the output that the rules give for
-- two strips of bytes. The contract of a function on strips says that these are the call's own, and
-- that the strips are bytes, so that nothing else is left to assume.
-- Assumes nothing.
use mathlib.Core.Path.{◌≡◌, sym, subst}
use mathlib.Core.List.{List, [], ◌∷◌}
use Prim.Native.Nat.{ℕ, ◌*◌, ◌≤◌, ◌<◌}
use lib.ListN.{length}
use Rattle.rules.specs.Record.{pixel_size, numbers_size}
use Rattle.rules.specs.Refusal.{Answer}
use Rattle.rules.specs.Result.{done, strip_result}
use Rattle.rules.specs.Strip.{Conversion, record_at, answer_of, output_after, Converts}
use Rattle.record_conversion.specs.Conversions.{pixel_to_scene, scene_to_pixel}
use Rattle.strip.specs.Lent.{LentBytes}
use Rattle.promise.specs.Each.{ConvertedEach}
use Rattle.promise.specs.Scenes.{HoldsCodes, HoldsScene, DecodedRecord, EncodedRecord}
use Rattle.promise.proofs.Scenes.{pixels_decoded, scenes_encoded}

-- what holds of the rules' answer and output holds of the call's
module _ {c : Conversion} {input output after : List ℕ} {answer : Answer} (h : Converts c input output answer after) where
  pub of_call : (P : Answer → List ℕ → Type 0) → P (answer_of c input output) (output_after c input output (answer_of c input output)) → P answer after
  of_call P p =
      subst (P answer) (sym h.writes)
      (subst (λ (a : Answer). P a (output_after c input output a)) (sym h.answers) p)

  pub each_of_call : (R : (r out : List ℕ) → Type 0) (n : ℕ) → ConvertedEach c R input output n
      → (strip_result answer ≡ done (n ∷ [])) × ((k : ℕ) → k < n → R (record_at c.from k input) (record_at c.to k after))
  each_of_call R n e =
      of_call (λ a out. (strip_result a ≡ done (n ∷ [])) × ((k : ℕ) → k < n → R (record_at c.from k input) (record_at c.to k out))) (e.answers, e.each)

-- a call of pixel to scene, on a strip whose records hold pixels
pub decoded_by_call : {pixels output after : List ℕ} {answer : Answer} → Converts pixel_to_scene pixels output answer after → LentBytes pixels output after
    → (n : ℕ) → length pixels ≡ n * pixel_size → ((k : ℕ) → k < n → HoldsCodes (record_at pixel_size k pixels)) → n * numbers_size ≤ length output
    → (strip_result answer ≡ done (n ∷ [])) × ((k : ℕ) → k < n → DecodedRecord (record_at pixel_size k pixels) (record_at numbers_size k after))
decoded_by_call {pixels} {output} h lent n long each room =
    each_of_call h DecodedRecord n (pixels_decoded pixels output n (record { bytes = lent.input_bytes; long = long; each = each }) room)

-- and of scene to pixel
pub encoded_by_call : {scenes output after : List ℕ} {answer : Answer} → Converts scene_to_pixel scenes output answer after → LentBytes scenes output after
    → (n : ℕ) → length scenes ≡ n * numbers_size → ((k : ℕ) → k < n → HoldsScene (record_at numbers_size k scenes)) → n * pixel_size ≤ length output
    → (strip_result answer ≡ done (n ∷ [])) × ((k : ℕ) → k < n → EncodedRecord (record_at numbers_size k scenes) (record_at pixel_size k after))
encoded_by_call {scenes} {output} h lent n long each room =
    each_of_call h EncodedRecord n (scenes_encoded scenes output n (record { bytes = lent.input_bytes; long = long; each = each }) room)
