-- 02, item 8: THE TOLERANT WAY BACK, of any one record and of every strip of bytes, settings mixed.
-- Assumes nothing.
use Rattle.std.specs.Prelude.{Err, None, Ok, Option, Some}
use mathlib.Core.Logic.{◌↔◌, ◌⊎◌, inl, inr}
use mathlib.Core.Path.{◌≡◌, refl, ap, sym, ◌∙◌}
use mathlib.Core.List.{List, [], ◌∷◌, ◌++◌}
use Prim.Native.Nat.{ℕ, ◌*◌, ◌≤◌, ◌<◌}
use native.Mathlib.Omega.{arith}
use lib.Dec.{lit<}
use lib.ListN.{length, drop}
use Rattle.whole.proofs.Apart.{less_or_not}
use Rattle.rules.specs.Refusal.{Check, number_of}
use Rattle.rules.specs.declared.Distance.{Distance}
use Rattle.rules.specs.declared.Distance.TheVariants.{Exact, Tolerant}
use Rattle.rules.specs.Triples.{Pixel, Triple}
use Rattle.rules.specs.declared.Refusal.TheVariants.{ShortOutput, NoPixel}
use Rattle.rules.specs.declared.Setting.{Setting}
use Rattle.rules.specs.Pixels.{IsPixel}
use Rattle.rules.specs.Record.{IsBytes, setting_of, triple_in, pixel_size, numbers_size}
use Rattle.rules.specs.Result.{done, refused_by, strip_result}
use Rattle.rules.specs.Setting.{aces_check, ValidForAces}
use Rattle.rules.specs.Strip.{record_check, record_at, answer_of, output_after, result_of, strip_after}
use Rattle.rules.specs.WayBack.{found_check, exact, tolerated, distance_of}
use Rattle.rules.proofs.Results.{done_answer}
use Rattle.rules.proofs.Settings.{both, refused_never}
use Rattle.record_conversion.specs.Conversions.{back_within, aces_to_pixel, aces_to_pixel_tolerant}
use Rattle.strip.proofs.Join.{short_answer}
use Rattle.strip.proofs.Same.{same_converted}
use Rattle.way_back.specs.Back.{pixel_for, way_back_result}
use Rattle.way_back.proofs.Theorems.{exact_then_either}
use Rattle.promise.specs.Words.{Accepted, aces_strip, WithoutPixel, GivesOnly, Without, OnlyPixel, SomeWithout, FirstWithout, refused_at, ReportsFirst}
use Rattle.promise.proofs.Judged as judged
use Rattle.promise.proofs.Strips.{aces_strip_long}
use Rattle.promise.proofs.Taken as taken
use Rattle.tolerant_strips.specs.Words.{HasNear, GivesNear, MovedStrip}

-- what the words say is what a way back at that distance reads
near_reads : (s : Setting) (a : Triple) → judged.Reads Tolerant s a (HasNear s a)
near_reads s a v p i = (λ e. e, λ e. e)

record_reads : (r : List ℕ) → IsBytes r → length r ≡ numbers_size → judged.Reads Tolerant (setting_of r) (triple_in r) (GivesNear r)
record_reads r h l = near_reads (setting_of r) (triple_in r)

-- ---- any strip of n ACES records, with an output long enough
module _ (aces output : List ℕ) (n : ℕ) (h : IsBytes aces) (l : length aces ≡ n * numbers_size) (room : n * pixel_size ≤ length output) where
  -- IT REFUSES EXACTLY when some record has no valid setting or no pixel within five units
  pub tolerant_refuses_exactly : (0 < (result_of aces_to_pixel_tolerant aces output).number) ↔ SomeWithout GivesNear aces n
  tolerant_refuses_exactly = taken.refuses_exactly Tolerant GivesNear record_reads aces output n h l room

  -- and reports the first such record, with its number and index
  pub tolerant_reports_first : SomeWithout GivesNear aces n → ReportsFirst GivesNear aces n (result_of aces_to_pixel_tolerant aces output)
  tolerant_reports_first = taken.reports_first Tolerant GivesNear record_reads aces output n h l room

  pub tolerant_refuses_first : (k : ℕ) → (result_of aces_to_pixel_tolerant aces output ≡ refused_at aces k) ↔ FirstWithout GivesNear aces n k
  tolerant_refuses_first = taken.refuses_first Tolerant GivesNear record_reads aces output n h l room

  -- it converts exactly when there is none
  pub tolerant_converts_exactly : (result_of aces_to_pixel_tolerant aces output ≡ done (n ∷ [])) ↔ ((k : ℕ) → k < n → Without GivesNear (record_at numbers_size k aces) → ⊥)
  tolerant_converts_exactly = taken.converts_exactly Tolerant GivesNear record_reads aces output n h l room

  -- and then EACH RECORD comes back as the only pixel of its setting within five units
  pub tolerant_comes_back : result_of aces_to_pixel_tolerant aces output ≡ done (n ∷ []) → (k : ℕ) → k < n
      → OnlyPixel GivesNear (record_at numbers_size k aces) (record_at pixel_size k (strip_after aces_to_pixel_tolerant aces output))
  tolerant_comes_back = taken.comes_back Tolerant GivesNear record_reads aces output n h l room

-- ---- A MOVED MASTER comes back: the pixel strip that the master was made from, byte for byte
pub moved_returns : (pixels aces output : List ℕ) (n : ℕ) → Accepted pixels n → MovedStrip aces (aces_strip pixels) n → length pixels ≤ length output
    → (result_of aces_to_pixel_tolerant aces output ≡ done (n ∷ [])) × (strip_after aces_to_pixel_tolerant aces output ≡ pixels ++ drop (length pixels) output)
moved_returns pixels aces output n a m room =
    taken.moved_returns Tolerant pixels aces output n a m.long (λ k i. (m.each k i).setting) (λ k i. (m.each k i).near) room

-- ---- either road
back_as_exact : (r : List ℕ) → record_check aces_to_pixel r ≡ Ok tt → (record_check aces_to_pixel_tolerant r ≡ Ok tt) × (aces_to_pixel_tolerant.bytes r ≡ aces_to_pixel.bytes r)
back_as_exact r e =
    let v = both (aces_check (setting_of r)) (found_check (pixel_for exact (setting_of r) (triple_in r))) e in
    go v.0 (pixel_for exact (setting_of r) (triple_in r)) refl v.1
  where
    go : ValidForAces (setting_of r) → (f : Option Pixel) → pixel_for exact (setting_of r) (triple_in r) ≡ f → found_check f ≡ Ok tt
        → (record_check aces_to_pixel_tolerant r ≡ Ok tt) × (aces_to_pixel_tolerant.bytes r ≡ aces_to_pixel.bytes r)
    go v (Some p) f k = let t = exact_then_either Tolerant (setting_of r) v (triple_in r) p f in (rw (v, t), rw (t, f))
    go v None f k = refused_never k

-- WHERE THE EXACT WAY BACK CONVERTS a strip, the tolerant one gives the same count and the same bytes
pub tolerant_as_exact : (aces output : List ℕ) (n : ℕ) → result_of aces_to_pixel aces output ≡ done (n ∷ [])
    → (result_of aces_to_pixel_tolerant aces output ≡ done (n ∷ [])) × (strip_after aces_to_pixel_tolerant aces output ≡ strip_after aces_to_pixel aces output)
tolerant_as_exact aces output n e =
    let d = done_answer (answer_of aces_to_pixel aces output) n e in
    let s = same_converted aces_to_pixel aces_to_pixel_tolerant back_as_exact (lit< tt) aces output n d in
    (ap strip_result (sym s.0), ap (output_after aces_to_pixel_tolerant aces output) (sym s.0) ∙ s.1 ∙ ap (output_after aces_to_pixel aces output) d)

-- AN UNMOVED MASTER gives the same result by either road, whatever the output: the pixel strip that it was made from where that fits, and else a
-- refusal of the output
pub either_road : (pixels output : List ℕ) (n : ℕ) → Accepted pixels n
    → (result_of aces_to_pixel_tolerant (aces_strip pixels) output ≡ result_of aces_to_pixel (aces_strip pixels) output)
    × (strip_after aces_to_pixel_tolerant (aces_strip pixels) output ≡ strip_after aces_to_pixel (aces_strip pixels) output)
unfolding output_after
either_road pixels output n a = go (less_or_not (length output) (length pixels))
  where
    -- an output that is too short is refused, and is as it was
    short : (k : Distance) → length output < length pixels
        → (result_of (back_within (distance_of k)) (aces_strip pixels) output ≡ refused_by (number_of ShortOutput) 0) × (strip_after (back_within (distance_of k)) (aces_strip pixels) output ≡ output)
    short k h =
        let e = short_answer (back_within (distance_of k)) (aces_strip pixels) output n (lit< tt) (aces_strip_long pixels n a) (omega (arith, a.long)) in
        (ap strip_result e, ap (output_after (back_within (distance_of k)) (aces_strip pixels) output) e)

    go : (length output < length pixels) ⊎ (length pixels ≤ length output)
        → (result_of aces_to_pixel_tolerant (aces_strip pixels) output ≡ result_of aces_to_pixel (aces_strip pixels) output)
        × (strip_after aces_to_pixel_tolerant (aces_strip pixels) output ≡ strip_after aces_to_pixel (aces_strip pixels) output)
    go (inl h) = let t = short Tolerant h in let e = short Exact h in (t.0 ∙ sym e.0, t.1 ∙ sym e.1)
    go (inr h) =
        let t = taken.unmoved_returns Tolerant pixels output n a h in
        let e = taken.unmoved_returns Exact pixels output n a h in
        (t.0 ∙ sym e.0, t.1 ∙ sym e.1)

-- ---- any one ACES record: any setting bytes, any three numbers
module _ (s : Setting) (a : Triple) where
  -- what the tolerant way back gives is a refusal of a record without a pixel within five units, or the only such pixel
  pub tolerant_one_record : GivesOnly s (HasNear s a) (way_back_result tolerated s a)
  tolerant_one_record = judged.one_record Tolerant s a (HasNear s a) (near_reads s a)

  pub tolerant_one_refuses : (0 < (way_back_result tolerated s a).number) ↔ WithoutPixel s (HasNear s a)
  tolerant_one_refuses = judged.one_refuses Tolerant s a (HasNear s a) (near_reads s a)

  -- by 10 exactly when the setting is valid and there is no such pixel
  pub tolerant_ten_exactly : ((way_back_result tolerated s a).number ≡ 10) ↔ (ValidForAces s × ((p : Pixel) → IsPixel s p → HasNear s a p → ⊥))
  tolerant_ten_exactly = judged.ten_exactly Tolerant s a (HasNear s a) (near_reads s a)

  -- where the exact way back returns a pixel, the tolerant one returns the same
  pub tolerant_one_as_exact : (way_back_result exact s a).number ≡ 0 → way_back_result tolerated s a ≡ way_back_result exact s a
  unfolding way_back_result
  tolerant_one_as_exact = go (aces_check s) refl (pixel_for exact s a) refl
    where
      go : (x : Check) → aces_check s ≡ x → (f : Option Pixel) → pixel_for exact s a ≡ f → (way_back_result exact s a).number ≡ 0 → way_back_result tolerated s a ≡ way_back_result exact s a
      go (Err why) e f g z = rw e
      go (Ok tt) e (Some p) g z = let t = exact_then_either Tolerant s e a p g in rw (e, g, t)
      go (Ok tt) e None g z = let n : number_of NoPixel ≡ 0 = rw (e, g) at z in absurd (omega arith)
