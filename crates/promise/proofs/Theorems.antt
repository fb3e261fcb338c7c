-- DEMAND 3, THE ARCHIVE PROMISE: equal pixel strips exactly when equal ACES strips; each ACES number less than the bound from the exact
-- curve and matrix; the way back returns the same bytes, and refuses exactly when a record has no valid setting or no pixel of its setting
-- gives it, naming the first such record. For every strip of bytes, settings mixed.
-- Assumes nothing.
use Rattle.std.specs.Prelude.{Ok}
use mathlib.Core.Path.{◌≡◌, ap, sym, ◌∙◌, subst}
use mathlib.Core.Logic.{◌↔◌}
use mathlib.Core.List.{List, [], ◌∷◌, ◌++◌}
use Prim.Native.Nat.{ℕ, zero, suc, ◌*◌, ◌≤◌, ◌<◌}
use native.Mathlib.Nat.{le_of_eq}
use native.Mathlib.Omega.{arith}
use lib.Dec.{lit<}
use lib.IntN.{ℤ}
use lib.ListN.{length, drop}
use Rattle.rules.specs.declared.Distance.TheVariants.{Exact}
use Rattle.rules.specs.declared.Setting.{Setting}
use Rattle.rules.specs.Triples.{Triple}
use Rattle.rules.specs.Result.{done, strip_result}
use Rattle.rules.specs.Setting.{code_check, Valid}
use Rattle.rules.specs.Decoding.{DecodesCode}
use Rattle.rules.specs.Exact.{scale_of}
use Rattle.rules.specs.ExactRow.{aces_tolerance, WithinRow}
use Rattle.rules.specs.Matrix.{matrix_of, aces_number, IsAces}
use Rattle.rules.specs.Record.{IsBytes, setting_of, pixel_in, pixel_size, numbers_size}
use Rattle.rules.specs.Strip.{Conversion, record_check, record_at, answer_of, output_after, result_of, strip_after}
use Rattle.rules.specs.WayBack.{exact}
use Rattle.decode.specs.Decoded.{decoded}
use Rattle.decode.proofs.Theorems.{decoding}
use Rattle.aces.proofs.Theorems.{aces_within, equal_codes}
use Rattle.record_conversion.specs.Conversions.{pixel_to_aces, aces_to_pixel}
use Rattle.record_conversion.proofs.Good.{Good}
use Rattle.strip.proofs.Back as back
use Rattle.way_back.specs.Back.{way_back_result}
use Rattle.promise.specs.Words.{Accepted, HoldsPixel, IsGrey, aces_strip, number_in, step_in, NearExact, Without, OnlyPixel, SomeWithout, FirstWithout, refused_at, ReportsFirst, WithoutPixel, GivesOnly, HasNumbers, GivesRecord}
use Rattle.promise.proofs.Judged as judged
use Rattle.promise.proofs.Single as single
use Rattle.promise.proofs.Single.{same_triple, record_reads, numbers_read}
use Rattle.promise.proofs.Strips.{aces_long, accepted_good, accepted_whole, aces_strip_records, aces_strip_long, aces_strip_at}
use Rattle.promise.proofs.Taken as taken

back_itself : (r : List ℕ) → Good pixel_to_aces r → (record_check aces_to_pixel (pixel_to_aces.bytes r) ≡ Ok tt) × (aces_to_pixel.bytes (pixel_to_aces.bytes r) ≡ r)
back_itself r g = single.back_itself r g Exact

-- THE NUMBER that every conversion uses for a code is a decoded number in the rules' sense
pub number_used : (s : Setting) → Valid s → (n : ℕ) → code_check s n ≡ Ok tt → DecodesCode s n (decoded s n)
number_used = decoding

-- a call that converts n records
called : (c : Conversion) (input output : List ℕ) (n : ℕ) (after : List ℕ) → Ok n ≡ answer_of c input output → output_after c input output (Ok n) ≡ after
    → (result_of c input output ≡ done (n ∷ [])) × (strip_after c input output ≡ after)
called c input output n after e w = (ap strip_result (sym e), ap (output_after c input output) (sym e) ∙ w)

-- what pixel to ACES writes for an accepted strip, into an output long enough, is the ACES strip made from it; the bytes beyond are as they were
pub aces_strip_is_written : (pixels output : List ℕ) (n : ℕ) → Accepted pixels n → n * numbers_size ≤ length output
    → (result_of pixel_to_aces pixels output ≡ done (n ∷ [])) × (strip_after pixel_to_aces pixels output ≡ aces_strip pixels ++ drop (n * numbers_size) output)
unfolding output_after
aces_strip_is_written pixels output n a room =
    called pixel_to_aces pixels output n (aces_strip pixels ++ drop (n * numbers_size) output) (back.whole_done pixel_to_aces pixels output n (lit< tt) (accepted_whole pixels n a output room))
    (ap (λ (l : List ℕ). l ++ drop (n * numbers_size) output) (sym (aces_strip_records pixels n a)))

-- 1. "For any two accepted pixel strips, the strips are equal exactly when the ACES strips made from them are equal."
pub equal_strips : (pixels others : List ℕ) (n m : ℕ) → Accepted pixels n → Accepted others m → (pixels ≡ others) ↔ (aces_strip pixels ≡ aces_strip others)
equal_strips pixels others n m a b = (λ e. ap aces_strip e, back_equal)
  where
    count : aces_strip pixels ≡ aces_strip others → m ≡ n
    count e = omega (arith, aces_strip_long pixels n a, aces_strip_long others m b, ap length e)

    back_equal : aces_strip pixels ≡ aces_strip others → pixels ≡ others
    back_equal e =
        let c = subst (Accepted others) (count e) b in
        back.same_strip pixel_to_aces aces_long aces_to_pixel back_itself pixels others (aces_strip pixels) (aces_strip others) n a.bytes b.bytes
        (accepted_whole pixels n a (aces_strip pixels) (le_of_eq (sym (aces_strip_long pixels n a))))
        (accepted_whole others n c (aces_strip others) (le_of_eq (sym (aces_strip_long others n c))))
        (sym (aces_strip_records pixels n a) ∙ e ∙ aces_strip_records others n c)

-- 2. "each ACES number made from it is less than .. from what the exact curve and matrix give"
-- the i-th number that is written
channel_number : (r : List ℕ) → Good pixel_to_aces r → (i : ℕ) → i < 3
    → number_in i (pixel_to_aces.bytes r) ≡ aces_number (matrix_of (setting_of r)) i (decoded (setting_of r) (pixel_in r).red.0) (decoded (setting_of r) (pixel_in r).green.0) (decoded (setting_of r) (pixel_in r).blue.0)
channel_number r g zero l = ap (λ (t : Triple). t.red.0) (same_triple r g)
channel_number r g (suc zero) l = ap (λ (t : Triple). t.green.0) (same_triple r g)
channel_number r g (suc (suc zero)) l = ap (λ (t : Triple). t.blue.0) (same_triple r g)
channel_number r g (suc (suc (suc i))) l = absurd (omega arith)

record_within : (r : List ℕ) → Good pixel_to_aces r → HoldsPixel r → (i : ℕ) → i < 3 → NearExact i r (pixel_to_aces.bytes r)
record_within r g h i l =
    subst (WithinRow aces_tolerance (matrix_of s) i (scale_of s) (step_in r (pixel_in r).red.0) (step_in r (pixel_in r).green.0) (step_in r (pixel_in r).blue.0)) (sym (channel_number r g i l))
    (aces_within s h.valid i l (pixel_in r).red.0 (pixel_in r).green.0 (pixel_in r).blue.0
    h.pixel.red h.pixel.green h.pixel.blue)
  where
    s : Setting
    s = setting_of r

pub strip_within : (pixels : List ℕ) (n : ℕ) → Accepted pixels n → (k : ℕ) → k < n → (i : ℕ) → i < 3 → NearExact i (record_at pixel_size k pixels) (record_at numbers_size k (aces_strip pixels))
strip_within pixels n a k h i l =
    subst (NearExact i (record_at pixel_size k pixels)) (sym (aces_strip_at pixels n a k h)) (record_within (record_at pixel_size k pixels) (accepted_good pixels n a k h) (a.each k h) i l)

-- DEMAND 2, "three equal codes give three equal ACES numbers", of what the strip holds: each is the code's decoded number
record_grey : (r : List ℕ) → Good pixel_to_aces r → HoldsPixel r → (c : ℕ) → IsGrey r c → (i : ℕ) → i < 3 → number_in i (pixel_to_aces.bytes r) ≡ decoded (setting_of r) c
record_grey r g h c e i l =
    let s = setting_of r in
    let d = equal_codes s h.valid c (subst (λ (m : ℕ). code_check s m ≡ Ok tt) e.red h.pixel.red) in
    channel_number r g i l ∙ same i (decoded s) ∙ grey i l d
  where
    same : (i : ℕ) (number : ℕ → ℤ)
        → aces_number (matrix_of (setting_of r)) i (number (pixel_in r).red.0) (number (pixel_in r).green.0) (number (pixel_in r).blue.0) ≡ aces_number (matrix_of (setting_of r)) i (number c) (number c) (number c)
    same i number = λ j. aces_number (matrix_of (setting_of r)) i (number (e.red j)) (number (e.green j)) (number (e.blue j))

    grey : (i : ℕ) → i < 3 → {x : ℤ} → IsAces (matrix_of (setting_of r)) x x x x x x → aces_number (matrix_of (setting_of r)) i x x x ≡ x
    grey zero l d = sym d.red_is
    grey (suc zero) l d = sym d.green_is
    grey (suc (suc zero)) l d = sym d.blue_is
    grey (suc (suc (suc i))) l d = absurd (omega arith)

pub strip_grey : (pixels : List ℕ) (n : ℕ) → Accepted pixels n → (k : ℕ) → k < n → (c : ℕ) → IsGrey (record_at pixel_size k pixels) c
    → (i : ℕ) → i < 3 → number_in i (record_at numbers_size k (aces_strip pixels)) ≡ decoded (setting_of (record_at pixel_size k pixels)) c
strip_grey pixels n a k h c e i l = ap (number_in i) (aces_strip_at pixels n a k h) ∙ record_grey (record_at pixel_size k pixels) (accepted_good pixels n a k h) (a.each k h) c e i l

-- 3. "The way back, given an output long enough, turns the ACES strip made from it into the same pixel strip, byte for byte, and reports its number
-- of records."
pub way_back_returns : (pixels output : List ℕ) (n : ℕ) → Accepted pixels n → length pixels ≤ length output
    → (result_of aces_to_pixel (aces_strip pixels) output ≡ done (n ∷ [])) × (strip_after aces_to_pixel (aces_strip pixels) output ≡ pixels ++ drop (length pixels) output)
way_back_returns pixels output n a room = taken.unmoved_returns Exact pixels output n a room

-- ---- any strip of n ACES records, with an output long enough
module _ (aces output : List ℕ) (n : ℕ) (h : IsBytes aces) (l : length aces ≡ n * numbers_size) (room : n * pixel_size ≤ length output) where
  -- 4. "it refuses exactly when some record has no valid setting or no pixel of its setting gives it, and it reports the first such record":
  -- the number and the index that are reported
  pub refuses_first : (k : ℕ) → (result_of aces_to_pixel aces output ≡ refused_at aces k) ↔ FirstWithout GivesRecord aces n k
  refuses_first = taken.refuses_first Exact GivesRecord record_reads aces output n h l room

  -- it converts exactly when every record is given by a pixel
  pub converts_exactly : (result_of aces_to_pixel aces output ≡ done (n ∷ [])) ↔ ((k : ℕ) → k < n → Without GivesRecord (record_at numbers_size k aces) → ⊥)
  converts_exactly = taken.converts_exactly Exact GivesRecord record_reads aces output n h l room

  -- some record is without a pixel: then it refuses, and reports the first
  pub reports_first : SomeWithout GivesRecord aces n → ReportsFirst GivesRecord aces n (result_of aces_to_pixel aces output)
  reports_first = taken.reports_first Exact GivesRecord record_reads aces output n h l room

  -- THE SENTENCE, of the whole strip: it refuses exactly when some record is without a pixel
  pub refuses_exactly : (0 < (result_of aces_to_pixel aces output).number) ↔ SomeWithout GivesRecord aces n
  refuses_exactly = taken.refuses_exactly Exact GivesRecord record_reads aces output n h l room

  -- 5. where it does not refuse, "each record comes back as the only pixel of its setting that gives it"
  pub comes_back : result_of aces_to_pixel aces output ≡ done (n ∷ []) → (k : ℕ) → k < n → OnlyPixel GivesRecord (record_at numbers_size k aces) (record_at pixel_size k (strip_after aces_to_pixel aces output))
  comes_back = taken.comes_back Exact GivesRecord record_reads aces output n h l room

-- ---- any one ACES record: any setting bytes, any three numbers
module _ (s : Setting) (a : Triple) where
  -- 4 and 5 of one record: what the way back gives is a refusal of a record without a pixel, or the only pixel that gives it
  pub one_record : GivesOnly s (HasNumbers s a) (way_back_result exact s a)
  one_record = judged.one_record Exact s a (HasNumbers s a) (numbers_read s a)

  -- so it refuses exactly when the setting is not valid or no pixel of it gives the numbers
  pub one_refuses : (0 < (way_back_result exact s a).number) ↔ WithoutPixel s (HasNumbers s a)
  one_refuses = judged.one_refuses Exact s a (HasNumbers s a) (numbers_read s a)
