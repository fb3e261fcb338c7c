-- STRIPS, BY EITHER WAY BACK: an ACES strip whose numbers were moved by no more than its distance comes back; and any strip of ACES records is
-- refused exactly where a record is without a pixel, and else comes back as the only pixels that give its records.
-- Assumes nothing.
use Rattle.std.specs.Prelude.{Err, Ok}
use mathlib.Core.Bool.{true}
use mathlib.Core.Path.{◌≡◌, refl, ap, sym, ◌∙◌, subst}
use mathlib.Core.Logic.{◌↔◌}
use mathlib.Core.List.{List, [], ◌∷◌, ◌++◌}
use Prim.Native.Nat.{ℕ, ◌*◌, ◌≤◌, ◌<◌}
use native.Mathlib.Nat.{le_of_eq, zero-add}
use native.Mathlib.Omega.{arith}
use lib.Dec.{lit<}
use lib.ListN.{length, drop}
use Rattle.rules.specs.Refusal.{Answer, Check}
use Rattle.rules.specs.Refusal as refusal
use Rattle.rules.specs.declared.Distance.{Distance}
use Rattle.rules.specs.Triples.{Pixel}
use Rattle.rules.specs.declared.Refusal.{Refusal}
use Rattle.rules.specs.Record.{IsBytes, setting_of, triple_in, code_bytes, pixel_size, numbers_size}
use Rattle.rules.specs.Result.{Result, done, refused_by, strip_result}
use Rattle.rules.specs.Strip.{Conversion, record_check, record_at, scan_of, answer_of, output_after, result_of, strip_after}
use Rattle.rules.specs.WayBack.{within3, distance_of}
use Rattle.rules.proofs.Records.{length_record}
use Rattle.rules.proofs.Results.{done_answer, refused_answer}
use Rattle.rules.proofs.Within.{near_within3, triple_more, same_triple}
use Rattle.record_conversion.specs.Conversions.{back_within}
use Rattle.rules.proofs.Strips.{length_at}
use Rattle.strip_passes.proofs.FirstPass.{scan_passes}
use Rattle.strip.proofs.Back.{whole_strip}
use Rattle.strip.proofs.Exactly.{converted_exactly}
use Rattle.strip.proofs.First.{first_answered, answered_first}
use Rattle.strip.proofs.Join.{whole_answer}
use Rattle.promise.specs.Words.{Accepted, aces_strip, Without, OnlyPixel, SomeWithout, FirstWithout, refused_at, ReportsFirst}
use Rattle.promise.proofs.Judged.{Reads, refusal_positive}
use Rattle.promise.proofs.Single.{passed_only, without_refused, refused_without, same_setting, taken_back}
use Rattle.promise.proofs.Strips.{written_at, bytes_at, same_written, accepted_good, aces_strip_long, aces_strip_at}

-- ---- an ACES strip that was made from an accepted pixel strip, but for numbers that were moved by at most the distance
module _ (k : Distance) (pixels aces output : List ℕ) (n : ℕ) (a : Accepted pixels n) (l : length aces ≡ n * numbers_size)
    (kept : (i : ℕ) → i < n → setting_of (record_at numbers_size i aces) ≡ setting_of (record_at numbers_size i (aces_strip pixels)))
    (near : (i : ℕ) → i < n → within3 (distance_of k) (triple_in (record_at numbers_size i aces)) (triple_in (record_at numbers_size i (aces_strip pixels))) ≡ true) (room : length pixels ≤ length output) where
  abbrev back : Conversion
  back = back_within (distance_of k)

  record_back : (i : ℕ) → i < n → (record_check back (record_at numbers_size i aces) ≡ Ok tt) × (back.bytes (record_at numbers_size i aces) ≡ record_at pixel_size i pixels)
  record_back i h =
      let g = accepted_good pixels n a i h in
      let w = aces_strip_at pixels n a i h in
      taken_back (record_at pixel_size i pixels) g k (record_at numbers_size i aces) (kept i h ∙ ap setting_of w ∙ same_setting (record_at pixel_size i pixels) g)
      (ap (λ (b : List ℕ). within3 (distance_of k) (triple_in (record_at numbers_size i aces)) (triple_in b)) (sym w) ∙ near i h)

  -- THE STRIP COMES BACK, byte for byte
  pub moved_returns : (result_of (back_within (distance_of k)) aces output ≡ done (n ∷ [])) × (strip_after (back_within (distance_of k)) aces output ≡ pixels ++ drop (length pixels) output)
  unfolding output_after
  moved_returns =
      let e = (converted_exactly back (lit< tt) aces output n l (omega (arith, a.long))).1 (λ i h. (record_back i h).0) in
      let w = same_written back.bytes (λ r. r) numbers_size pixel_size n aces pixels (λ i h. (record_back i h).1) ∙ whole_strip pixel_size n pixels a.long in (
        e,
        ap (output_after back aces output) (sym (done_answer (answer_of back aces output) n e)) ∙ rw (w, ← a.long),
      )

-- AN UNMOVED STRIP comes back by either way back
pub unmoved_returns : (k : Distance) (pixels output : List ℕ) (n : ℕ) → Accepted pixels n → length pixels ≤ length output
    → (result_of (back_within (distance_of k)) (aces_strip pixels) output ≡ done (n ∷ [])) × (strip_after (back_within (distance_of k)) (aces_strip pixels) output ≡ pixels ++ drop (length pixels) output)
unmoved_returns k pixels output n a room =
    moved_returns k pixels (aces_strip pixels) output n a (aces_strip_long pixels n a)
    (λ i h. refl) (λ i h. near_within3 (distance_of k) _ _ (triple_more (distance_of k) (same_triple refl))) room

-- ---- any strip of n ACES records, with an output long enough, where G says which pixels give a record
module _ (k : Distance) (G : List ℕ → Pixel → Type 0) (reads : (r : List ℕ) → IsBytes r → length r ≡ numbers_size → Reads k (setting_of r) (triple_in r) (G r))
    (aces output : List ℕ) (n : ℕ) (h : IsBytes aces) (l : length aces ≡ n * numbers_size) (room : n * pixel_size ≤ length output) where
  abbrev c : Conversion
  c = back_within (distance_of k)

  abbrev at : ℕ → List ℕ
  at i = record_at numbers_size i aces

  read : (i : ℕ) → i < n → Reads k (setting_of (record_at numbers_size i aces)) (triple_in (record_at numbers_size i aces)) (G (record_at numbers_size i aces))
  read i j = reads (at i) (bytes_at numbers_size i aces h) (length_at numbers_size n i aces (le_of_eq (sym l)) j)

  scanned : answer_of c aces output ≡ scan_of c n aces
  scanned = whole_answer c aces output n (lit< tt) l room

  converted_passes : result_of c aces output ≡ done (n ∷ []) → (i : ℕ) → i < n → record_check c (record_at numbers_size i aces) ≡ Ok tt
  converted_passes = (converted_exactly c (lit< tt) aces output n l room).0

  -- a record that is not without a pixel passes
  with_pixel : (i : ℕ) → i < n → (Without G (record_at numbers_size i aces) → ⊥) → record_check c (record_at numbers_size i aces) ≡ Ok tt
  with_pixel i j never = go (record_check c (at i)) refl
    where
      go : (x : Check) → record_check (back_within (distance_of k)) (record_at numbers_size i aces) ≡ x → x ≡ Ok tt
      go (Ok tt) e = refl
      go (Err why) e = absurd (never (refused_without k G (at i) (read i j) why e).0)

  -- the first refused record is without a pixel, and those before it are not; its number
  first_is : (i : ℕ) (why : Refusal) → answer_of c aces output ≡ refusal.refused_at why i → FirstWithout G aces n i × (result_of c aces output ≡ refused_at aces i)
  first_is i why e =
      let f = answered_first (record_check c) numbers_size n aces i why (sym scanned ∙ e) in
      let r = refused_without k G (at i) (read i f.in_range) why f.refused in (
        record {
          in_range = f.in_range;
          without = r.0;
          before = λ j m w. without_refused k G (at j) (read j (omega (arith, f.in_range))) w (f.before j m);
        },
        ap strip_result e ∙ ap (λ (m : ℕ). refused_by m i) r.1,
      )

  -- 4. "it refuses exactly when some record has no valid setting or no pixel of its setting gives it, and it reports the first such record":
  -- the number and the index that are reported
  pub refuses_first : (i : ℕ) → (result_of (back_within (distance_of k)) aces output ≡ refused_at aces i) ↔ FirstWithout G aces n i
  refuses_first i = (λ e. let r = refused_answer (answer_of c aces output) _ i e in (first_is i r.why r.is).0, back_again)
    where
      back_again : FirstWithout G aces n i → result_of (back_within (distance_of k)) aces output ≡ refused_at aces i
      back_again f = go (record_check c (at i)) refl
        where
          go : (x : Check) → record_check (back_within (distance_of k)) (record_at numbers_size i aces) ≡ x → result_of (back_within (distance_of k)) aces output ≡ refused_at aces i
          go (Ok tt) e = absurd (without_refused k G (at i) (read i f.in_range) f.without e)
          go (Err why) e =
              (first_is i why
              (scanned
              ∙ first_answered (record_check c) numbers_size n aces 0 i why
              (record { in_range = f.in_range; refused = e; before = λ j m. with_pixel j (omega (arith, f.in_range)) (f.before j m) })
              ∙ ap (refusal.refused_at why) (zero-add i))
              ).1

  -- it converts exactly when every record is given by a pixel
  pub converts_exactly : (result_of (back_within (distance_of k)) aces output ≡ done (n ∷ [])) ↔ ((i : ℕ) → i < n → Without G (record_at numbers_size i aces) → ⊥)
  converts_exactly = (
    λ e i j w. without_refused k G (at i) (read i j) w (converted_passes e i j),
    λ never. (converted_exactly c (lit< tt) aces output n l room).1 (λ i j. with_pixel i j (never i j)),
  )

  -- some record is without a pixel: then it refuses, and reports the first
  pub reports_first : SomeWithout G aces n → ReportsFirst G aces n (result_of (back_within (distance_of k)) aces output)
  reports_first w = go (answer_of c aces output) refl
    where
      go : (a : Answer) → answer_of (back_within (distance_of k)) aces output ≡ a → ReportsFirst G aces n (result_of (back_within (distance_of k)) aces output)
      go (Ok m) e =
          absurd (without_refused k G (at w.at) (read w.at w.in_range) w.without (scan_passes (record_check c) numbers_size n aces 0 m (sym e ∙ scanned) w.at w.in_range))
      go (Err x) e = let f = first_is x.index x.cause e in record { at = x.index; reported = f.1; first = f.0 }

  -- THE SENTENCE, of the whole strip: it refuses exactly when some record is without a pixel
  pub refuses_exactly : (0 < (result_of (back_within (distance_of k)) aces output).number) ↔ SomeWithout G aces n
  refuses_exactly = (go (answer_of c aces output) refl, λ w. let r = reports_first w in subst (λ (x : Result ℕ). 0 < x.number) (sym r.reported) (refusal_positive (setting_of (at r.at))))
    where
      go : (a : Answer) → answer_of (back_within (distance_of k)) aces output ≡ a → 0 < (strip_result a).number → SomeWithout G aces n
      go (Ok m) e p = absurd (omega arith)
      go (Err x) e p = let f = (first_is x.index x.cause e).0 in record { at = x.index; in_range = f.in_range; without = f.without }

  -- 5. where it does not refuse, "each record comes back as the only pixel of its setting that gives it"
  pub comes_back : result_of (back_within (distance_of k)) aces output ≡ done (n ∷ []) → (i : ℕ) → i < n → OnlyPixel G (record_at numbers_size i aces) (record_at pixel_size i (strip_after (back_within (distance_of k)) aces output))
  unfolding output_after
  comes_back e i j =
      subst (OnlyPixel G (at i))
      (sym (ap (λ (a : Answer). record_at pixel_size i (output_after c aces output a)) (sym (done_answer (answer_of c aces output) n e)) ∙ written_at c.bytes pixel_size (λ r. length_record code_bytes (setting_of r) _) numbers_size n aces (drop (n * pixel_size) output) i j))
      (passed_only k G (at i) (read i j) (converted_passes e i j))
