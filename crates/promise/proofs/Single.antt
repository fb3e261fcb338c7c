-- One record of a strip: an ACES record passes the checks of a way back exactly where a pixel gives it; and pixel to ACES and back returns a
-- record, where its numbers were moved by no more than the distance of the way back.
-- Assumes nothing.
use Rattle.std.specs.Prelude.{Err, Ok, Option, Some}
use mathlib.Core.Bool.{true}
use mathlib.Core.Path.{◌≡◌, refl, ap, sym, ◌∙◌}
use mathlib.Core.List.{List}
use Prim.Native.Nat.{ℕ, ◌+◌, ◌*◌, ◌^◌}
use native.Mathlib.Omega.{arith}
use lib.ListN.{length, drop}
use Rattle.rules.specs.Refusal.{Check, number_of, number_of_check}
use Rattle.rules.specs.declared.Distance.{Distance}
use Rattle.rules.specs.declared.Distance.TheVariants.{Exact}
use Rattle.rules.specs.Triples.{Pixel, Triple}
use Rattle.rules.specs.declared.Refusal.{Refusal}
use Rattle.rules.specs.declared.Setting.{Setting}
use Rattle.rules.specs.Conversions.{channel_checks, pixel_found}
use Rattle.rules.specs.Pixels.{IsPixel, Small3}
use Rattle.rules.specs.Setting.{code_check, ValidForAces}
use Rattle.rules.specs.Record.{IsBytes, to_bits, of_bits, code_bytes, setting_of, channel_at, record_of, pixel_in, pixel_record, triple_in, aces_record, numbers_size, setting_bytes, number_bytes}
use Rattle.rules.specs.Strip.{record_check}
use Rattle.rules.specs.WayBack.{within3, distance_of}
use Rattle.rules.proofs.Channels.{codes_pixel}
use Rattle.rules.proofs.Within as within
use Rattle.rules.proofs.Within.{near_within3, triple_more, within3_equal}
use Rattle.rules.proofs.Written as written
use Rattle.rules.proofs.Written.{FitsSetting, fits_setting}
use Rattle.rules.proofs.Records.{value_small, drop_bytes, write_read, to_of}
use Rattle.rules.proofs.Settings.{both, refused_never}
use Rattle.aces.specs.OfPixel.{pixel_aces}
use Rattle.aces_inverse.specs.Reach.{InReach}
use Rattle.way_back.specs.Back.{pixel_for}
use Rattle.way_back.proofs.Reach.{pixel_reached}
use Rattle.way_back.proofs.Theorems.{given_found}
use Rattle.record_conversion.specs.Conversions.{pixel_to_aces, back_within}
use Rattle.record_conversion.proofs.Good.{Good}
use Rattle.promise.specs.Words.{given, refusal_of, HasNumbers, Without, OnlyPixel, GivesRecord}
use Rattle.promise.proofs.Judged.{Reads, Judged, judged, not_both}

-- ---- what is read of an ACES record that was written
module _ (s : Setting) (f : FitsSetting s) (a : Triple) (g : InReach a.red.0 a.green.0 a.blue.0) where
  fit : Small3 (2 ^ 40) a.red.0 a.green.0 a.blue.0
  fit = record { red = omega (arith, g.red); green = omega (arith, g.green); blue = omega (arith, g.blue) }

  pub setting_read : setting_of (aces_record s a) ≡ s
  setting_read = written.setting_read s f a.red.0 a.green.0 a.blue.0 fit

  pub triple_read : triple_in (aces_record s a) ≡ a
  triple_read =
      let e = written.numbers_read s f a.red.0 a.green.0 a.blue.0 fit in
      λ i. record { red = record { 0 = e.0 i }; green = record { 0 = e.1 i }; blue = record { 0 = e.2 i } }

-- ---- an ACES record is the record of its setting and numbers
pub record_read : (r : List ℕ) → IsBytes r → length r ≡ numbers_size → aces_record (setting_of r) (triple_in r) ≡ r
record_read r h l =
    ap (record_of number_bytes (setting_of r)) (λ i. record { red = bits 0 i; green = bits 1 i; blue = bits 2 i }) ∙ write_read number_bytes r h l
  where
    bits : (i : ℕ) → to_bits number_bytes (of_bits number_bytes (channel_at number_bytes r i)) ≡ channel_at number_bytes r i
    bits i =
        let at : ℕ = setting_bytes + i * number_bytes in
        to_of number_bytes (channel_at number_bytes r i) (value_small number_bytes (drop at r) (drop_bytes at r h))

-- ---- a pixel gives an ACES record exactly where it has its numbers
module _ (r : List ℕ) (h : IsBytes r) (l : length r ≡ numbers_size) where
  abbrev s : Setting
  s = setting_of r

  numbers_given : ValidForAces s → (p : Pixel) → IsPixel s p → given s p ≡ r → pixel_aces s p ≡ triple_in r
  numbers_given v p i e = sym (triple_read s (fits_setting r h) (pixel_aces s p) (pixel_reached s v p i)) ∙ ap triple_in e

  record_given : (p : Pixel) → pixel_aces s p ≡ triple_in r → given s p ≡ r
  record_given p e = ap (aces_record s) e ∙ record_read r h l

  pub record_reads : Reads Exact (setting_of r) (triple_in r) (GivesRecord r)
  record_reads v p i = let w = within3_equal (triple_in r) (pixel_aces s p) in (λ e. w.1 (sym (numbers_given v p i e)), λ e. record_given p (sym (w.0 e)))

pub numbers_read : (s : Setting) (a : Triple) → Reads Exact s a (HasNumbers s a)
numbers_read s a v p i = let w = within3_equal a (pixel_aces s p) in (λ e. w.1 (sym e), λ e. sym (w.0 e))

-- ---- a record, judged by a way back
module _ (k : Distance) (G : List ℕ → Pixel → Type 0) (r : List ℕ) (reads : Reads k (setting_of r) (triple_in r) (G r)) where
  abbrev f : Option Pixel
  f = pixel_for (distance_of k) (setting_of r) (triple_in r)

  here : Judged (setting_of r) (G r) (record_check (back_within (distance_of k)) r) (pixel_for (distance_of k) (setting_of r) (triple_in r))
  here = judged k (setting_of r) (triple_in r) (G r) reads

  -- THE RECORD PASSES: it comes back as the only pixel that gives it
  pub passed_only : record_check (back_within (distance_of k)) r ≡ Ok tt → OnlyPixel G r ((back_within (distance_of k)).bytes r)
  passed_only e = go (record_check (back_within (distance_of k)) r) f here e
    where
      go : (x : Check) (f : Option Pixel) → Judged (setting_of r) (G r) x f → x ≡ Ok tt → OnlyPixel G r (pixel_record (setting_of r) (pixel_found f))
      go _ _ (Judged.returned p o) e = record { pixel = p; is_only = o; holds = refl }
      go _ _ (Judged.refused why f w n) e = refused_never e

  -- so a record without a pixel does not
  pub without_refused : Without G r → record_check (back_within (distance_of k)) r ≡ Ok tt → ⊥
  without_refused w e = not_both w (passed_only e).is_only

  -- and what is refused is without one
  pub refused_without : (why : Refusal) → record_check (back_within (distance_of k)) r ≡ Err why → Without G r × (number_of why ≡ refusal_of (setting_of r))
  refused_without why e = go (record_check (back_within (distance_of k)) r) f here e
    where
      go : (x : Check) (f : Option Pixel) → Judged (setting_of r) (G r) x f → x ≡ Err why → Without G r × (number_of why ≡ refusal_of (setting_of r))
      go _ _ (Judged.returned p o) e = refused_never (sym e)
      go _ _ (Judged.refused w f without n) e = (without, ap number_of_check (sym e) ∙ n)

-- ---- pixel to ACES and back, by either way back
module _ (r : List ℕ) (g : Good pixel_to_aces r) where
  abbrev setting : Setting
  setting = setting_of r

  checked : ValidForAces setting × (channel_checks code_bytes (code_check setting) r ≡ Ok tt)
  checked = both (pixel_to_aces.setting setting) (pixel_to_aces.inner r) g.passes

  pixel : IsPixel setting (pixel_in r)
  pixel = codes_pixel setting r checked.1

  small : InReach (pixel_aces setting (pixel_in r)).red.0 (pixel_aces setting (pixel_in r)).green.0 (pixel_aces setting (pixel_in r)).blue.0
  small = pixel_reached setting checked.0 (pixel_in r) pixel

  pub same_setting : setting_of (pixel_to_aces.bytes r) ≡ setting
  same_setting = setting_read setting (fits_setting r g.bytes) (pixel_aces setting (pixel_in r)) small

  pub same_triple : triple_in (pixel_to_aces.bytes r) ≡ pixel_aces setting (pixel_in r)
  same_triple = triple_read setting (fits_setting r g.bytes) (pixel_aces setting (pixel_in r)) small

  -- an ACES record of the same setting, whose numbers are at most the distance from those that are written
  pub taken_back : (k : Distance) (a : List ℕ) → setting_of a ≡ setting → within3 (distance_of k) (triple_in a) (triple_in (pixel_to_aces.bytes r)) ≡ true
      → (record_check (back_within (distance_of k)) a ≡ Ok tt) × ((back_within (distance_of k)).bytes a ≡ r)
  taken_back k a e w =
      let n : within3 (distance_of k) (triple_in a) (pixel_aces setting (pixel_in r)) ≡ true = ap (within3 (distance_of k) (triple_in a)) (sym same_triple) ∙ w in
      let finds : pixel_for (distance_of k) (setting_of a) (triple_in a) ≡ Some (pixel_in r) = rw e (given_found k setting checked.0 (triple_in a) (pixel_in r) pixel n) in
      (rw (finds, e, checked.0), rw (finds, e) (write_read code_bytes r g.bytes g.long))

  -- and so what is written
  pub back_itself : (k : Distance) → (record_check (back_within (distance_of k)) (pixel_to_aces.bytes r) ≡ Ok tt) × ((back_within (distance_of k)).bytes (pixel_to_aces.bytes r) ≡ r)
  back_itself k = taken_back k (pixel_to_aces.bytes r) same_setting (near_within3 (distance_of k) _ _ (triple_more (distance_of k) (within.same_triple refl)))
