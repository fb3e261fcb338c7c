-- 02, item 6: HALF STRIPS, for every strip of bytes, settings mixed.
-- Assumes nothing.
use Rattle.std.specs.Prelude.{Err, Ok}
use mathlib.Core.Path.{◌≡◌, refl, sym, ap, ◌∙◌, subst}
use mathlib.Core.List.{List, ◌++◌}
use Prim.Native.Nat.{ℕ, ◌*◌, ◌^◌, ◌≤◌, ◌<◌}
use native.Mathlib.Omega.{arith}
use lib.Dec.{lit<}
use lib.IntN.{ℤ}
use lib.ListN.{length, take, drop}
use Rattle.whole.specs.Parts.{up, dn}
use Rattle.whole.proofs.Reflect.{abs_is}
use Rattle.rules.specs.Refusal.{Check, then}
use Rattle.rules.specs.declared.Setting.{Setting}
use Rattle.rules.specs.Conversions.{channel_checks, no_check, half_bits, finite_check, unit_bits, aces_to_half, half_to_aces}
use Rattle.rules.specs.Fraction.{whole, integer, ◌/ℚ◌, Versus}
use Rattle.rules.specs.Half.{half_value, half_units, half_check, with_plus_zero, half_of}
use Rattle.rules.specs.Record.{IsBytes, number_bytes, half_bytes, to_bits, of_bits, setting_of, channel_at, numbers_size, halves_size}
use Rattle.rules.specs.Setting.{aces_check, ValidForAces}
use Rattle.rules.specs.Strip.{record_check, records, record_at, written, answer_of, output_after, strip_after}
use Rattle.rules.proofs.Results.{done_answer}
use Rattle.rules.proofs.Records.{of_to, bits_fit}
use Rattle.half.proofs.Signs.{units_below}
use Rattle.half.proofs.Theorems.{reading_exact, finite_passes, half_nearest, half_again}
use Rattle.record_conversion.proofs.Channelwise.{TakenBack}
use Rattle.strip.proofs.ChannelsBack.{channels_back}
use Rattle.promise.specs.Each.{ConvertedEach}
use Rattle.promise.proofs.EachChannel.{strip_each}
use Rattle.half_strips.specs.Words.{AcceptedAces, HoldsHalves, AcceptedHalves, IsWritten, WrittenRecord, IsRead, ReadRecord, read_and_written, nearest_units, written_and_read, half_strip}

-- ---- WRITING REFUSES NOTHING MORE than the setting: 3, 4, 5, 12
pub writing_checks : (r : List ℕ) → record_check aces_to_half r ≡ aces_check (setting_of r)
unfolding channel_checks
writing_checks r = go (aces_check (setting_of r))
  where
    go : (x : Check) → then x (Ok tt) ≡ x
    go (Ok tt) = refl
    go (Err why) = refl

-- ---- WRITING converts an accepted strip, and writes for each record its setting and the halves nearest to its numbers, channel by channel
half_fits : (v : ℤ) → half_of v < 256 ^ half_bytes
half_fits v = (half_nearest v).finite.bits

pub halves_written : (aces output : List ℕ) (n : ℕ) → AcceptedAces aces n → n * halves_size ≤ length output → ConvertedEach aces_to_half WrittenRecord aces output n
halves_written aces output n a room =
    strip_each aces_check number_bytes half_bytes no_check half_bits IsWritten (λ s v u l e. half_fits (of_bits number_bytes u)) (λ s v u l e. half_nearest (of_bits number_bytes u)) aces output n a.bytes a.long
    (λ k i. writing_checks (record_at numbers_size k aces) ∙ a.each k i) (lit< tt) room

-- the half strip is what it writes, and bytes beyond the last are unchanged
pub half_strip_is_written : (aces output : List ℕ) (n : ℕ) → AcceptedAces aces n → n * halves_size ≤ length output
    → strip_after aces_to_half aces output ≡ half_strip n aces ++ drop (n * halves_size) output
unfolding output_after
half_strip_is_written aces output n a room =
    ap (output_after aces_to_half aces output) (sym (done_answer (answer_of aces_to_half aces output) n (halves_written aces output n a room).answers))

-- ---- READING converts an accepted strip, and writes for each record its setting and exactly the values of its halves
module _ (h : ℕ) where
  fits : (2 * up (half_units h) < 256 ^ number_bytes) × (2 * dn (half_units h) ≤ 256 ^ number_bytes)
  fits = (omega (arith, abs_is (half_units h), units_below h), omega (arith, abs_is (half_units h), units_below h))

  read_fits : to_bits number_bytes (half_units h) < 256 ^ number_bytes
  read_fits = bits_fit number_bytes (half_units h) fits.0 fits.1

  read_back : of_bits number_bytes (to_bits number_bytes (half_units h)) ≡ half_units h
  read_back = of_to number_bytes (half_units h) fits.0 fits.1

  read_exactly : (s : Setting) → IsRead s h (unit_bits s h)
  read_exactly s = subst (λ (v : ℤ). Versus (λ m n. m ≡ n) (half_value h) (integer v /ℚ whole (2 ^ 24))) (sym read_back) (reading_exact h)

halves_pass : (r : List ℕ) → HoldsHalves r → record_check half_to_aces r ≡ Ok tt
unfolding channel_checks
halves_pass r h = rw (h.valid, passes 0 (lit< tt), passes 1 (lit< tt), passes 2 (lit< tt))
  where
    passes : (i : ℕ) → i < 3 → half_check (channel_at half_bytes r i) ≡ Ok tt
    passes i l = (finite_passes (channel_at half_bytes r i) (h.finite i l).bits).1 (h.finite i l)

pub halves_read : (halves output : List ℕ) (n : ℕ) → AcceptedHalves halves n → n * numbers_size ≤ length output → ConvertedEach half_to_aces ReadRecord halves output n
halves_read halves output n a room =
    strip_each aces_check half_bytes number_bytes finite_check unit_bits IsRead (λ s v u l e. read_fits u) (λ s v u l e. read_exactly u s) halves output n a.bytes a.long
    (λ k i. halves_pass (record_at halves_size k halves) (a.each k i)) (lit< tt) room

-- ---- READING AND WRITING AGAIN "returns its bits, save that minus zero becomes plus zero": of a strip that is read, where there is room for it
half_back : (s : Setting) → ValidForAces s → (h : ℕ) → h < 256 ^ half_bytes → finite_check s h ≡ Ok tt
    → TakenBack aces_check half_bytes number_bytes finite_check no_check unit_bits half_bits (λ s. with_plus_zero) s h
half_back s v h l e =
    record {
      fits = read_fits h;
      passes = refl;
      returns = ap half_of (read_back h) ∙ half_again h ((finite_passes h l).0 e);
    }

pub half_aces_half : (halves aces others : List ℕ) (n : ℕ) → IsBytes halves → Ok n ≡ answer_of half_to_aces halves aces → length halves ≤ length others
    → (Ok n ≡ answer_of aces_to_half (take (n * numbers_size) (output_after half_to_aces halves aces (Ok n))) others)
    × (output_after aces_to_half (take (n * numbers_size) (output_after half_to_aces halves aces (Ok n))) others (Ok n) ≡ written read_and_written (records halves_size n halves) ++ drop (length halves) others)
half_aces_half = channels_back aces_check half_bytes number_bytes finite_check no_check unit_bits half_bits (λ s. with_plus_zero) half_back

-- ---- WRITING AND READING AGAIN gives in each channel the units of the nearest half
aces_back : (s : Setting) → ValidForAces s → (u : ℕ) → u < 256 ^ number_bytes → no_check s u ≡ Ok tt
    → TakenBack aces_check number_bytes half_bytes no_check finite_check half_bits unit_bits (λ s. nearest_units) s u
aces_back s v u l e =
    let f = (half_nearest (of_bits number_bytes u)).finite in
    record {
      fits = half_fits (of_bits number_bytes u);
      passes = (finite_passes (half_of (of_bits number_bytes u)) f.bits).1 f;
      returns = refl;
    }

pub aces_half_aces : (aces halves others : List ℕ) (n : ℕ) → IsBytes aces → Ok n ≡ answer_of aces_to_half aces halves → length aces ≤ length others
    → (Ok n ≡ answer_of half_to_aces (take (n * halves_size) (output_after aces_to_half aces halves (Ok n))) others)
    × (output_after half_to_aces (take (n * halves_size) (output_after aces_to_half aces halves (Ok n))) others (Ok n) ≡ written written_and_read (records numbers_size n aces) ++ drop (length aces) others)
aces_half_aces = channels_back aces_check number_bytes half_bytes no_check finite_check half_bits unit_bits (λ s. nearest_units) aces_back
