-- Strips: where a record is written, an accepted pixel strip is converted whole, and its ACES strip.
-- Assumes nothing.
use Rattle.std.specs.Prelude.{Ok}
use mathlib.Core.Path.{◌≡◌, refl, ap, ap₂, sym, ◌∙◌}
use mathlib.Core.List.{List, [], ◌++◌, append_assoc, append-nil}
use Prim.Native.Nat.{ℕ, zero, suc, ◌*◌, ◌/◌, ◌≤◌, ◌<◌}
use native.Mathlib.Nat.{mul-div_cancel, le_of_eq, zero-add}
use native.Mathlib.Omega.{arith}
use lib.Dec.{lit<}
use lib.ListN.{length, take, drop}
use lib.Seq.{take_at, drop_at}
use Rattle.rules.specs.Refusal.{Check, then}
use Rattle.rules.specs.declared.Setting.{Setting}
use Rattle.rules.specs.Setting.{aces_check, code_check}
use Rattle.rules.specs.Record.{IsBytes, setting_of, pixel_size, numbers_size, code_bytes, number_bytes}
use Rattle.rules.specs.Strip.{record_check, records, record_at, written}
use Rattle.rules.proofs.Records.{take_bytes, drop_bytes, length_record}
use Rattle.record_conversion.specs.Conversions.{pixel_to_aces}
use Rattle.record_conversion.proofs.Good.{Good}
use Rattle.rules.proofs.Strips.{length_at, length_written}
use Rattle.strip.proofs.First.{at_start, at_later, all_done}
use Rattle.strip.proofs.Back.{Whole}
use Rattle.promise.specs.Words.{HoldsPixelBy, Accepted, aces_strip}
use Rattle.rules.specs.Conversions.{channel_checks}

-- the k-th record that is written is that of the k-th record
pub written_at : (f : List ℕ → List ℕ) (to : ℕ) → ((r : List ℕ) → length (f r) ≡ to) → (size n : ℕ) (s rest : List ℕ) (k : ℕ) → k < n
    → record_at to k (written f (records size n s) ++ rest) ≡ f (record_at size k s)
unfolding written records
written_at f to long size zero s rest k h = absurd (omega arith)
written_at f to long size (suc n) s rest zero h =
    at_start to ((f (take size s) ++ written f (records size n (drop size s))) ++ rest)
    ∙ ap (take to) (append_assoc (f (take size s)) (written f (records size n (drop size s))) rest)
    ∙ take_at (f (take size s)) _ to (long (take size s))
    ∙ ap f (sym (at_start size s))
written_at f to long size (suc n) s rest (suc k) h =
    at_later to k ((f (take size s) ++ written f (records size n (drop size s))) ++ rest)
    ∙ ap (λ (l : List ℕ). record_at to k (drop to l)) (append_assoc (f (take size s)) (written f (records size n (drop size s))) rest)
    ∙ ap (record_at to k) (drop_at (f (take size s)) _ to (long (take size s)))
    ∙ written_at f to long size n (drop size s) rest k (omega arith)
    ∙ ap f (sym (at_later size k s))

-- what is written of two strips is the same where it is so record by record
pub same_written : (f g : List ℕ → List ℕ) (a b n : ℕ) (s t : List ℕ) → ((k : ℕ) → k < n → f (record_at a k s) ≡ g (record_at b k t)) → written f (records a n s) ≡ written g (records b n t)
unfolding written records
same_written f g a b zero s t h = refl
same_written f g a b (suc n) s t h =
    ap₂ (λ (x y : List ℕ). x ++ y) (ap f (sym (at_start a s)) ∙ h 0 (omega arith) ∙ ap g (at_start b t))
    (same_written f g a b n (drop a s) (drop b t) (λ k l. ap f (sym (at_later a k s)) ∙ h (suc k) (omega arith) ∙ ap g (at_later b k t)))

pub bytes_at : (size k : ℕ) (s : List ℕ) → IsBytes s → IsBytes (record_at size k s)
bytes_at size k s h = take_bytes size (drop (k * size) s) (drop_bytes (k * size) s h)

pub aces_long : (r : List ℕ) → length (pixel_to_aces.bytes r) ≡ numbers_size
aces_long r = length_record number_bytes (setting_of r) _

-- ---- an accepted strip
pub holds_passes : (check : Setting → Check) (r : List ℕ) → HoldsPixelBy (λ s. check s ≡ Ok tt) r → then (check (setting_of r)) (channel_checks code_bytes (code_check (setting_of r)) r) ≡ Ok tt
unfolding channel_checks
holds_passes check r h = rw (h.valid, h.pixel.red, h.pixel.green, h.pixel.blue)

module _ (pixels : List ℕ) (n : ℕ) (a : Accepted pixels n) where
  pub accepted_good : (k : ℕ) → k < n → Good pixel_to_aces (record_at pixel_size k pixels)
  accepted_good k h =
      record {
        long = length_at pixel_size n k pixels (le_of_eq (sym a.long)) h;
        bytes = bytes_at pixel_size k pixels a.bytes;
        passes = holds_passes aces_check (record_at pixel_size k pixels) (a.each k h);
      }

  -- is converted whole, with room for n ACES records
  pub accepted_whole : (output : List ℕ) → n * numbers_size ≤ length output → Whole pixel_to_aces pixels output n
  accepted_whole output room =
      record {
        long = a.long;
        room = room;
        passes = sym (all_done (record_check pixel_to_aces) pixel_size n pixels 0 (λ k h. (accepted_good k h).passes) ∙ ap Ok (zero-add n));
      }

  -- it has n records
  pub whole_records : length pixels / pixel_size ≡ n
  whole_records = ap (λ (m : ℕ). m / pixel_size) a.long ∙ mul-div_cancel n (lit< tt)

  -- and its ACES strip too
  pub aces_strip_records : aces_strip pixels ≡ written pixel_to_aces.bytes (records pixel_size n pixels)
  aces_strip_records = ap (λ (m : ℕ). written pixel_to_aces.bytes (records pixel_size m pixels)) whole_records

  pub aces_strip_long : length (aces_strip pixels) ≡ n * numbers_size
  aces_strip_long = ap length aces_strip_records ∙ length_written pixel_to_aces.bytes numbers_size aces_long pixel_size n pixels

  -- the k-th is that of the k-th pixel record
  pub aces_strip_at : (k : ℕ) → k < n → record_at numbers_size k (aces_strip pixels) ≡ pixel_to_aces.bytes (record_at pixel_size k pixels)
  aces_strip_at k h =
      ap (record_at numbers_size k) (aces_strip_records ∙ sym (append-nil (written pixel_to_aces.bytes (records pixel_size n pixels))))
      ∙ written_at pixel_to_aces.bytes numbers_size aces_long pixel_size n pixels [] k h
