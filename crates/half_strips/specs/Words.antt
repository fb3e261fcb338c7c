-- 02, item 6, of strips: what the conversions between ACES records and half records write, each in the channel and with the setting of its own
-- record; and two pixels that share a half record.
-- Assumes nothing.
use Rattle.std.specs.Prelude.{List, ◌≡◌, ℕ, ◌*◌, ◌^◌, ◌<◌, length}
use Rattle.rules.specs.declared.Setting.{Setting}
use Rattle.rules.specs.Conversions.{each_channel, aces_to_half}
use Rattle.rules.specs.Fraction.{whole, integer, ◌/ℚ◌, Versus}
use Rattle.rules.specs.Half.{IsFinite, half_value, half_units, IsNearestHalf, with_plus_zero, half_of}
use Rattle.rules.specs.Pixels.{pixel}
use Rattle.rules.specs.Record.{IsBytes, number_bytes, half_bytes, to_bits, of_bits, setting_of, channel_at, pixel_record, numbers_size, halves_size}
use Rattle.rules.specs.Setting.{ValidForAces}
use Rattle.rules.specs.Strip.{records, record_at, written}
use Rattle.promise.specs.Each.{EachChannel}
use Rattle.promise.specs.Words.{Accepted, aces_strip}

-- an ACES strip that is written as halves: a whole number of records, each with a setting that is valid for ACES. The numbers may be any
pub record AcceptedAces (aces : List ℕ) (n : ℕ) : Type 0 where
  pub bytes : IsBytes aces
  pub long : length aces ≡ n * numbers_size
  pub each : (k : ℕ) → k < n → ValidForAces (setting_of (record_at numbers_size k aces))

-- a half strip that is read: each record has three finite halves too
pub record HoldsHalves (r : List ℕ) : Type 0 where
  pub valid : ValidForAces (setting_of r)
  pub finite : (i : ℕ) → i < 3 → IsFinite (channel_at half_bytes r i)

pub record AcceptedHalves (halves : List ℕ) (n : ℕ) : Type 0 where
  pub bytes : IsBytes halves
  pub long : length halves ≡ n * halves_size
  pub each : (k : ℕ) → k < n → HoldsHalves (record_at halves_size k halves)

-- "Writing takes each ACES number to the nearest finite half, a tie to the even fraction"
abbrev pub IsWritten : Setting → (bits h : ℕ) → Type 0
IsWritten s bits h = IsNearestHalf (of_bits number_bytes bits) h

abbrev pub WrittenRecord : (aces half : List ℕ) → Type 0
WrittenRecord = EachChannel number_bytes half_bytes IsWritten

-- "Reading is exact": the number of units is the half's value over 2^-24
abbrev pub IsRead : Setting → (h bits : ℕ) → Type 0
IsRead s h bits = Versus (λ m n. m ≡ n) (half_value h) (integer (of_bits number_bytes bits) /ℚ whole (2 ^ 24))

abbrev pub ReadRecord : (half aces : List ℕ) → Type 0
ReadRecord = EachChannel half_bytes number_bytes IsRead

-- a half record read and written again: its bits, "save that minus zero becomes plus zero"
abbrev pub read_and_written : List ℕ → List ℕ
read_and_written r = each_channel half_bytes half_bytes (setting_of r) with_plus_zero r

-- an ACES record written as halves and read again: in each channel the units of the nearest half
abbrev pub nearest_units : (bits : ℕ) → ℕ
nearest_units bits = to_bits number_bytes (half_units (half_of (of_bits number_bytes bits)))

abbrev pub written_and_read : List ℕ → List ℕ
written_and_read r = each_channel number_bytes number_bytes (setting_of r) nearest_units r

-- the half strip that is made of an ACES strip of n records. (That it is what ACES to half writes is the theorem half-strip-is-written.)
abbrev pub half_strip : (n : ℕ) → List ℕ → List ℕ
half_strip n aces = written aces_to_half.bytes (records numbers_size n aces)

-- "Different pixels may share a half record": two pixel strips of one record that are accepted and differ, and whose ACES strips, by the decoded
-- numbers, make one half strip
pub record ShareHalf (first second : List ℕ) : Type 0 where
  pub first_accepted : Accepted first 1
  pub second_accepted : Accepted second 1
  pub differ : first ≡ second → ⊥
  pub same_half : half_strip 1 (aces_strip first) ≡ half_strip 1 (aces_strip second)

-- such a pair: curve 3, width 16, EI 800, with the red codes 1001 and 1002, and green and blue 1001
abbrev pub pair_setting : Setting
pair_setting = record { curve = 3; width = 16; ei = 800 }

abbrev pub with_red : (red : ℕ) → List ℕ
with_red red = pixel_record pair_setting (pixel red 1001 1001)
