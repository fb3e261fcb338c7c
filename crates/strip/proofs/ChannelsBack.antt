-- Two conversions of strips channel by channel, of which the second takes what the first wrote for a channel to what `back` says: then it does so
-- with every channel of a strip.
-- Assumes nothing.
use Rattle.std.specs.Prelude.{Ok}
use mathlib.Core.Path.{◌≡◌}
use mathlib.Core.List.{List, ◌++◌}
use Prim.Native.Nat.{ℕ, ◌*◌, ◌^◌, ◌≤◌, ◌<◌}
use native.Mathlib.Omega.{arith}
use lib.ListN.{length, take, drop}
use Rattle.rules.specs.Refusal.{Check}
use Rattle.rules.specs.declared.Setting.{Setting}
use Rattle.rules.specs.Conversions.{each_channel, channelwise}
use Rattle.rules.specs.Record.{IsBytes, size_of, setting_of}
use Rattle.rules.specs.Strip.{Conversion, record_check, records, written, answer_of, output_after}
use Rattle.rules.proofs.Records.{length_record}
use Rattle.record_conversion.proofs.Channelwise.{TakenBack, record_passes, record_back}
use Rattle.record_conversion.proofs.Good.{Good}
use Rattle.strip.proofs.Back.{round_trip_to}

module _ (setting : Setting → Check) (a b : ℕ) (check check' : Setting → ℕ → Check) (one two back : Setting → ℕ → ℕ)
    (each : (s : Setting) → setting s ≡ Ok tt → (u : ℕ) → u < 256 ^ a → check s u ≡ Ok tt → TakenBack setting a b check check' one two back s u) where
  abbrev there : Conversion
  there = channelwise setting a b check one

  abbrev home : Conversion
  home = channelwise setting b a check' two

  -- what is made of a record
  abbrev returned : List ℕ → List ℕ
  returned r = each_channel a a (setting_of r) (back (setting_of r)) r

  pub written_long : (r : List ℕ) → length (there.bytes r) ≡ there.to
  written_long r = length_record b (setting_of r) _

  pub record_returned : (r : List ℕ) → Good there r → (record_check home (there.bytes r) ≡ Ok tt) × (home.bytes (there.bytes r) ≡ returned r)
  record_returned r g = (record_passes setting a b check check' one two back each r g, record_back setting a b check check' one two back each r g)

  -- THE TWO CONVERSIONS, one after the other: the second accepts what the first wrote, and every byte of what it writes
  pub channels_back : (input output other : List ℕ) (n : ℕ) → IsBytes input → Ok n ≡ answer_of there input output → length input ≤ length other
      → (Ok n ≡ answer_of home (take (n * size_of b) (output_after there input output (Ok n))) other)
      × (output_after home (take (n * size_of b) (output_after there input output (Ok n))) other (Ok n) ≡ written returned (records (size_of a) n input) ++ drop (length input) other)
  channels_back = round_trip_to there written_long home returned record_returned (omega arith)
