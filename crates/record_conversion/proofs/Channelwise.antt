-- Conversions channel by channel: what is read of a record that one of them wrote. And two of them,
-- of which the second takes what the first wrote for a channel to what `back` says: then it does so with each record.
-- Assumes nothing.
use Rattle.std.specs.Prelude.{Ok}
use mathlib.Core.Path.{◌≡◌, ap}
use mathlib.Core.List.{List}
use Prim.Native.Nat.{ℕ, zero, suc, ◌+◌, ◌*◌, ◌^◌, ◌<◌}
use native.Mathlib.Omega.{arith}
use lib.Dec.{lit<}
use lib.ListN.{drop}
use Rattle.rules.specs.Refusal.{Check}
use Rattle.rules.specs.declared.Setting.{Setting}
use Rattle.rules.specs.Record.{setting_bytes, setting_of, Channels, channel_at, channels_of, record_of}
use Rattle.rules.specs.Strip.{record_check}
use Rattle.rules.proofs.Records.{FitsRecord, value_small, drop_bytes, read_setting, read_channels}
use Rattle.rules.proofs.Settings.{both}
use Rattle.rules.proofs.Channels.{all_pass}
use Rattle.record_conversion.proofs.Good.{Good}
use Rattle.rules.specs.Conversions.{channel_checks, each_channel, channelwise}

-- ---- what is read of what was written, where each channel that passes fits
module _ (setting : Setting → Check) (a b : ℕ) (check : Setting → ℕ → Check) (one : Setting → ℕ → ℕ)
    (fits : (s : Setting) → setting s ≡ Ok tt → (u : ℕ) → u < 256 ^ a → check s u ≡ Ok tt → one s u < 256 ^ b) (r : List ℕ) (g : Good (channelwise setting a b check one) r) where
  abbrev written : Channels
  written = record { red = one (setting_of r) (channel_at a r 0); green = one (setting_of r) (channel_at a r 1); blue = one (setting_of r) (channel_at a r 2) }

  parts : (setting (setting_of r) ≡ Ok tt) × (channel_checks a (check (setting_of r)) r ≡ Ok tt)
  parts = both (setting (setting_of r)) (channel_checks a (check (setting_of r)) r) g.passes

  pub setting_passes : setting (setting_of r) ≡ Ok tt
  setting_passes = parts.0

  -- each channel passes
  pub channel_passes : (i : ℕ) → i < 3 → check (setting_of r) (channel_at a r i) ≡ Ok tt
  channel_passes zero h = (all_pass a (check (setting_of r)) r parts.1).red
  channel_passes (suc zero) h = (all_pass a (check (setting_of r)) r parts.1).green
  channel_passes (suc (suc zero)) h = (all_pass a (check (setting_of r)) r parts.1).blue
  channel_passes (suc (suc (suc i))) h = absurd (omega arith)

  pub channel_small : (i : ℕ) → channel_at a r i < 256 ^ a
  channel_small i = value_small a (drop (setting_bytes + i * a) r) (drop_bytes (setting_bytes + i * a) r g.bytes)

  fits_at : (i : ℕ) → i < 3 → one (setting_of r) (channel_at a r i) < 256 ^ b
  fits_at i h = fits (setting_of r) setting_passes (channel_at a r i) (channel_small i) (channel_passes i h)

  fits_record : FitsRecord b (setting_of r) written
  fits_record =
      record {
        curve = g.bytes 0;
        width = g.bytes 1;
        ei = value_small 2 (drop 2 r) (drop_bytes 2 r g.bytes);
        red = fits_at 0 (lit< tt);
        green = fits_at 1 (lit< tt);
        blue = fits_at 2 (lit< tt);
      }

  -- in each channel stands what is made of that channel
  pub channel_written : (i : ℕ) → i < 3 → channel_at b ((channelwise setting a b check one).bytes r) i ≡ one (setting_of r) (channel_at a r i)
  channel_written i h = at i h (read_channels b (setting_of r) written fits_record)
    where
      at : (i : ℕ) → i < 3 → channels_of b (record_of b (setting_of r) written) ≡ written → channel_at b (record_of b (setting_of r) written) i ≡ one (setting_of r) (channel_at a r i)
      at zero h e = ap (λ (c : Channels). c.red) e
      at (suc zero) h e = ap (λ (c : Channels). c.green) e
      at (suc (suc zero)) h e = ap (λ (c : Channels). c.blue) e
      at (suc (suc (suc i))) h e = absurd (omega arith)

  -- "A conversion copies the setting."
  pub setting_copied : setting_of ((channelwise setting a b check one).bytes r) ≡ setting_of r
  setting_copied = read_setting b (setting_of r) written fits_record

-- ---- a second conversion
module _ (setting : Setting → Check) (a b : ℕ) (check check' : Setting → ℕ → Check) (one two back : Setting → ℕ → ℕ) where
  -- what is written for a channel fits, passes, and is taken back
  pub record TakenBack (s : Setting) (u : ℕ) : Type 0 where
    pub fits : one s u < 256 ^ b
    pub passes : check' s (one s u) ≡ Ok tt
    pub returns : two s (one s u) ≡ back s u

  module _ (each : (s : Setting) → setting s ≡ Ok tt → (u : ℕ) → u < 256 ^ a → check s u ≡ Ok tt → TakenBack s u) (r : List ℕ) (g : Good (channelwise setting a b check one) r) where
    fits_each : (s : Setting) → setting s ≡ Ok tt → (u : ℕ) → u < 256 ^ a → check s u ≡ Ok tt → one s u < 256 ^ b
    fits_each s v u l e = (each s v u l e).fits

    abbrev there : List ℕ
    there = (channelwise setting a b check one).bytes r

    valid : setting (setting_of r) ≡ Ok tt
    valid = setting_passes setting a b check one fits_each r g

    same_setting : setting_of there ≡ setting_of r
    same_setting = setting_copied setting a b check one fits_each r g

    same_channel : (i : ℕ) → i < 3 → channel_at b there i ≡ one (setting_of r) (channel_at a r i)
    same_channel = channel_written setting a b check one fits_each r g

    taken : (i : ℕ) → i < 3 → TakenBack (setting_of r) (channel_at a r i)
    taken i h = each (setting_of r) valid (channel_at a r i) (channel_small setting a b check one fits_each r g i) (channel_passes setting a b check one fits_each r g i h)

    pub record_passes : record_check (channelwise setting b a check' two) there ≡ Ok tt
    unfolding channel_checks
    record_passes =
        rw (same_setting, valid, same_channel 0 (lit< tt), (taken 0 (lit< tt)).passes, same_channel 1 (lit< tt), (taken 1 (lit< tt)).passes, same_channel 2 (lit< tt), (taken 2 (lit< tt)).passes)

    pub record_back : (channelwise setting b a check' two).bytes there ≡ each_channel a a (setting_of r) (back (setting_of r)) r
    record_back =
        rw (same_setting, same_channel 0 (lit< tt), same_channel 1 (lit< tt), same_channel 2 (lit< tt), (taken 0 (lit< tt)).returns, (taken 1 (lit< tt)).returns, (taken 2 (lit< tt)).returns)
