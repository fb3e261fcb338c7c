-- Any conversion channel by channel: a strip whose records pass is converted, and each channel that is written is R to the channel that it is
-- written for.
-- Assumes nothing.
use Rattle.std.specs.Prelude.{Ok}
use mathlib.Core.Path.{◌≡◌, sym, subst}
use mathlib.Core.List.{List}
use Prim.Native.Nat.{ℕ, ◌*◌, ◌^◌, ◌≤◌, ◌<◌}
use native.Mathlib.Nat.{le_of_eq}
use lib.ListN.{length}
use Rattle.rules.specs.Refusal.{Check}
use Rattle.rules.specs.declared.Setting.{Setting}
use Rattle.rules.specs.Record.{IsBytes, size_of, setting_of, channel_at}
use Rattle.rules.specs.Strip.{record_check, record_at}
use Rattle.rules.proofs.Records.{length_record}
use Rattle.record_conversion.proofs.Good.{Good}
use Rattle.record_conversion.proofs.Channelwise.{setting_passes, channel_small, channel_passes, setting_copied, channel_written}
use Rattle.rules.proofs.Strips.{length_at}
use Rattle.promise.specs.Each.{EachChannel, ConvertedEach}
use Rattle.promise.proofs.Strips.{bytes_at}
use Rattle.promise.proofs.Each.{each_converted}
use Rattle.rules.specs.Conversions.{channelwise}

-- what is written for a channel that passes fits, and is R to the channel
module _ (setting : Setting → Check) (a b : ℕ) (check : Setting → ℕ → Check) (one : Setting → ℕ → ℕ) (R : Setting → (from to : ℕ) → Type 0)
    (fits : (s : Setting) → setting s ≡ Ok tt → (u : ℕ) → u < 256 ^ a → check s u ≡ Ok tt → one s u < 256 ^ b)
    (right : (s : Setting) → setting s ≡ Ok tt → (u : ℕ) → u < 256 ^ a → check s u ≡ Ok tt → R s u (one s u)) where
  record_each : (r : List ℕ) → Good (channelwise setting a b check one) r → EachChannel a b R r ((channelwise setting a b check one).bytes r)
  record_each r g =
      record {
        setting = setting_copied setting a b check one fits r g;
        channel = λ i h.
            subst (R (setting_of r) (channel_at a r i)) (sym (channel_written setting a b check one fits r g i h))
            (right (setting_of r) (setting_passes setting a b check one fits r g) (channel_at a r i) (channel_small setting a b check one fits r g i) (channel_passes setting a b check one fits r g i h));
      }

  -- a strip of n records that pass
  module _ (input output : List ℕ) (n : ℕ) (h : IsBytes input) (l : length input ≡ n * size_of a)
      (passes : (k : ℕ) → k < n → record_check (channelwise setting a b check one) (record_at (size_of a) k input) ≡ Ok tt) where
    good : (k : ℕ) → k < n → Good (channelwise setting a b check one) (record_at (size_of a) k input)
    good k i =
        record {
          long = length_at (size_of a) n k input (le_of_eq (sym l)) i;
          bytes = bytes_at (size_of a) k input h;
          passes = passes k i;
        }

    pub strip_each : 0 < size_of a → n * size_of b ≤ length output → ConvertedEach (channelwise setting a b check one) (EachChannel a b R) input output n
    strip_each p room =
        each_converted (channelwise setting a b check one) (λ r. length_record b (setting_of r) _) p (EachChannel a b R) input output n l passes
        (λ k i. record_each (record_at (size_of a) k input) (good k i)) room
