-- A record by what its channels hold: three of a kind, of which each stands in n bytes as a number.
-- Assumes nothing.
use Rattle.std.specs.Prelude.{List, ℕ}
use Rattle.rules.specs.declared.Rgb.{Rgb}
use Rattle.rules.specs.declared.Setting.{Setting}
use Rattle.rules.specs.Record.{channel_at, record_of}

-- what the numbers in its channels are
abbrev pub channels_in : {A : Type 0} → (n : ℕ) → (of : ℕ → A) → List ℕ → Rgb A
channels_in n of r = record { red = of (channel_at n r 0); green = of (channel_at n r 1); blue = of (channel_at n r 2) }

-- the record with the numbers of three of a kind
abbrev pub record_with : {A : Type 0} → (n : ℕ) → (bits : A → ℕ) → Setting → Rgb A → List ℕ
record_with n bits s x = record_of n s (record { red = bits x.red; green = bits x.green; blue = bits x.blue })
