-- The decoded number of a step and of a code, as it is computed. (That it is what the rules ask of a decoded number is proved: proofs/Theorems.)
-- Assumes nothing.
use Rattle.std.specs.Prelude.{List, ℕ, ◌+◌, ◌-◌, ◌*◌, ◌/◌, ◌%◌, ◌^◌, ◌<◌, ltb, ℤ, get_or}
use Rattle.std.proofs.Math.IntN.{sub_ℕ}
use Rattle.whole.specs.Parts.{up, dn}
use Rattle.rules.specs.Choice.{choose}
use Rattle.rules.specs.declared.Setting.{Setting}
use Rattle.rules.specs.Fraction.{Fraction, whole, ◌*ℚ◌}
use Rattle.rules.specs.Curve.{Curve, log_c4, log_c, less, factor}
use Rattle.rules.specs.Setting.{step_of}
use Rattle.rules.specs.Exact.{Scale, scale_of}
use Rattle.curve_table.specs.Table.{table_of}
use Rattle.decode.specs.declared.decoder.Decoder.{Decoder}

-- a decoded number is computed with this added, which leaves none below 0
abbrev pub offset : ℕ
offset = 2 ^ 20

-- ---- with a decoder d and a table t

-- the power of the step i, times the curve's factor, at 2 ^ 27 a unit: the product of the entries of its three digits
abbrev pub product : List ℕ → ℕ → ℕ
product t i = get_or t (i / 1024) 0 * get_or t (64 + i / 32 % 32) 0 / 2 ^ 64 * get_or t (96 + i % 32) 0 / 2 ^ 64

abbrev pub toe_raw : Decoder → ℕ → ℕ
toe_raw d i = (2 ^ 25 * 1000000 * i + d.toe) / d.over

abbrev pub power_raw : Decoder → List ℕ → ℕ → ℕ
power_raw d t i = (product t i + d.bias) / 2 ^ 27

unfoldable pub raw_by : Decoder → List ℕ → ℕ → ℕ
raw_by d t i = choose (ltb i d.first) (toe_raw d i) (power_raw d t i)

abbrev pub decoded_by : Decoder → List ℕ → ℕ → ℤ
decoded_by d t i = sub_ℕ (raw_by d t i) offset

-- what the numbers of a step must be for words to hold them
pub record Fits (d : Decoder) (t : List ℕ) (i : ℕ) : Type 0 where
  pub step : i < 2 ^ 16
  pub power : product t i + d.bias < 2 ^ 64
  pub toe : 2 ^ 25 * 1000000 * i + d.toe < 2 ^ 62
  pub over : i < d.first → 0 < d.over

-- ---- the decoder of a scale

-- the steps up to (e·cut + f) * last are in the toe
abbrev pub first_of : Curve → (last : ℕ) → ℕ
first_of log_c4 last = 0
first_of (log_c k) last = ((k.e * k.cut + 1000000 * up k.f) * last - 1000000 * dn k.f * last) / 10 ^ 12 + 1

-- what the power is less, times the factor, at 2 ^ 27 a unit
abbrev pub less_units : Curve → Fraction
less_units c = less c *ℚ factor c *ℚ whole (2 ^ 51)

-- 2 ^ 27 * (offset + 1/2 - less * factor * 2 ^ 24)
abbrev pub bias_of : Curve → ℕ
bias_of c = (2 * offset + 1) * 2 ^ 26 + (less_units c).minus / (less_units c).over - (less_units c).plus / (less_units c).over

-- in the toe the signal i / last goes to (2 ^ 25 * 10 ^ 6 * i + toe_of) / over_of: the exact value times 2 ^ 24, and offset + 1/2
abbrev pub toe_of : Curve → (last : ℕ) → ℕ
toe_of log_c4 last = 0
toe_of (log_c k) last = k.e * last * (2 * offset + 1) + 2 ^ 25 * (dn k.f * last) - 2 ^ 25 * (up k.f * last)

abbrev pub over_of : Curve → (last : ℕ) → ℕ
over_of log_c4 last = 0
over_of (log_c k) last = 2 * (k.e * last)

abbrev pub decoder_of : Scale → Decoder
decoder_of k =
    record { first = first_of k.curve k.last; bias = bias_of k.curve; toe = toe_of k.curve k.last; over = over_of k.curve k.last }

-- ---- of a setting

-- the number of a step with the offset, and the decoded number
abbrev pub raw : Setting → (step : ℕ) → ℕ
raw s i = raw_by (decoder_of (scale_of s)) (table_of s) i

abbrev pub decoded_at : Setting → (step : ℕ) → ℤ
decoded_at s i = decoded_by (decoder_of (scale_of s)) (table_of s) i

-- "A setting and code have one decoded number, the same in every operation and channel.": that of the code's step
abbrev pub decoded : Setting → (code : ℕ) → ℤ
decoded s n = decoded_at s (step_of s n)
