-- The toe of a curve: which steps are in it, and that the decoded number there is the exact value to the nearest unit.
-- Assumes nothing.
use mathlib.Core.Path.{◌≡◌, sym}
use mathlib.Core.Bool.{not}
use Prim.Native.Nat.{ℕ, ◌+◌, ◌*◌, ◌^◌, ◌≤◌, ◌<◌}
use native.Mathlib.Nat.{mul-le-mul_right, not-le_of_lt, div-mul-le_self, lt-div-mul-add}
use native.Mathlib.Omega.{arith}
use lib.Dec.{T, not_T}
use lib.IntN.{sub_ℕ}
use Rattle.whole.specs.Parts.{up, dn}
use Rattle.whole.proofs.Reflect.{sub_dif}
use Rattle.whole.proofs.Tidy.{tidy}
use Rattle.rules.specs.Fraction.{Fraction, whole, ◌*ℚ◌, nearest}
use Rattle.rules.specs.Curve.{log_c, Constants, border, in_toe, toe_value}
use Rattle.rules.specs.Exact.{Scale, signal}
use Rattle.rules.proofs.Values.{test_passed, pass_test}
use Rattle.rules.proofs.Nearest.{nearest_is}
use Rattle.decode.specs.Decoded.{offset, toe_raw, decoder_of, first_of, toe_of, over_of}

module _ (c : Constants) (last : ℕ) where
  abbrev scale : Scale
  scale = record { curve = log_c c; last = last }

  -- ---- the steps below the first of the power part, and no others, are in the toe, where the border is not below 0
  pub toe_step : 1000000 * dn c.f ≤ c.e * c.cut + 1000000 * up c.f → (n : ℕ) → n < first_of (log_c c) last → T (in_toe (log_c c) (signal scale (whole n)))
  toe_step above n h = pass_test (signal scale (whole n)) (border c) (simp tidy (omega (arith, mul-le-mul_right last above)))

  below_first : (n : ℕ) → T (in_toe (log_c c) (signal scale (whole n))) → n < first_of (log_c c) last
  below_first n h = omega (arith, simp tidy at (test_passed (signal scale (whole n)) (border c) h))

  pub power_step : (n : ℕ) → first_of (log_c c) last ≤ n → T (not (in_toe (log_c c) (signal scale (whole n))))
  power_step n h = not_T (in_toe (log_c c) (signal scale (whole n))) (λ t. not-le_of_lt (below_first n t) h)

  -- ---- the number: u with the offset
  abbrev exact : ℕ → Fraction
  exact n = toe_value (log_c c) (signal scale (whole n)) *ℚ whole (2 ^ 24)

  low : (n u : ℕ) → 2 ^ 25 * (up c.f * last) ≤ c.e * last * (2 * offset + 1) + 2 ^ 25 * (dn c.f * last)
      → u * over_of (log_c c) last ≤ 2 ^ 25 * 1000000 * n + toe_of (log_c c) last
      → u * (2 * (exact n).over) + 2 * (exact n).minus ≤ 2 * (exact n).plus + (exact n).over + offset * (2 * (exact n).over)
  low n u room h = simp tidy (omega arith)

  high : (n u : ℕ) → 2 ^ 25 * (up c.f * last) ≤ c.e * last * (2 * offset + 1) + 2 ^ 25 * (dn c.f * last)
      → 2 ^ 25 * 1000000 * n + toe_of (log_c c) last < u * over_of (log_c c) last + over_of (log_c c) last
      → 2 * (exact n).plus + (exact n).over + offset * (2 * (exact n).over) < u * (2 * (exact n).over) + 2 * (exact n).over + 2 * (exact n).minus
  high n u room h = simp tidy (omega arith)

  -- THE NUMBER of a step in the toe
  pub toe_number : (n : ℕ) → 2 ^ 25 * (up c.f * last) ≤ c.e * last * (2 * offset + 1) + 2 ^ 25 * (dn c.f * last) → 0 < c.e * last
      → sub_ℕ (toe_raw (decoder_of scale) n) offset ≡ nearest (exact n)
  toe_number n room divisor =
      sym (nearest_is (exact n) (sub_ℕ (toe_raw (decoder_of scale) n) offset) (toe_raw (decoder_of scale) n) offset (sub_dif (toe_raw (decoder_of scale) n) offset)
      (low n (toe_raw (decoder_of scale) n) room (div-mul-le_self (2 ^ 25 * 1000000 * n + toe_of (log_c c) last) (over_of (log_c c) last)))
      (high n (toe_raw (decoder_of scale) n) room (lt-div-mul-add {a = 2 ^ 25 * 1000000 * n + toe_of (log_c c) last} {b = over_of (log_c c) last} (twice (c.e * last) divisor))))
    where
      twice : (d : ℕ) → 0 < d → 0 < 2 * d
      twice d h = omega arith
