-- 02, item 5: curve 4 at width 16 beside width 12. Its steps are the 12-bit codes, and its codes are these times 16.
-- Assumes nothing.
use mathlib.Core.Bool.{Bool, true, false}
use mathlib.Core.Path.{◌≡◌, refl, sym, ap, ◌∙◌}
use Prim.Native.Nat.{ℕ, ◌*◌, ◌/◌, ◌%◌}
use native.Mathlib.Omega.{arith}
use borrow.Author.Tests.{eq-eqb, le-leb, lt-leb, leb-true, leb-false}
use lib.Dec.{leb}
use lib.IntN.{ℤ}
use Rattle.rules.specs.declared.Setting.{Setting}
use Rattle.rules.specs.Setting.{codes_of, last_of, code_at, step_of, setting_check, code_check}
use Rattle.rules.specs.Exact.{scale_of}
use Rattle.rules.specs.Encoding.{number_at, closest, step_by, code_by}

-- the two settings, at any EI (0 is the only one that passes)
abbrev pub sixteen_bits : (ei : ℕ) → Setting
sixteen_bits ei = record { curve = 4; width = 16; ei = ei }

abbrev pub twelve_bits : (ei : ℕ) → Setting
twelve_bits ei = record { curve = 4; width = 12; ei = ei }

module _ (ei : ℕ) where
  -- the same checks, the same curve and the same last step
  pub same_setting_check : setting_check (sixteen_bits ei) ≡ setting_check (twelve_bits ei)
  unfolding setting_check
  same_setting_check = refl

  pub same_scale : scale_of (sixteen_bits ei) ≡ scale_of (twelve_bits ei)
  unfolding codes_of
  same_scale = refl

  -- "the code over 16 is read as a 12-bit code"
  pub over_sixteen : (n : ℕ) → step_of (sixteen_bits ei) n ≡ step_of (twelve_bits ei) (n / 16)
  unfolding codes_of
  over_sixteen n = omega arith

  pub times_sixteen : (i : ℕ) → code_at (sixteen_bits ei) i ≡ 16 * code_at (twelve_bits ei) i
  unfolding codes_of
  times_sixteen i = omega arith

  pub check_times_sixteen : (n : ℕ) → code_check (sixteen_bits ei) (16 * n) ≡ code_check (twelve_bits ei) n
  unfolding codes_of
  check_times_sixteen n =
      rw (eq-eqb (16 * n % 16) 0 (omega arith), eq-eqb (n % 1) 0 (omega arith), le-leb 0 (16 * n) (omega arith), le-leb 0 n (omega arith), same_order (leb n 4095) refl)
    where
      same_order : (x : Bool) → leb n 4095 ≡ x → leb (16 * n) 65520 ≡ leb n 4095
      same_order true e = le-leb (16 * n) 65520 (omega (arith, leb-true n 4095 e)) ∙ sym e
      same_order false e = lt-leb (16 * n) 65520 (omega (arith, leb-false n 4095 e)) ∙ sym e

-- "encoding writes the 12-bit answer times 16": where the codes have one number, as their steps do
module _ (ei : ℕ) (number : Setting → ℕ → ℤ) (same : (i : ℕ) → number_at number (sixteen_bits ei) i ≡ number_at number (twelve_bits ei) i) where
  same_step : (x : ℤ) → step_by number (sixteen_bits ei) x ≡ step_by number (twelve_bits ei) x
  unfolding codes_of
  same_step x = ap (λ (at_step : ℕ → ℤ). closest at_step x (last_of (twelve_bits ei))) (λ j i. same i j)

  pub answer_times_sixteen : (x : ℤ) → code_by number (sixteen_bits ei) x ≡ 16 * code_by number (twelve_bits ei) x
  answer_times_sixteen x = times_sixteen ei (step_by number (sixteen_bits ei) x) ∙ ap (λ (i : ℕ). 16 * code_at (twelve_bits ei) i) (same_step x)
