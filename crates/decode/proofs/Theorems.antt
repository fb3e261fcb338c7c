-- DEMAND 2, decoding, for every valid setting and each of its codes: the decoded number is what the rules ask, and the numbers rise strictly
-- with the code.
-- Assumes nothing.
use Rattle.std.specs.Prelude.{Ok}
use mathlib.Core.Path.{◌≡◌, subst}
use Prim.Native.Nat.{ℕ, zero, suc, ◌+◌, ◌-◌, ◌*◌, ◌≤◌, ◌<◌}
use native.Mathlib.Omega.{arith}
use lib.Dec.{ltb, ltb→lt, lit<}
use lib.IntN.{sub_ℕ}
use lib.Signed.{◌<ℤ◌}
use Rattle.whole.proofs.Reflect.{at, lt_z-of, sub_dif}
use Rattle.rules.specs.declared.Setting.{Setting}
use Rattle.rules.specs.Setting.{last_of, step_of, curve_of, code_check, Valid}
use Rattle.rules.specs.Exact.{scale_of}
use Rattle.rules.specs.Decoding.{tolerance, Decodes, DecodesCode}
use Rattle.rules.proofs.Settings.{for_valid}
use Rattle.rules.proofs.Codes.{code_passed, step_rises}
use Rattle.rules.proofs.Bounds.{allowed_apart}
use Rattle.curve_table.specs.Table.{table_of}
use Rattle.decode.specs.Decoded.{offset, raw, decoded_at, decoded}
use Rattle.decode.proofs.Near.{room}
use Rattle.decode.proofs.Right.{within, rises}
use Rattle.decode.specs.Gap.{gap_of}
use Rattle.decode.proofs.Settings.{source_of, passed}

-- "In the toe the scene number is the exact value times 2^24, to the nearest whole number, a half going up (towards plus). In the power
-- part it is a whole number less than .. away from the exact value times 2^24.": of a step, and of a code that passes its check
pub decoding_at : (s : Setting) → Valid s → (i : ℕ) → i ≤ last_of s → Decodes (scale_of s) i (decoded_at s i)
decoding_at s v i h =
    within (curve_of s) (last_of s) (gap_of s) (table_of s) (source_of s) (passed s v) tolerance.plus tolerance.over (lit< tt) (room (passed s v)) i h

pub decoding : (s : Setting) → Valid s → (n : ℕ) → code_check s n ≡ Ok tt → DecodesCode s n (decoded s n)
decoding s v n e = decoding_at s v (step_of s n) (code_passed s n e)

-- ---- the numbers of two steps are apart
module _ (s : Setting) (v : Valid s) where
  raw_step : (i : ℕ) → i < last_of s → raw s i + gap_of s ≤ raw s (i + 1)
  raw_step i h = rises (curve_of s) (last_of s) (gap_of s) (table_of s) (source_of s) (passed s v) i h

  raw_later : (i d : ℕ) → i + suc d ≤ last_of s → raw s i + gap_of s ≤ raw s (i + suc d)
  raw_later i zero h = subst (λ (x : ℕ). raw s i + gap_of s ≤ raw s x) (omega arith) (raw_step i (omega arith))
  raw_later i (suc d) h =
      more (gap_of s) (raw s i) (raw s (i + suc d)) (raw s (i + suc (suc d))) (raw_later i d (omega arith)) (subst (λ (x : ℕ). raw s (i + suc d) + gap_of s ≤ raw s x) (omega arith) (raw_step (i + suc d) (omega arith)))
    where
      more : (g a b c : ℕ) → a + g ≤ b → b + g ≤ c → a + g ≤ c
      more g a b c h f = omega arith

  pub raw_apart : (i j : ℕ) → i < j → j ≤ last_of s → raw s i + gap_of s ≤ raw s j
  raw_apart i j h g = subst (λ (x : ℕ). raw s i + gap_of s ≤ raw s x) (apart h) (raw_later i (j - suc i) (bound (last_of s) h g))
    where
      apart : i < j → i + suc (j - suc i) ≡ j
      apart h = omega arith

      bound : (t : ℕ) → i < j → j ≤ t → i + suc (j - suc i) ≤ t
      bound t h g = omega arith

  -- by the figure of the curve, which is large enough that any numbers that the rules allow rise too
  pub gap_large : 2 * allowed_apart < gap_of s
  gap_large = ltb→lt (2 * allowed_apart) (gap_of s) (for_valid (λ c w e. ltb (2 * allowed_apart) (gap_of (record { curve = c; width = w; ei = e }))) tt s v)

  pub raw_rises : (i j : ℕ) → i < j → j ≤ last_of s → raw s i < raw s j
  raw_rises i j h g = above (gap_of s) (raw s i) (raw s j) gap_large (raw_apart i j h g)
    where
      above : (g a b : ℕ) → 2 * allowed_apart < g → a + g ≤ b → a < b
      above g a b p h = omega arith

  -- "For each setting the numbers rise strictly with the code."
  pub decoded_rises : (m n : ℕ) → code_check s m ≡ Ok tt → code_check s n ≡ Ok tt → m < n → decoded s m <ℤ decoded s n
  decoded_rises m n p q h =
      less_offset (raw s (step_of s m)) (raw s (step_of s n)) offset (raw_rises (step_of s m) (step_of s n) (step_rises s m n p q h) (code_passed s n q))
    where
      less_offset : (a b o : ℕ) → a < b → sub_ℕ a o <ℤ sub_ℕ b o
      less_offset a b o h = lt_z-of (at (sub_ℕ a o)) (at (sub_ℕ b o)) (omega (arith, sub_dif a o, sub_dif b o))
