-- DEMAND 2, encoding, for every valid setting.
-- Assumes nothing.
use Rattle.std.specs.Prelude.{Ok}
use mathlib.Core.Path.{◌≡◌, sym, ◌∙◌, subst}
use Prim.Native.Nat.{ℕ, ◌+◌, ◌-◌, ◌*◌, ◌≤◌, ◌<◌}
use native.Mathlib.Nat.{le_of_lt}
use native.Mathlib.Omega.{arith}
use lib.IntN.{ℤ}
use lib.Signed.{◌≤ℤ◌}
use Rattle.whole.specs.Parts.{up, dn}
use Rattle.whole.proofs.Reflect.{at, le_n-of, sub_dif}
use Rattle.whole.proofs.Near.{Near}
use Rattle.rules.specs.declared.Setting.{Setting}
use Rattle.rules.specs.Fraction.{ratio, integer, ◌*ℚ◌, AtMost, AtLeast}
use Rattle.rules.specs.Setting.{last_of, code_at, step_of, curve_of, code_check, Valid}
use Rattle.rules.specs.Exact.{scale_of, VersusExact}
use Rattle.rules.specs.Decoding.{unit}
use Rattle.rules.specs.Encoding.{IsNearest, number_at, TwoThirds}
use Rattle.rules.proofs.Closest as closest
use Rattle.rules.proofs.Codes.{code_of_step, code_passed, code_passes}
use Rattle.curve_table.specs.Table.{table_of}
use Rattle.decode.specs.Decoded.{offset, raw, decoded_at, decoded}
use Rattle.decode.specs.Gap.{gap_of}
use Rattle.decode.proofs.Settings.{source_of, passed}
use Rattle.decode.proofs.Theorems.{raw_rises, raw_apart}
use Rattle.encode.specs.Encoded.{encoded, encoded_step}
use Rattle.encode.proofs.Midpoints.{Within, own_within, first_within, last_within, near_within, nearest_within}
use Rattle.encode.proofs.Codes.{code_is, number_at_lem}
use Rattle.encode.proofs.Settings.{thirds_passed}
use Rattle.encode.proofs.Thirds.{at_most_half, at_least_half, under, over}

-- "A scene number .. becomes the code whose decoded number is nearest; of two equally near, the lower.": its step
pub encoded_nearest : (s : Setting) (x : ℤ) → IsNearest (number_at decoded s) (last_of s) x (encoded_step s x)
encoded_nearest s x = closest.closest_is_nearest (number_at decoded s) x (last_of s)

-- no other step is nearest
pub nearest_only : (s : Setting) (x : ℤ) (i : ℕ) → IsNearest (number_at decoded s) (last_of s) x i → i ≡ encoded_step s x
nearest_only s x i n = closest.nearest_only (number_at decoded s) x (last_of s) i (encoded_step s x) n (encoded_nearest s x)

-- the code is one of the setting
pub encoded_passes : (s : Setting) (x : ℤ) → code_check s (encoded s x) ≡ Ok tt
encoded_passes s x = code_passes s (encoded_step s x) (encoded_nearest s x).in_range

module _ (s : Setting) (v : Valid s) where
  -- "Below code 0 that is 0, above the top code it is the top.": the first code, and the last
  pub encoded_first : (x : ℤ) → x ≤ℤ decoded_at s 0 → encoded s x ≡ code_at s 0
  encoded_first x h =
      sym (code_is s v x 0 (first_within (raw s) (last_of s) (raw_rises s v) x (omega (arith, le_n-of (at x) (at (decoded_at s 0)) h, sub_dif (raw s 0) offset))))

  pub encoded_last : (x : ℤ) → decoded_at s (last_of s) ≤ℤ x → encoded s x ≡ code_at s (last_of s)
  encoded_last x h =
      sym (code_is s v x (last_of s) (last_within (raw s) (last_of s) (raw_rises s v) x (omega (arith, le_n-of (at (decoded_at s (last_of s))) (at x) h, sub_dif (raw s (last_of s)) offset))))

  -- a decoded number is encoded to its code
  pub encode_decoded : (n : ℕ) → code_check s n ≡ Ok tt → encoded s (decoded s n) ≡ n
  encode_decoded n e = sym (code_is s v (decoded s n) (step_of s n) (own_within (raw s) (last_of s) (raw_rises s v) (step_of s n) (code_passed s n e))) ∙ code_of_step s n e

  -- and so is every number that is nearer to it than half the gap
  pub encode_near : (b : ℕ) → 2 * b < gap_of s → (x : ℤ) (n : ℕ) → code_check s n ≡ Ok tt → Near x (decoded s n) b → encoded s x ≡ n
  encode_near b p x n e i =
      sym (code_is s v x (step_of s n) (near_within (gap_of s) b p (raw s) (last_of s) (raw_apart s v) x (step_of s n) (code_passed s n e) i)) ∙ code_of_step s n e

-- "For answer n below top, the scene number is at most 2^24 times the exact curve at n + 2/3; for n above 0 it is at least 2^24 times the
-- exact curve at n - 2/3": of any number that lies between the midpoints beside the step i
module _ (s : Setting) (v : Valid s) (x : ℤ) (i : ℕ) (w : Within (raw s) (last_of s) x i) where
  above : i < last_of s → VersusExact AtMost (scale_of s) (ratio (3 * i + 2) 3) (integer x *ℚ unit)
  above h =
      at_most_half (passed s v) (thirds_passed s v) i (raw s i + raw s (i + 1)) x (le_of_lt h)
      (under (curve_of s) (last_of s) (gap_of s) (table_of s) (source_of s) (passed s v) (thirds_passed s v) i h)
      (w.below h)

  after : (m : ℕ) → m + 1 ≡ i → VersusExact AtLeast (scale_of s) (ratio (3 * m + 1) 3) (integer x *ℚ unit)
  after m e =
      at_least_half (passed s v) (thirds_passed s v) m (raw s m + raw s (m + 1)) x (le_of_lt before)
      (over (curve_of s) (last_of s) (gap_of s) (table_of s) (source_of s) (passed s v) (thirds_passed s v) m before)
      (subst (λ (j : ℕ). raw s m + raw s j + 2 * dn x ≤ 2 * (up x + offset)) (sym e) (le_of_lt (w.above m e)))
    where
      less : (t : ℕ) → i ≤ t → m < t
      less t h = omega arith

      before : m < last_of s
      before = less (last_of s) w.in_range

  below : 0 < i → VersusExact AtLeast (scale_of s) (ratio (3 * i - 2) 3) (integer x *ℚ unit)
  below h = subst (λ (j : ℕ). VersusExact AtLeast (scale_of s) (ratio j 3) (integer x *ℚ unit)) third (after (i - 1) one_before)
    where
      third : 3 * (i - 1) + 1 ≡ 3 * i - 2
      third = omega (arith, h)

      one_before : i - 1 + 1 ≡ i
      one_before = omega (arith, h)

pub encoded_two_thirds : (s : Setting) → Valid s → (x : ℤ) → TwoThirds (scale_of s) x (encoded_step s x)
encoded_two_thirds s v x = record { above = above s v x (encoded_step s x) within; below = below s v x (encoded_step s x) within }
  where
    nearest : IsNearest (decoded_at s) (last_of s) x (encoded_step s x)
    nearest = subst (λ (number : ℕ → ℤ). IsNearest number (last_of s) x (encoded_step s x)) (number_at_lem s) (encoded_nearest s x)

    within : Within (raw s) (last_of s) x (encoded_step s x)
    within = nearest_within (raw s) (last_of s) (raw_rises s v) x (encoded_step s x) nearest
