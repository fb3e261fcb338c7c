-- Of a scale whose tests are passed: every number that decoding computes fits a word.
-- Assumes nothing.
use Rattle.std.specs.Prelude.{Ok}
use mathlib.Core.List.{List}
use mathlib.Core.Path.{◌≡◌, subst}
use Prim.Native.Nat.{ℕ, ◌+◌, ◌*◌, ◌/◌, ◌%◌, ◌^◌, ◌≤◌, ◌<◌}
use native.Mathlib.Nat.{le_of_lt, lt_of_le_of_lt, mul-le-mul_left, mul-lt-mul_of_pos_right, mul_comm, div-lt_iff_lt-mul}
use native.Mathlib.Omega.{arith}
use lib.Dec.{lit<}
use lib.ListN.{get_or, drop}
use lib.Seq.{get_or-drop}
use Rattle.rules.specs.Curve.{Curve, log_c4, log_c}
use Rattle.rules.specs.Exact.{Scale, scale_of}
use Rattle.rules.specs.declared.Setting.{Setting}
use Rattle.rules.specs.Setting.{last_of, step_of, curve_of, code_check, Valid}
use Rattle.rules.proofs.Codes.{code_passed, last_small}
use Rattle.decode.specs.declared.decoder.Decoder.{Decoder}
use Rattle.decode.specs.Ready.{Ready}
use Rattle.curve_table.specs.Table.{table_of}
use Rattle.decode.specs.Decoded.{product, Fits, decoder_of, first_of, toe_of, over_of, decoded_by, decoded}
use Rattle.decode.proofs.Tests.{Source, Tested, HasToe, below_at, bias}
use Rattle.decode.specs.Gap.{gap_of}
use Rattle.decode.proofs.Settings.{passed}

-- the upper half of a product of two words, and of one of them with a word below m
half : (m : ℕ) {x y : ℕ} → 0 < m → x < 2 ^ 64 → y < m → x * y / 2 ^ 64 < m
half m {x} {y} p h g =
    (div-lt_iff_lt-mul (lit< tt)).1 (subst (λ (w : ℕ). w < m * 2 ^ 64) (mul_comm y x) (lt_of_le_of_lt (mul-le-mul_left y (le_of_lt h)) (mul-lt-mul_of_pos_right g (lit< tt))))

module _ {k : Scale} {g : ℕ} {t : List ℕ} {s : Source} (ok : Tested k g t s) (n : ℕ) where
  entry : (j : ℕ) → get_or t j 0 < 2 ^ 64
  entry j = below_at (2 ^ 64) (lit< tt) t ok.entries_small j

  low : (j : ℕ) → get_or t (96 + j) 0 < 3 * 2 ^ 62
  low j = subst (λ (x : ℕ). x < 3 * 2 ^ 62) (get_or-drop 96 t j 0) (below_at (3 * 2 ^ 62) (lit< tt) (drop 96 t) ok.lows_small j)

  product_small : product t n < 3 * 2 ^ 62
  product_small = half (3 * 2 ^ 62) (lit< tt) (half (2 ^ 64) (lit< tt) (entry (n / 1024)) (entry (64 + n / 32 % 32))) (low (n % 32))

  power_fits : product t n + bias k < 2 ^ 64
  power_fits = sum (product t n) (bias k) product_small ok.bias_small
    where
      sum : (p b : ℕ) → p < 3 * 2 ^ 62 → b < 2 ^ 62 → p + b < 2 ^ 64
      sum p b h g = omega arith

  toe_fits : n ≤ k.last → 2 ^ 25 * 1000000 * n + toe_of k.curve k.last < 2 ^ 62
  toe_fits h = lt_of_le_of_lt (more (toe_of k.curve k.last) k.last h) ok.toe_small
    where
      more : (a m : ℕ) → n ≤ m → 2 ^ 25 * 1000000 * n + a ≤ 2 ^ 25 * 1000000 * m + a
      more a m h = omega arith

over_fits : (c : Curve) (last g : ℕ) (t : List ℕ) → HasToe c last g t → (n : ℕ) → n < first_of c last → 0 < over_of c last
over_fits log_c4 last g t toe n h = absurd (omega arith)
over_fits (log_c c) last g t toe n h = twice (c.e * last) toe.divisor
  where
    twice : (x : ℕ) → 0 < x → 0 < 2 * x
    twice x h = omega arith

-- of a valid setting
pub fits : (s : Setting) → Valid s → (i : ℕ) → i ≤ last_of s → Fits (decoder_of (scale_of s)) (table_of s) i
fits s v i h =
    record {
      step = lt_of_le_of_lt h (last_small s);
      power = power_fits (passed s v) i;
      toe = toe_fits (passed s v) i h;
      over = λ g. over_fits (curve_of s) (last_of s) (gap_of s) (table_of s) (passed s v).toe i g;
    }

-- ---- with what is kept of a setting
pub ready_fits : {s : Setting} {d : Decoder} {t : List ℕ} → Ready s d t → (n : ℕ) → code_check s n ≡ Ok tt → Fits d t (step_of s n)
ready_fits {s} r n e = rw (r.decoder, r.table) (fits s r.valid (step_of s n) (code_passed s n e))

pub ready_number : {s : Setting} {d : Decoder} {t : List ℕ} → Ready s d t → (n : ℕ) → decoded_by d t (step_of s n) ≡ decoded s n
ready_number r n = rw (r.decoder, r.table)
