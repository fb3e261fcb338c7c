-- The codes of a setting and their steps: a code that passes is the code of its step, and a step's code passes. Here only `laid` sees which
-- codes a curve and a width have; what follows is of any distance between codes, and any first code that it divides.
-- Assumes nothing.
use Rattle.std.specs.Prelude.{Ok}
use mathlib.Core.Bool.{Bool, true, false}
use mathlib.Core.Path.{◌≡◌, refl, ap, ◌∙◌}
use Prim.Native.Nat.{ℕ, ◌+◌, ◌-◌, ◌*◌, ◌/◌, ◌%◌, ◌^◌, ◌≤◌, ◌<◌}
use native.Mathlib.Nat.{lt_of_le_of_lt, add-sub_cancel_left, add-sub_of_le, mul-div_cancel, div-mul_cancel, div-le_of_le-mul, dvd-sub, dvd_of_mod-eq-zero, add-mul-mod_self_right, mul_comm, mul-le-mul_right, mul-lt-mul_of_pos_right, lt_of_mul-lt-mul_right, le-mul_of_pos_right}
use native.Mathlib.Omega.{arith}
use borrow.Author.Tests.{eq-eqb, le-leb}
use lib.Dec.{eqb, leb, eqb→eq, leb→le, lit<}
use Rattle.rules.specs.declared.Setting.{Setting}
use Rattle.rules.specs.declared.CurveName.{CurveName}
use Rattle.rules.specs.declared.CurveName.TheVariants.{LogC2, LogC3, LogC4, Unknown}
use Rattle.rules.specs.Refusal.{Check, then, refuse_unless}
use Rattle.rules.specs.declared.Refusal.TheVariants.{CodeNotDivisible, CodeAboveTop, CodeBelowFirst}
use Rattle.rules.specs.Choice.{choose}
use Rattle.rules.specs.Setting.{Codes, named, codes_to_top, legal_codes, recorder_codes, codes_at, codes_of, last_of, code_at, step_of, code_check}
use Rattle.rules.proofs.Settings.{passed_only, both}
use Rattle.rules.proofs.TopCode.{top_fits}

-- ---- what the codes of all curves and widths have in common: they are apart, the first is divisible as the others are, and the last fits two
-- bytes
pub record Laid (k : Codes) : Type 0 where
  pub apart : 0 < k.apart
  pub divisible : k.first % k.apart ≡ 0
  pub fits : k.first + k.last * k.apart < 2 ^ 16

to_top : (w : ℕ) → Laid (codes_to_top w)
to_top w = record { apart = lit< tt; divisible = refl; fits = omega (arith, top_fits w) }

laid : (c : CurveName) (w : ℕ) → Laid (codes_at c w)
laid LogC2 w = to_top w
laid LogC3 w = to_top w
laid LogC4 w = go (eqb w 16) (eqb w 140)
  where
    go : (recorder legal : Bool) → Laid (choose recorder recorder_codes (choose legal legal_codes (codes_to_top w)))
    go true legal = record { apart = lit< tt; divisible = refl; fits = lit< tt }
    go false true = record { apart = lit< tt; divisible = refl; fits = lit< tt }
    go false false = to_top w
laid Unknown w = to_top w

laid_of : (s : Setting) → Laid (codes_of s)
unfolding codes_of
laid_of s = laid (named s.curve) s.width

-- ---- a code that passes is divisible, and between the first code and the last
pub record Passing (s : Setting) (n : ℕ) : Type 0 where
  pub divisible : n % (codes_of s).apart ≡ 0
  pub from_first : (codes_of s).first ≤ n
  pub to_last : n ≤ code_at s (last_of s)

pub passing : (s : Setting) (n : ℕ) → code_check s n ≡ Ok tt → Passing s n
passing s n e =
    record {
      divisible = eqb→eq (n % (codes_of s).apart) 0 (passed_only divisible CodeNotDivisible b.0);
      from_first = leb→le (codes_of s).first n (passed_only first CodeBelowFirst c.0);
      to_last = leb→le n (code_at s (last_of s)) (passed_only last CodeAboveTop c.1);
    }
  where
    divisible : Bool
    divisible = eqb (n % (codes_of s).apart) 0

    first : Bool
    first = leb (codes_of s).first n

    last : Bool
    last = leb n (code_at s (last_of s))

    later : Check
    later = then (refuse_unless first CodeBelowFirst) (refuse_unless last CodeAboveTop)

    b : (refuse_unless divisible CodeNotDivisible ≡ Ok tt) × (later ≡ Ok tt)
    b = both (refuse_unless divisible CodeNotDivisible) later e

    c : (refuse_unless first CodeBelowFirst ≡ Ok tt) × (refuse_unless last CodeAboveTop ≡ Ok tt)
    c = both (refuse_unless first CodeBelowFirst) (refuse_unless last CodeAboveTop) b.1

-- ---- codes and steps
pub step_of_code : (s : Setting) (i : ℕ) → step_of s (code_at s i) ≡ i
step_of_code s i =
    ap (λ (m : ℕ). m / (codes_of s).apart) (add-sub_cancel_left (codes_of s).first (i * (codes_of s).apart)) ∙ mul-div_cancel i (laid_of s).apart

-- how far a code that passes is from the first
from_start : (s : Setting) (n : ℕ) → Passing s n → step_of s n * (codes_of s).apart ≡ n - (codes_of s).first
from_start s n p =
    div-mul_cancel (codes_of s).apart (dvd-sub (codes_of s).apart (dvd_of_mod-eq-zero (codes_of s).apart p.divisible) (dvd_of_mod-eq-zero (codes_of s).apart (laid_of s).divisible))

pub code_of_step : (s : Setting) (n : ℕ) → code_check s n ≡ Ok tt → code_at s (step_of s n) ≡ n
code_of_step s n e =
    let p = passing s n e in
    ap (λ (m : ℕ). (codes_of s).first + m) (from_start s n p) ∙ add-sub_of_le p.from_first

pub code_passed : (s : Setting) (n : ℕ) → code_check s n ≡ Ok tt → step_of s n ≤ last_of s
code_passed s n e = div-le_of_le-mul (codes_of s).apart (below (last_of s * (codes_of s).apart) ((codes_of s).apart * last_of s) (mul_comm (last_of s) (codes_of s).apart) (passing s n e).to_last)
  where
    below : (a b : ℕ) → a ≡ b → n ≤ (codes_of s).first + a → n - (codes_of s).first ≤ b
    below a b e h = omega arith

pub code_passes : (s : Setting) (i : ℕ) → i ≤ last_of s → code_check s (code_at s i) ≡ Ok tt
code_passes s i h = rw (eq-eqb (code_at s i % (codes_of s).apart) 0 divisible, le-leb (codes_of s).first (code_at s i) (omega arith), le-leb (code_at s i) (code_at s (last_of s)) up)
  where
    divisible : code_at s i % (codes_of s).apart ≡ 0
    divisible = add-mul-mod_self_right (codes_of s).first i (codes_of s).apart ∙ (laid_of s).divisible

    up : code_at s i ≤ code_at s (last_of s)
    up = more (i * (codes_of s).apart) (last_of s * (codes_of s).apart) (mul-le-mul_right (codes_of s).apart h)
      where
        more : (a b : ℕ) → a ≤ b → (codes_of s).first + a ≤ (codes_of s).first + b
        more a b h = omega arith

-- a later code has a later step, and the other way round
pub step_rises : (s : Setting) (m n : ℕ) → code_check s m ≡ Ok tt → code_check s n ≡ Ok tt → m < n → step_of s m < step_of s n
step_rises s m n p q h =
    lt_of_mul-lt-mul_right (codes_of s).apart (less (step_of s m * (codes_of s).apart) (step_of s n * (codes_of s).apart) (from_start s m (passing s m p)) (from_start s n (passing s n q)) (passing s m p).from_first)
  where
    less : (a b : ℕ) → a ≡ m - (codes_of s).first → b ≡ n - (codes_of s).first → (codes_of s).first ≤ m → a < b
    less a b e f g = omega (arith, h)

pub code_rises : (s : Setting) (i j : ℕ) → i < j → code_at s i < code_at s j
code_rises s i j h = more (i * (codes_of s).apart) (j * (codes_of s).apart) (mul-lt-mul_of_pos_right h (laid_of s).apart)
  where
    more : (a b : ℕ) → a < b → (codes_of s).first + a < (codes_of s).first + b
    more a b h = omega arith

-- ---- a code fits two bytes, and so does a step
pub code_small : (s : Setting) (i : ℕ) → i ≤ last_of s → code_at s i < 2 ^ 16
code_small s i h = lt_of_le_of_lt (passing s (code_at s i) (code_passes s i h)).to_last (laid_of s).fits

pub last_small : (s : Setting) → last_of s < 2 ^ 16
last_small s = lt_of_le_of_lt (least (last_of s) (codes_of s).apart (laid_of s).apart) (laid_of s).fits
  where
    least : (n a : ℕ) → 0 < a → n ≤ (codes_of s).first + n * a
    least n a h = omega (arith, le-mul_of_pos_right n h)
