-- The numbers that the reading of a float computes, for an exponent from 997 to 1039: what they are, and that they fit words.
-- Assumes nothing.
use Rattle.std.specs.Prelude.{Ok}
use mathlib.Core.Bool.{true, false}
use mathlib.Core.Logic.{◌⊎◌, inl, inr}
use mathlib.Core.Path.{◌≡◌, sym, ap, ◌∙◌}
use Prim.Native.Nat.{ℕ, suc, ◌+◌, ◌-◌, ◌*◌, ◌/◌, ◌%◌, ◌^◌, ◌≤◌, ◌<◌}
use native.Mathlib.Nat.{le_of_eq, le_trans, lt_of_le_of_lt, div-le_self, pow-succ'}
use native.Mathlib.Omega.{arith}
use lib.Dec.{eqb}
use lib.IntN.{pos, ◌-ℤ◌}
use lib.Pow.{pow_mono, pow_pos}
use lib.Ieee.{binary64, of_fields}
use mir.Syntax.{w64}
use mir.Val.{SFits}
use Rattle.whole.proofs.Reflect.{at, sub}
use Rattle.whole.proofs.Words.{fits_z}
use Rattle.float_unit.specs.Reading.{unit_count, read_answer}
use Rattle.float_unit.proofs.Fractions.{read_plus, read_minus}
use Rattle.float_unit.proofs.Fields.{read_mid, no_sign, a_sign}

module _ (x : ℕ) (lo : 997 ≤ x) (up : x ≤ 1039) where
  pub half_le : 2 ^ (1050 - x) ≤ 9007199254740992
  half_le = pow_mono {i = 1050 - x} {j = 53} (omega arith)

  -- the shifted one
  pub half_is : 1 * 2 ^ (1051 - x - 1) % 18446744073709551616 ≡ 2 ^ (1050 - x)
  half_is =
      let e : 1051 - x - 1 ≡ 1050 - x = omega arith in
      ap (λ (n : ℕ). 1 * 2 ^ n % 18446744073709551616) e ∙ same (2 ^ (1050 - x)) half_le
    where
      same : (n : ℕ) → n ≤ 9007199254740992 → 1 * n % 18446744073709551616 ≡ n
      same n h = omega arith

  pub whole_is : 2 ^ (1051 - x) ≡ 2 * 2 ^ (1050 - x)
  whole_is = ap (λ (n : ℕ). 2 ^ n) e ∙ pow-succ' 2 (1050 - x)
    where
      e : 1051 - x ≡ suc (1050 - x)
      e = omega arith

  module _ (t : ℕ) (small : t < 2 ^ 52) where
    pub sum_fits : t + 4503599627370496 + 1 * 2 ^ (1051 - x - 1) % 18446744073709551616 < 18446744073709551616
    sum_fits = omega (arith, half_is, half_le)

    pub count_is : (s : ℕ) → (t + 4503599627370496 + 1 * 2 ^ (1051 - x - 1) % 18446744073709551616 - s) / 2 ^ (1051 - x) ≡ unit_count s x t
    count_is s = λ i. (t + 4503599627370496 + half_is i - s) / whole_is i

    pub count_small : (s : ℕ) → unit_count s x t < 9223372036854775808
    count_small s = lt_of_le_of_lt (div-le_self (t + 2 ^ 52 + 2 ^ (1050 - x) - s) (2 * 2 ^ (1050 - x))) (less (2 ^ (1050 - x)) half_le)
      where
        less : (n : ℕ) → n ≤ 9007199254740992 → t + 2 ^ 52 + n - s < 9223372036854775808
        less n h = omega arith

    pub count_fits : (s : ℕ) → SFits w64 (pos (unit_count s x t))
    count_fits s = record { sfits = count_small s }

    -- the float is not above 65,536
    module _ (in_range : ((x ≡ 1039) × (t ≤ 0)) ⊎ (x ≡ 1039 → ⊥)) where
      limited : t + 2 ^ 52 ≤ 2199023255552 * 2 ^ (1050 - x)
      limited = go in_range
        where
          go : ((x ≡ 1039) × (t ≤ 0)) ⊎ (x ≡ 1039 → ⊥) → t + 2 ^ 52 ≤ 2199023255552 * 2 ^ (1050 - x)
          go (inl (e, z)) = le_trans (le_of_eq (omega arith)) (le_of_eq (ap (λ (y : ℕ). 2199023255552 * 2 ^ (1050 - y)) (sym e)))
          go (inr n) = let p : 2 ^ 12 ≤ 2 ^ (1050 - x) = pow_mono {i = 12} {j = 1050 - x} (omega arith) in omega arith

      pub plus_exit : (s : ℕ) → s ≡ 0 → Ok (record { 0 = pos (unit_count s x t) }) ≡ read_answer (of_fields binary64 (eqb s 1) x t)
      plus_exit s e =
          ap (λ (n : ℕ). Ok (record { 0 = pos (n / (2 * 2 ^ (1050 - x))) })) (less_none s (t + 2 ^ 52 + 2 ^ (1050 - x)) e)
          ∙ sym (read_plus (t + 2 ^ 52) (2 ^ (1050 - x)) (pow_pos (1050 - x)) limited)
          ∙ sym (read_mid false x t lo up)
          ∙ sym (no_sign s x t e)
        where
          less_none : (s n : ℕ) → s ≡ 0 → n - s ≡ n
          less_none s n e = omega arith

      pub minus_exit : (s : ℕ) → s ≡ 1 → Ok (record { 0 = pos 0 -ℤ pos (unit_count s x t) }) ≡ read_answer (of_fields binary64 (eqb s 1) x t)
      minus_exit s e =
          ap (λ (n : ℕ). Ok (record { 0 = pos 0 -ℤ pos ((t + 2 ^ 52 + 2 ^ (1050 - x) - n) / (2 * 2 ^ (1050 - x))) })) e
          ∙ sym (read_minus (t + 2 ^ 52) (2 ^ (1050 - x)) (pow_pos (1050 - x)) (omega arith) limited)
          ∙ sym (read_mid true x t lo up)
          ∙ sym (a_sign s x t e)

-- minus a number that fits
pub minus_fits : (n : ℕ) → n < 9223372036854775808 → SFits w64 (pos 0 -ℤ pos n)
minus_fits n h = fits_z (sub (at (pos 0)) (at (pos n))) (omega arith) (omega arith)
