-- `float_with` makes a float of the bits of a number only.
use Rattle.std.proofs.Common.{sym, ◌∙◌, subst, ℕ, ◌%◌, ◌≤◌, Bool}
use mathlib.Core.Bool.{not}
use borrow.Author.Tests.{le-ltb}
use lib.Bits.{bit_and, and_mask}
use lib.Dec.{T}
use lib.Ieee.{binary64, nan_bits}
use lib.Ieee.Bits.{nan_bits_above}
use Rattle.test_floats.proofs.float_with.Goals as goal

number_bits : (n : ℕ) → bit_and n 9223372036854775807 ≤ 9218868437227405312 → T (not (nan_bits binary64 n))
number_bits n h =
    let l : n % 9223372036854775808 ≤ 9218868437227405312 = subst (λ (m : ℕ). m ≤ 9218868437227405312) (and_mask n 63) h in
    subst (λ (b : Bool). T (not b)) (sym (nan_bits_above binary64 n ∙ le-ltb 9218868437227405312 (n % 9223372036854775808) l)) tt

pub float_from_bits-result : goal.float_from_bits-result
float_from_bits-result c = number_bits c.args.bits c.if-bits-gt9218868437227405312.false
