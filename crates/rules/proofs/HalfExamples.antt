-- 02, item 6: halves by their numbers, computed. (That every half is the nearest is proved in the crate half.)
-- Assumes nothing.
use mathlib.Core.Path.{◌≡◌, refl}
use Prim.Native.Nat.{◌-◌, ◌*◌, ◌^◌}
use lib.Count.{count_leading_zeros}
use lib.IntN.{pos, negsuc}
use Rattle.whole.specs.Parts.{minus}
use Rattle.rules.specs.Half.{half_units, half_check, half_of, with_plus_zero}
use Rattle.rules.specs.Refusal.{number_of_check}

pub record HalfExamples : Type 0 where
  -- one unit is the least half; a tie goes to the even fraction, and a carry into the exponent
  pub one : half_of (pos 1) ≡ 0x0001
  pub minus_one : half_of (minus 1) ≡ 0x8001
  pub zero : half_of (pos 0) ≡ 0x0000
  pub tie_down : half_of (pos 2049) ≡ 0x0800
  pub tie_up : half_of (pos 2051) ≡ 0x0802
  pub tie_carried : half_of (pos 4095) ≡ 0x0C00
  pub tie_above : half_of (pos 4098) ≡ 0x0C00
  -- the ends: also where IEEE 754 would go to an infinity, from 65,520 on, and at the ends of 8 bytes
  pub last : half_of (pos (65504 * 2 ^ 24)) ≡ 0x7BFF
  pub beyond : half_of (pos (65520 * 2 ^ 24)) ≡ 0x7BFF
  pub most : half_of (pos (2 ^ 63 - 1)) ≡ 0x7BFF
  pub least : half_of (negsuc (2 ^ 63 - 1)) ≡ 0xFBFF
  -- read: the values of 1 and -65,504; both zeros; the greatest half below 2^-14
  pub read_one : half_units 0x3C00 ≡ pos (2 ^ 24)
  pub read_last : half_units 0xFBFF ≡ minus (65504 * 2 ^ 24)
  pub read_zero : half_units 0x0000 ≡ pos 0
  pub read_minus_zero : half_units 0x8000 ≡ pos 0
  pub read_small : half_units 0x03FF ≡ pos 1023
  -- an infinity and NaN are refused by 8
  pub infinity : number_of_check (half_check 0x7C00) ≡ 8
  pub minus_infinity : number_of_check (half_check 0xFC00) ≡ 8
  pub not_a_number : number_of_check (half_check 0x7E01) ≡ 8
  pub finite : number_of_check (half_check 0x7BFF) ≡ 0
  -- "minus zero becomes plus zero"
  pub minus_zero_again : with_plus_zero 0x8000 ≡ 0x0000
  pub other_again : with_plus_zero 0x8001 ≡ 0x8001

pub half_examples : HalfExamples
unfolding half_of half_units count_leading_zeros
half_examples =
    record {
      one = refl;
      minus_one = refl;
      zero = refl;
      tie_down = refl;
      tie_up = refl;
      tie_carried = refl;
      tie_above = refl;
      last = refl;
      beyond = refl;
      most = refl;
      least = refl;
      read_one = refl;
      read_last = refl;
      read_zero = refl;
      read_minus_zero = refl;
      read_small = refl;
      infinity = refl;
      minus_infinity = refl;
      not_a_number = refl;
      finite = refl;
      minus_zero_again = refl;
      other_again = refl;
    }
