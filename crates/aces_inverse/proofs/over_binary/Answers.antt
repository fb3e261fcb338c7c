-- `over_binary` meets its contract: the carry of the lower digits, then one rounding.
use Rattle.std.proofs.Common.{◌≡◌, ◌≤◌, arith, ℤ, pos, nat_abs, ◌+ℤ◌, FitsSigned, w64}
use lib.Dec.{lit≤}
use lib.Signed.{shr_z}
use Rattle.whole.proofs.Floor.{floor_fits}
use Rattle.whole.proofs.Words.{read_back, read_back_lem}
use Rattle.rules.specs.Fraction.{integer, whole, ◌/ℚ◌, nearest}
use Rattle.row_product.specs.Row.{Sum}
use Rattle.row_product.proofs.Carries.{more_fits, carried_fits, quotient_small}
use Rattle.row_product.proofs.Sizes.{sum_fits}
use Rattle.aces_inverse.specs.Inverse.{pair}
use Rattle.aces_inverse.proofs.Rounding.{binary}
use Rattle.aces_inverse.proofs.over_binary.Goals as goal

-- the carry, and the sums with it
module _ (l h : ℤ) (sl : Sum l) (sh : Sum h) where
  carry_fits : FitsSigned w64 (shr_z l 2097152)
  carry_fits = floor_fits l 2097152 (sum_fits l sl)

  carry_small : nat_abs (shr_z l 2097152) ≤ 9000000000001
  carry_small = quotient_small l 2097152 (lit≤ tt) (omega (arith, sl.small))

  first : FitsSigned w64 (h +ℤ shr_z l 2097152)
  first = more_fits h (shr_z l 2097152) sh (omega (arith, carry_small))

  second : FitsSigned w64 (h +ℤ shr_z l 2097152 +ℤ pos 262144)
  second = carried_fits h (shr_z l 2097152) 262144 sh carry_small (lit≤ tt)

  quotient_fits : FitsSigned w64 (shr_z (h +ℤ shr_z l 2097152 +ℤ pos 262144) 524288)
  quotient_fits = floor_fits (h +ℤ shr_z l 2097152 +ℤ pos 262144) 524288 second

  rounded : read_back (shr_z (read_back (read_back (read_back h +ℤ read_back (shr_z (read_back l) 2097152)) +ℤ pos 262144)) 524288) ≡ nearest (integer (pair h l) /ℚ whole 1099511627776)
  rounded = rw (read_back_lem (sum_fits l sl), read_back_lem (sum_fits h sh), read_back_lem carry_fits, read_back_lem first, read_back_lem second, read_back_lem quotient_fits) (binary l h)

pub returns : goal.returns
returns c = rounded c.args.l c.args.h c.requires.low c.requires.high
