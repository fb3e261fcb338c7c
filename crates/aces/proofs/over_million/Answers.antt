-- `over_million` meets its contract.
use Rattle.std.proofs.Common.{ℤ, pos, ◌+ℤ◌, ◌≡◌, ◌<◌, ◌^◌, ◌∙◌, FitsSigned, w64}
use lib.Dec.{lit≤}
use lib.Signed.{mag, shr_z}
use Rattle.whole.proofs.Words.{read_back, read_back_lem}
use Rattle.rules.specs.Fraction.{integer, whole, ◌/ℚ◌, nearest}
use Rattle.row_product.specs.Row.{Sum}
use Rattle.row_product.proofs.Carries.{more_fits}
use Rattle.row_product.proofs.Sizes.{sum_fits}
use Rattle.aces.proofs.Rounding.{million}
use Rattle.aces.proofs.over_million.Goals as goal

module _ (p : ℤ) (s : Sum p) where
  fits : FitsSigned w64 (p +ℤ pos 500000)
  fits = more_fits p (pos 500000) s (lit≤ tt)

  rounded : {r : ℤ} → mag r < 9223372036854775808 → r ≡ shr_z (read_back (read_back p +ℤ pos 500000)) 1000000 → read_back r ≡ nearest (integer p /ℚ whole (10 ^ 6))
  rounded f e = read_back_lem (record { sfits = f }) ∙ (rw (read_back_lem (sum_fits p s), read_back_lem fits) at e) ∙ million p

pub returns : goal.returns
returns c = rounded c.args.p c.requires c.floor_million.type_inv c.floor_million.ensures
