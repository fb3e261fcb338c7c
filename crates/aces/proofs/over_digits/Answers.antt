-- `over_digits` meets its contract: the carries of the lower digits, then one rounding.
use Rattle.std.proofs.Common.{ℤ, pos, ◌+ℤ◌, nat_abs, ◌≡◌, ◌≤◌, ◌<◌, ◌*◌, ◌^◌, ◌∙◌, arith, FitsSigned, w64}
use lib.Dec.{lit≤}
use lib.Signed.{mag, shr_z}
use Rattle.whole.proofs.Words.{read_back, read_back_lem}
use Rattle.rules.specs.Fraction.{integer, whole, ◌/ℚ◌, nearest}
use Rattle.row_product.specs.Row.{Sum}
use Rattle.row_product.proofs.Carries.{more_fits, more_small, halved_small, carried_fits, quotient_small}
use Rattle.row_product.proofs.Sizes.{sum_fits}
use Rattle.aces.specs.Joined.{joined}
use Rattle.aces.proofs.Rounding.{digits}
use Rattle.aces.proofs.over_digits.Goals as goal

abbrev over : ℤ → ℤ
over z = shr_z z 1000000

module _ (l m h : ℤ) (sl : Sum l) (sm : Sum m) (sh : Sum h) where
  -- the first carry
  abbrev carry : ℤ
  carry = over l

  carry_small : nat_abs carry ≤ 9000000000001
  carry_small = quotient_small l 1000000 (lit≤ tt) (omega (arith, sl.small))

  first : FitsSigned w64 (m +ℤ carry)
  first = more_fits m carry sm (omega (arith, carry_small))

  -- the second
  abbrev second : ℤ
  second = over (m +ℤ carry)

  second_small : nat_abs second ≤ 9000000000001
  second_small = quotient_small (m +ℤ carry) 1000000 (lit≤ tt) (more_small m carry sm carry_small)

  upper : FitsSigned w64 (h +ℤ second)
  upper = more_fits h second sh (omega (arith, second_small))

  halved : FitsSigned w64 (h +ℤ second +ℤ pos 500000)
  halved = carried_fits h second 500000 sh second_small (lit≤ tt)

  -- as they are read of words: a is the first carry, and b the second
  module _ {a : ℤ} (fa : mag a < 9223372036854775808) (ea : a ≡ over (read_back l)) where
    carry_is : read_back a ≡ carry
    carry_is = read_back_lem (record { sfits = fa }) ∙ (rw (read_back_lem (sum_fits l sl)) at ea)

    first_is : read_back (read_back m +ℤ read_back a) ≡ m +ℤ carry
    first_is = rw (read_back_lem (sum_fits m sm), carry_is) (read_back_lem first)

    module _ {b : ℤ} (fb : mag b < 9223372036854775808) (eb : b ≡ over (read_back (read_back m +ℤ read_back a))) where
      second_is : read_back b ≡ second
      second_is = read_back_lem (record { sfits = fb }) ∙ (rw first_is at eb)

      halved_fits : FitsSigned w64 (read_back (read_back h +ℤ read_back b) +ℤ pos 500000)
      halved_fits = rw (read_back_lem (sum_fits h sh), second_is, read_back_lem upper) halved

      halved_is : read_back (read_back (read_back h +ℤ read_back b) +ℤ pos 500000) ≡ h +ℤ second +ℤ pos 500000
      halved_is = rw (read_back_lem (sum_fits h sh), second_is, read_back_lem upper) (read_back_lem halved)

      last_small : nat_abs (read_back (read_back (read_back h +ℤ read_back b) +ℤ pos 500000)) ≤ 2 * 10 ^ 18
      last_small = rw halved_is (halved_small h second 500000 sh second_small (lit≤ tt))

      rounded : {r : ℤ} → mag r < 9223372036854775808 → r ≡ over (read_back (read_back (read_back h +ℤ read_back b) +ℤ pos 500000)) → read_back r ≡ nearest (integer (joined h m l) /ℚ whole (10 ^ 18))
      rounded f e = read_back_lem (record { sfits = f }) ∙ (rw halved_is at e) ∙ digits l m h

pub overflow_add-h-2 : goal.overflow_add-h-2
overflow_add-h-2 c =
    let q = c.requires in
    let a = c.floor_million-carry in
    let b = c.floor_million-second in
    halved_fits c.args.l c.args.m c.args.h q.low q.middle q.high a.type_inv a.ensures b.type_inv b.ensures

pub floor_million-requires : goal.floor_million-requires
floor_million-requires c =
    let q = c.requires in
    let a = c.floor_million-carry in
    let b = c.floor_million-second in
    last_small c.args.l c.args.m c.args.h q.low q.middle q.high a.type_inv a.ensures b.type_inv b.ensures

pub returns : goal.returns
returns c =
    let q = c.requires in
    let a = c.floor_million-carry in
    let b = c.floor_million-second in
    rounded c.args.l c.args.m c.args.h q.low q.middle q.high a.type_inv a.ensures b.type_inv b.ensures c.floor_million.type_inv c.floor_million.ensures
