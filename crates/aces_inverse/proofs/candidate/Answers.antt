-- `candidate` meets its contract: the row products of the digits are joined and rounded once.
use Rattle.std.proofs.Common.{List, ℤ, ◌≡◌, ◌<◌, ◌∙◌, sym, ap, subst, arith}
use lib.Dec.{lit<}
use lib.Signed.{mag}
use Rattle.whole.proofs.Words.{read_back, read_back_lem}
use Rattle.rules.specs.declared.Setting.{Setting}
use Rattle.rules.specs.Fraction.{integer, whole, ◌/ℚ◌, nearest}
use Rattle.rules.specs.Matrix.{aces_number}
use Rattle.rules.specs.Pixels.{scenes}
use Rattle.rules.specs.Setting.{ValidForAces}
use Rattle.row_product.specs.Row.{Number, Sum, SmallRows, IsProducts}
use Rattle.row_product.proofs.Sizes.{Read, read_products, number_fits}
use Rattle.aces_inverse.specs.Inverse.{low_rows, high_rows, pair}
use Rattle.aces_inverse.specs.Reach.{InReach}
use Rattle.aces_inverse.proofs.Digits.{low_small, high_small, pair_is}
use Rattle.aces_inverse.proofs.candidate.Goals as goal

-- the products, as they are read
module _ (s : Setting) (x y z : ℤ) (v : ValidForAces s) (i : InReach x y z) where
  red_number : Number x
  red_number = record { small = omega (arith, i.red) }

  green_number : Number y
  green_number = record { small = omega (arith, i.green) }

  blue_number : Number z
  blue_number = record { small = omega (arith, i.blue) }

  low : {m : List (List ℤ)} {p q r : ℤ} → m ≡ low_rows s → IsProducts m (read_back x) (read_back y) (read_back z) p q r → Read (low_rows s) x y z p q r
  low e h =
      read_products (low_rows s) x y z (low_small s v) red_number green_number blue_number
      (rw (read_back_lem (number_fits red_number), read_back_lem (number_fits green_number), read_back_lem (number_fits blue_number), e) at h)

  high : {m : List (List ℤ)} {p q r : ℤ} → m ≡ high_rows s → IsProducts m (read_back x) (read_back y) (read_back z) p q r → Read (high_rows s) x y z p q r
  high e h =
      read_products (high_rows s) x y z (high_small s v) red_number green_number blue_number
      (rw (read_back_lem (number_fits red_number), read_back_lem (number_fits green_number), read_back_lem (number_fits blue_number), e) at h)

pub products-h-requires-clause-small_rows : goal.products-h-requires-clause-small_rows
products-h-requires-clause-small_rows c = subst SmallRows (sym c.digits_of-digits.ensures.high) (high_small c.args.s c.requires.valid_for_aces)

pub over_binary-requires : goal.over_binary-requires
over_binary-requires c =
    let a = c.args in
    let v = c.requires.valid_for_aces in
    let i = c.requires.in_reach in
    let l = low a.s a.red.0 a.green.0 a.blue.0 v i c.digits_of-digits.ensures.low c.products-l.ensures in
    let h = high a.s a.red.0 a.green.0 a.blue.0 v i c.digits_of-digits.ensures.high c.products-h.ensures in
    record { low = subst Sum (sym l.red) l.red_sum; high = subst Sum (sym h.red) h.red_sum }

pub over_binary-requires-2 : goal.over_binary-requires-2
over_binary-requires-2 c =
    let a = c.args in
    let v = c.requires.valid_for_aces in
    let i = c.requires.in_reach in
    let l = low a.s a.red.0 a.green.0 a.blue.0 v i c.digits_of-digits.ensures.low c.products-l.ensures in
    let h = high a.s a.red.0 a.green.0 a.blue.0 v i c.digits_of-digits.ensures.high c.products-h.ensures in
    record { low = subst Sum (sym l.green) l.green_sum; high = subst Sum (sym h.green) h.green_sum }

pub over_binary-requires-3 : goal.over_binary-requires-3
over_binary-requires-3 c =
    let a = c.args in
    let v = c.requires.valid_for_aces in
    let i = c.requires.in_reach in
    let l = low a.s a.red.0 a.green.0 a.blue.0 v i c.digits_of-digits.ensures.low c.products-l.ensures in
    let h = high a.s a.red.0 a.green.0 a.blue.0 v i c.digits_of-digits.ensures.high c.products-h.ensures in
    record { low = subst Sum (sym l.blue) l.blue_sum; high = subst Sum (sym h.blue) h.blue_sum }

abbrev over : ℤ → ℤ
over w = nearest (integer w /ℚ whole 1099511627776)

-- the number that a row gives: r is read of a word, and l and h are those of the digits
joined : {r l h l' h' w : ℤ} → mag r < 9223372036854775808 → r ≡ over (pair h l) → l ≡ l' → h ≡ h' → pair h' l' ≡ w → read_back r ≡ over w
joined f e p q k = read_back_lem (record { sfits = f }) ∙ (rw (p, q) at e) ∙ ap over k

pub returns : goal.returns
unfolding aces_number
returns c =
    let a = c.args in
    let v = c.requires.valid_for_aces in
    let i = c.requires.in_reach in
    let l = low a.s a.red.0 a.green.0 a.blue.0 v i c.digits_of-digits.ensures.low c.products-l.ensures in
    let h = high a.s a.red.0 a.green.0 a.blue.0 v i c.digits_of-digits.ensures.high c.products-h.ensures in
    let red = joined c.over_binary.type_inv c.over_binary.ensures l.red h.red (pair_is a.s v 0 (lit< tt) a.red.0 a.green.0 a.blue.0) in
    let green = joined c.over_binary-2.type_inv c.over_binary-2.ensures l.green h.green (pair_is a.s v 1 (lit< tt) a.red.0 a.green.0 a.blue.0) in
    let blue = joined c.over_binary-3.type_inv c.over_binary-3.ensures l.blue h.blue (pair_is a.s v 2 (lit< tt) a.red.0 a.green.0 a.blue.0) in
    λ i. scenes (red i) (green i) (blue i)
