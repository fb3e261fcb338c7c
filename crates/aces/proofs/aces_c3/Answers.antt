-- `aces_c3` meets its contract: each row product is rounded once.
use Rattle.std.proofs.Common.{ℤ, ◌≡◌, ◌<◌, ◌∙◌, sym, subst}
use lib.Signed.{mag}
use Rattle.whole.proofs.Words.{read_back, read_back_lem}
use Rattle.rules.specs.Fraction.{integer, whole, ◌/ℚ◌, nearest}
use Rattle.rules.specs.Matrix.{log_c3_matrix, aces_number}
use Rattle.row_product.specs.Row.{Number, Sum, SmallRows, IsProducts}
use Rattle.row_product.proofs.Sizes.{Read, read_products, rows_small, number_fits}
use Rattle.aces.proofs.aces_c3.Goals as goal

small : SmallRows log_c3_matrix.rows
small = rows_small log_c3_matrix.rows tt tt tt

-- the products, as they are read
read : {x y z p q r : ℤ} → Number x → Number y → Number z → IsProducts log_c3_matrix.rows (read_back x) (read_back y) (read_back z) p q r → Read log_c3_matrix.rows x y z p q r
read {x} {y} {z} i j k h = read_products log_c3_matrix.rows x y z small i j k (rw (read_back_lem (number_fits i), read_back_lem (number_fits j), read_back_lem (number_fits k)) at h)

-- a number that a row gives: r is read of a word, and p is the product
rounded : {r p w : ℤ} → mag r < 9223372036854775808 → r ≡ nearest (integer p /ℚ whole 1000000) → p ≡ w → read_back r ≡ nearest (integer w /ℚ whole 1000000)
rounded f e h = read_back_lem (record { sfits = f }) ∙ (rw h at e)

pub over_million-requires : goal.over_million-requires
over_million-requires c =
    let r = read c.requires.red c.requires.green c.requires.blue c.products-p.ensures in
    subst Sum (sym r.red) r.red_sum

pub over_million-requires-2 : goal.over_million-requires-2
over_million-requires-2 c =
    let r = read c.requires.red c.requires.green c.requires.blue c.products-p.ensures in
    subst Sum (sym r.green) r.green_sum

pub over_million-requires-3 : goal.over_million-requires-3
over_million-requires-3 c =
    let r = read c.requires.red c.requires.green c.requires.blue c.products-p.ensures in
    subst Sum (sym r.blue) r.blue_sum

pub returns : goal.returns
unfolding aces_number
returns c =
    let r = read c.requires.red c.requires.green c.requires.blue c.products-p.ensures in
    record {
      red_is = rounded c.over_million.type_inv c.over_million.ensures r.red;
      green_is = rounded c.over_million-2.type_inv c.over_million-2.ensures r.green;
      blue_is = rounded c.over_million-3.type_inv c.over_million-3.ensures r.blue;
    }
