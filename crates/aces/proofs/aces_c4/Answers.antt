-- `aces_c4` meets its contract: the row products of the digits are joined and rounded once.
use Rattle.std.proofs.Common.{List, map, ℤ, ◌≡◌, ◌<◌, ◌∙◌, ap, sym, subst}
use lib.Signed.{mag}
use Rattle.whole.proofs.Words.{read_back, read_back_lem}
use Rattle.rules.specs.Fraction.{integer, whole, ◌/ℚ◌, nearest}
use Rattle.rules.specs.Matrix.{log_c4_matrix, entry, aces_number}
use Rattle.row_product.specs.Row.{Number, Sum, SmallRows, IsProducts}
use Rattle.row_product.specs.Digits.{lower, upper}
use Rattle.row_product.proofs.Sizes.{Read, read_products, rows_small, number_fits}
use Rattle.aces.specs.Joined.{joined}
use Rattle.aces.proofs.Split.{three_digits}
use Rattle.aces.proofs.aces_c4.Goals as goal

-- the digits of the entries
abbrev lows : List (List ℤ)
lows = map (map (lower 1000000)) log_c4_matrix.rows

abbrev middles : List (List ℤ)
middles = map (map (λ c. lower 1000000 (upper 1000000 c))) log_c4_matrix.rows

abbrev highs : List (List ℤ)
highs = map (map (λ c. upper 1000000 (upper 1000000 c))) log_c4_matrix.rows

-- the products of small rows, as they are read
read : (m : List (List ℤ)) → SmallRows m → {x y z p q r : ℤ} → Number x → Number y → Number z → IsProducts m (read_back x) (read_back y) (read_back z) p q r → Read m x y z p q r
read m s {x} {y} {z} i j k h = read_products m x y z s i j k (rw (read_back_lem (number_fits i), read_back_lem (number_fits j), read_back_lem (number_fits k)) at h)

low : {x y z p q r : ℤ} → Number x → Number y → Number z → IsProducts lows (read_back x) (read_back y) (read_back z) p q r → Read lows x y z p q r
low = read lows (rows_small lows tt tt tt)

middle : {x y z p q r : ℤ} → Number x → Number y → Number z → IsProducts middles (read_back x) (read_back y) (read_back z) p q r → Read middles x y z p q r
middle = read middles (rows_small middles tt tt tt)

high : {x y z p q r : ℤ} → Number x → Number y → Number z → IsProducts highs (read_back x) (read_back y) (read_back z) p q r → Read highs x y z p q r
high = read highs (rows_small highs tt tt tt)

-- a number that a row gives: r is read of a word, and l, m and h are the products
abbrev over : ℤ → ℤ
over w = nearest (integer w /ℚ whole 1000000000000000000)

rounded : {r l m h l' m' h' w : ℤ} → mag r < 9223372036854775808 → r ≡ over (joined h m l) → l ≡ l' → m ≡ m' → h ≡ h' → joined h' m' l' ≡ w → read_back r ≡ over w
rounded f e p q k j = read_back_lem (record { sfits = f }) ∙ (rw (p, q, k) at e) ∙ ap over j

pub over_digits-requires : goal.over_digits-requires
over_digits-requires c =
    let l = low c.requires.red c.requires.green c.requires.blue c.products-l.ensures in
    let m = middle c.requires.red c.requires.green c.requires.blue c.products-m.ensures in
    let h = high c.requires.red c.requires.green c.requires.blue c.products-h.ensures in
    record { low = subst Sum (sym l.red) l.red_sum; middle = subst Sum (sym m.red) m.red_sum; high = subst Sum (sym h.red) h.red_sum }

pub over_digits-requires-2 : goal.over_digits-requires-2
over_digits-requires-2 c =
    let l = low c.requires.red c.requires.green c.requires.blue c.products-l.ensures in
    let m = middle c.requires.red c.requires.green c.requires.blue c.products-m.ensures in
    let h = high c.requires.red c.requires.green c.requires.blue c.products-h.ensures in
    record { low = subst Sum (sym l.green) l.green_sum; middle = subst Sum (sym m.green) m.green_sum; high = subst Sum (sym h.green) h.green_sum }

pub over_digits-requires-3 : goal.over_digits-requires-3
over_digits-requires-3 c =
    let l = low c.requires.red c.requires.green c.requires.blue c.products-l.ensures in
    let m = middle c.requires.red c.requires.green c.requires.blue c.products-m.ensures in
    let h = high c.requires.red c.requires.green c.requires.blue c.products-h.ensures in
    record { low = subst Sum (sym l.blue) l.blue_sum; middle = subst Sum (sym m.blue) m.blue_sum; high = subst Sum (sym h.blue) h.blue_sum }

pub returns : goal.returns
unfolding aces_number
returns c =
    let l = low c.requires.red c.requires.green c.requires.blue c.products-l.ensures in
    let m = middle c.requires.red c.requires.green c.requires.blue c.products-m.ensures in
    let h = high c.requires.red c.requires.green c.requires.blue c.products-h.ensures in
    let a = c.args in
    record {
      red_is = rounded c.over_digits.type_inv c.over_digits.ensures l.red m.red h.red (three_digits (entry log_c4_matrix 0 0) (entry log_c4_matrix 0 1) (entry log_c4_matrix 0 2) a.x.0 a.y.0 a.z.0);
      green_is = rounded c.over_digits-2.type_inv c.over_digits-2.ensures l.green m.green h.green (three_digits (entry log_c4_matrix 1 0) (entry log_c4_matrix 1 1) (entry log_c4_matrix 1 2) a.x.0 a.y.0 a.z.0);
      blue_is = rounded c.over_digits-3.type_inv c.over_digits-3.ensures l.blue m.blue h.blue (three_digits (entry log_c4_matrix 2 0) (entry log_c4_matrix 2 1) (entry log_c4_matrix 2 2) a.x.0 a.y.0 a.z.0);
    }
