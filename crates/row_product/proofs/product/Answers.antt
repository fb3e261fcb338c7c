-- `product` meets its contract: the entries that it reads are those of the row, and every sum fits.
use Rattle.std.proofs.Common.{List, ℕ, ◌≡◌, ◌≤◌, arith, ℤ, nat_abs, FitsSigned, ◌+ℤ◌, ◌*ℤ◌, w64}
use Rattle.whole.proofs.Reflect.{at, abs_is}
use Rattle.whole.proofs.Words.{fits_z, read_back, read_back_lem}
use Rattle.rules.specs.Matrix.{entry}
use Rattle.row_product.specs.Row.{Number, SmallRow, entry_limit, plain}
use Rattle.row_product.proofs.Sizes.{number_fits, sum_fits, term_fits, two_fit, sum_small}
use Rattle.row_product.proofs.product.Goals as goal

-- an entry and a number, read of their words
read_entry : (z : ℤ) → nat_abs z ≤ entry_limit → read_back z ≡ z
read_entry z h = read_back_lem (fits_z (at z) (omega (arith, h, abs_is z)) (omega (arith, h, abs_is z)))

read_number : (x : ℤ) → Number x → read_back x ≡ x
read_number x n = read_back_lem (number_fits n)

-- a term
term_fits_word : (c x : ℤ) → nat_abs c ≤ entry_limit → Number x → FitsSigned w64 (read_back c *ℤ read_back x)
term_fits_word c x i o = rw (read_entry c i, read_number x o) (term_fits c x i o)

term_is : (c x : ℤ) → nat_abs c ≤ entry_limit → Number x → read_back (read_back c *ℤ read_back x) ≡ c *ℤ x
term_is c x i o = rw (read_entry c i, read_number x o) (read_back_lem (term_fits c x i o))

-- the sums of a row
module _ {m : List (List ℤ)} {i : ℕ} {x y z : ℤ} (s : SmallRow m i) (o₀ : Number x) (o₁ : Number y) (o₂ : Number z) where
  abbrev c₀ : ℤ
  c₀ = entry (plain m) i 0

  abbrev c₁ : ℤ
  c₁ = entry (plain m) i 1

  abbrev c₂ : ℤ
  c₂ = entry (plain m) i 2

  two_fit_word : FitsSigned w64 (read_back (read_back c₀ *ℤ read_back x) +ℤ read_back (read_back c₁ *ℤ read_back y))
  two_fit_word =
      rw (term_is c₀ x s.first o₀, term_is c₁ y s.second o₁)
      (two_fit c₀ c₁ c₂ x y z s.first s.second s.third o₀ o₁ o₂)

  two_are : read_back (read_back (read_back c₀ *ℤ read_back x) +ℤ read_back (read_back c₁ *ℤ read_back y)) ≡ c₀ *ℤ x +ℤ c₁ *ℤ y
  two_are =
      rw (term_is c₀ x s.first o₀, term_is c₁ y s.second o₁)
      (read_back_lem (two_fit c₀ c₁ c₂ x y z s.first s.second s.third o₀ o₁ o₂))

  sum_fits_word : FitsSigned w64 (read_back (read_back (read_back c₀ *ℤ read_back x) +ℤ read_back (read_back c₁ *ℤ read_back y)) +ℤ read_back (read_back c₂ *ℤ read_back z))
  sum_fits_word =
      rw (two_are, term_is c₂ z s.third o₂)
      (sum_fits _ (sum_small c₀ c₁ c₂ x y z s.first s.second s.third o₀ o₁ o₂))

  sum_is : read_back (read_back (read_back (read_back c₀ *ℤ read_back x) +ℤ read_back (read_back c₁ *ℤ read_back y)) +ℤ read_back (read_back c₂ *ℤ read_back z)) ≡ c₀ *ℤ x +ℤ c₁ *ℤ y +ℤ c₂ *ℤ z
  sum_is =
      rw (two_are, term_is c₂ z s.third o₂)
      (read_back_lem (sum_fits _ (sum_small c₀ c₁ c₂ x y z s.first s.second s.third o₀ o₁ o₂)))

pub overflow_mul-result : goal.overflow_mul-result
overflow_mul-result c = term_fits_word (entry (plain c.args.m) c.args.i 0) _ c.requires.small_row.first c.requires.red

pub overflow_mul-result-2 : goal.overflow_mul-result-2
overflow_mul-result-2 c = term_fits_word (entry (plain c.args.m) c.args.i 1) _ c.requires.small_row.second c.requires.green

pub overflow_mul-result-3 : goal.overflow_mul-result-3
overflow_mul-result-3 c = term_fits_word (entry (plain c.args.m) c.args.i 2) _ c.requires.small_row.third c.requires.blue

pub overflow_add-result : goal.overflow_add-result
overflow_add-result c = two_fit_word c.requires.small_row c.requires.red c.requires.green c.requires.blue

pub overflow_add-result-2 : goal.overflow_add-result-2
overflow_add-result-2 c = sum_fits_word c.requires.small_row c.requires.red c.requires.green c.requires.blue

pub returns : goal.returns
returns c = sum_is c.requires.small_row c.requires.red c.requires.green c.requires.blue
