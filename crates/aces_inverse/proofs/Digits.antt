-- The digits of an inverse's entries are small, and their row products, joined, are those of the entries.
-- Assumes nothing.
use mathlib.Core.List.{List, map}
use mathlib.Core.Path.{◌≡◌}
use Prim.Native.Nat.{ℕ, ◌<◌}
use lib.IntN.{ℤ, ◌+ℤ◌, ◌*ℤ◌}
use Rattle.rules.specs.declared.Setting.{Setting}
use Rattle.rules.specs.Setting.{ValidForAces}
use Rattle.rules.specs.Matrix.{entry, row_product}
use Rattle.rules.proofs.Settings.{for_aces}
use Rattle.whole.proofs.Tests.{each_of_three}
use Rattle.row_product.specs.Row.{SmallRows, plain}
use Rattle.row_product.specs.Digits.{upper, lower}
use Rattle.row_product.proofs.Sizes.{rows_small}
use Rattle.row_product.proofs.Split.{two_digits}
use Rattle.aces_inverse.specs.Inverse.{log_c3_inverse, log_c4_inverse, inverse_for, inverse_rows, high_rows, low_rows, pair}

-- the row i of three numbers, by its digits
abbrev ByDigits : (m : List (List ℤ)) (x y z : ℤ) → ℕ → Type 0
ByDigits m x y z i = pair (row_product (plain (map (map (upper 2097152)) m)) i x y z) (row_product (plain (map (map (lower 2097152)) m)) i x y z) ≡ row_product (plain m) i x y z

module _ (s : Setting) (v : ValidForAces s) where
  pub high_small : SmallRows (high_rows s)
  high_small = for_aces (λ c. SmallRows (map (map (upper 2097152)) (inverse_for c))) (rows_small _ tt tt tt) (rows_small _ tt tt tt) s v

  pub low_small : SmallRows (low_rows s)
  low_small = for_aces (λ c. SmallRows (map (map (lower 2097152)) (inverse_for c))) (rows_small _ tt tt tt) (rows_small _ tt tt tt) s v

  pub pair_is : (i : ℕ) → i < 3 → (x y z : ℤ) → pair (row_product (plain (high_rows s)) i x y z) (row_product (plain (low_rows s)) i x y z) ≡ row_product (plain (inverse_rows s)) i x y z
  pair_is i h x y z =
      for_aces (λ c. ByDigits (inverse_for c) x y z i) (each_of_three (ByDigits log_c3_inverse x y z) (row log_c3_inverse 0) (row log_c3_inverse 1) (row log_c3_inverse 2) i h)
      (each_of_three (ByDigits log_c4_inverse x y z) (row log_c4_inverse 0) (row log_c4_inverse 1) (row log_c4_inverse 2) i h)
      s
      v
    where
      row : (m : List (List ℤ)) (i : ℕ)
          → pair (upper 2097152 (entry (plain m) i 0) *ℤ x +ℤ upper 2097152 (entry (plain m) i 1) *ℤ y +ℤ upper 2097152 (entry (plain m) i 2) *ℤ z) (lower 2097152 (entry (plain m) i 0) *ℤ x +ℤ lower 2097152 (entry (plain m) i 1) *ℤ y +ℤ lower 2097152 (entry (plain m) i 2) *ℤ z)
          ≡ row_product (plain m) i x y z
      row m i = two_digits 2097152 (entry (plain m) i 0) (entry (plain m) i 1) (entry (plain m) i 2) x y z
