-- Row products of three digits to the base 10 ^ 6, joined, are the row products of the entries.
-- Assumes nothing.
use mathlib.Core.Path.{◌≡◌, ap, ◌∙◌}
use lib.IntN.{ℤ, pos, ◌+ℤ◌, ◌*ℤ◌}
use Rattle.row_product.specs.Digits.{upper, lower}
use Rattle.row_product.proofs.Split.{two_digits}
use Rattle.aces.specs.Joined.{joined}

pub three_digits : (c₀ c₁ c₂ x y z : ℤ)
    → joined (upper 1000000 (upper 1000000 c₀) *ℤ x +ℤ upper 1000000 (upper 1000000 c₁) *ℤ y +ℤ upper 1000000 (upper 1000000 c₂) *ℤ z)
    (lower 1000000 (upper 1000000 c₀) *ℤ x +ℤ lower 1000000 (upper 1000000 c₁) *ℤ y +ℤ lower 1000000 (upper 1000000 c₂) *ℤ z)
    (lower 1000000 c₀ *ℤ x +ℤ lower 1000000 c₁ *ℤ y +ℤ lower 1000000 c₂ *ℤ z)
    ≡ c₀ *ℤ x +ℤ c₁ *ℤ y +ℤ c₂ *ℤ z
three_digits c₀ c₁ c₂ x y z =
    ap (λ (w : ℤ). pos 1000000 *ℤ w +ℤ (lower 1000000 c₀ *ℤ x +ℤ lower 1000000 c₁ *ℤ y +ℤ lower 1000000 c₂ *ℤ z)) (two_digits 1000000 (upper 1000000 c₀) (upper 1000000 c₁) (upper 1000000 c₂) x y z)
    ∙ two_digits 1000000 c₀ c₁ c₂ x y z
