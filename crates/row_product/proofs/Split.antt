-- Row products of two digits, joined, are the row products of the entries.
-- Assumes nothing.
use mathlib.Core.Path.{◌≡◌, ◌∙◌}
use Prim.Native.Nat.{ℕ}
use native.Mathlib.Omega.{arith}
use lib.IntN.{ℤ, pos, ◌+ℤ◌, ◌*ℤ◌}
use Rattle.whole.proofs.Reflect.{at, add, sub, mul, eq_z}
use Rattle.row_product.specs.Digits.{upper, lower}

-- an entry times a number, by its two parts
parts : (b : ℕ) (c x : ℤ) → pos b *ℤ (upper b c *ℤ x) +ℤ lower b c *ℤ x ≡ c *ℤ x
parts b c x =
    eq_z (add (mul (at (pos b)) (mul (at (upper b c)) (at x))) (mul (sub (at c) (mul (at (pos b)) (at (upper b c)))) (at x))) (mul (at c) (at x)) (omega arith)

gathered : (b h₀ h₁ h₂ l₀ l₁ l₂ : ℤ) → b *ℤ (h₀ +ℤ h₁ +ℤ h₂) +ℤ (l₀ +ℤ l₁ +ℤ l₂) ≡ (b *ℤ h₀ +ℤ l₀) +ℤ (b *ℤ h₁ +ℤ l₁) +ℤ (b *ℤ h₂ +ℤ l₂)
gathered b h₀ h₁ h₂ l₀ l₁ l₂ =
    eq_z (add (mul (at b) (add (add (at h₀) (at h₁)) (at h₂))) (add (add (at l₀) (at l₁)) (at l₂)))
    (add (add (add (mul (at b) (at h₀)) (at l₀)) (add (mul (at b) (at h₁)) (at l₁))) (add (mul (at b) (at h₂)) (at l₂)))
    (omega arith)

-- a row, by the parts of its entries
pub two_digits : (b : ℕ) (c₀ c₁ c₂ x y z : ℤ)
    → pos b *ℤ (upper b c₀ *ℤ x +ℤ upper b c₁ *ℤ y +ℤ upper b c₂ *ℤ z) +ℤ (lower b c₀ *ℤ x +ℤ lower b c₁ *ℤ y +ℤ lower b c₂ *ℤ z) ≡ c₀ *ℤ x +ℤ c₁ *ℤ y +ℤ c₂ *ℤ z
two_digits b c₀ c₁ c₂ x y z =
    gathered (pos b) (upper b c₀ *ℤ x) (upper b c₁ *ℤ y) (upper b c₂ *ℤ z) (lower b c₀ *ℤ x) (lower b c₁ *ℤ y) (lower b c₂ *ℤ z)
    ∙ (λ i. parts b c₀ x i +ℤ parts b c₁ y i +ℤ parts b c₂ z i)
