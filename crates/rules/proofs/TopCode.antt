-- The top code of a width, with the width as a parameter: any number at all.
-- Assumes nothing.
use mathlib.Core.Bool.{Bool, true, false}
use mathlib.Core.Path.{◌≡◌, refl, sym, subst, ◌∙◌}
use Prim.Native.Nat.{ℕ, zero, suc, ◌-◌, ◌^◌, ◌≤◌, ◌<◌}
use native.Mathlib.Nat.{lt_of_lt_of_le}
use native.Mathlib.Omega.{arith}
use borrow.Author.Tests.{le-leb, lt-leb, leb-true, leb-false}
use lib.Dec.{leb, lit<}
use lib.Pow.{pow_mono, pow-sub-lt}
use Rattle.rules.specs.Choice.{choose}
use Rattle.rules.specs.Setting.{top_of}

-- what is chosen by the order of two numbers
at_most_lem : (m n a b : ℕ) → m ≤ n → choose (leb m n) a b ≡ a
at_most_lem m n a b h = rw (le-leb m n h)

above : (m n a b : ℕ) → n < m → choose (leb m n) a b ≡ b
above m n a b h = rw (lt-leb m n h)

-- of at most 16 bits it is two to the width, less one. (0 is no width, and two to the 0, less one, is 0 too.)
pub top_of_bits : (w : ℕ) → w ≤ 16 → top_of w ≡ 2 ^ w - 1
top_of_bits zero h = refl
top_of_bits (suc w) h = at_most_lem _ (suc w) _ _ (omega arith) ∙ at_most_lem (suc w) _ _ _ (omega (arith, h))

-- of any other number it is 0
pub top_of_others : (w : ℕ) → 16 < w → top_of w ≡ 0
top_of_others w h = at_most_lem _ w _ _ (omega (arith, h)) ∙ above w _ _ _ (omega (arith, h))

-- a number of at most 16 bits fits two bytes
pub bits_fit : (w : ℕ) → w ≤ 16 → 2 ^ w - 1 < 2 ^ 16
bits_fit w h = lt_of_lt_of_le (pow-sub-lt w (lit< tt)) (pow_mono h)

-- so it fits two bytes
pub top_fits : (w : ℕ) → top_of w < 2 ^ 16
top_fits w = go (leb w 16) refl
  where
    go : (x : Bool) → leb w 16 ≡ x → top_of w < 2 ^ 16
    go true e = subst (λ (n : ℕ). n < 2 ^ 16) (sym (top_of_bits w (leb-true w 16 e))) (bits_fit w (leb-true w 16 e))
    go false e = subst (λ (n : ℕ). n < 2 ^ 16) (sym (top_of_others w (leb-false w 16 e))) (lit< tt)
