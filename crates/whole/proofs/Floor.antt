-- The division of an integer by a natural that rounds down, by its two bounds and by its remainder.
-- Assumes nothing.
use mathlib.Core.Path.{◌≡◌, ap, ◌∙◌}
use Prim.Native.Nat.{ℕ, suc, ◌+◌, ◌-◌, ◌*◌, ◌/◌, ◌%◌, ◌<◌, ◌≤◌}
use native.Mathlib.Nat.{div-add-mod', mod-lt}
use native.Mathlib.Omega.{arith}
use lib.Arith.{digits_div}
use lib.IntN.{ℤ, pos, negsuc, sub_ℕ, ◌+ℤ◌, ◌*ℤ◌}
use lib.Signed.{mag_shr, shr_z}
use mir.Syntax.{w64}
use mir.Val.{SFits}
use mir.ValLaws.{sfits_le}
use Rattle.whole.specs.Parts.{up, dn}
use Rattle.whole.proofs.Reflect.{at, add, mul, eq_z, eq_n, sub_dif}

-- the quotient is the number that leaves a remainder below m
pub floor_is : (q : ℤ) (m r : ℕ) → r < m → shr_z (q *ℤ pos m +ℤ pos r) m ≡ q
floor_is (pos k) m r h = ap pos (digits_div k h)
floor_is (negsuc k) m r h =
    ap (λ (z : ℤ). shr_z z m) (eq_z (add (mul (at (negsuc k)) (at (pos m))) (at (pos r))) (at (negsuc (k * m + (m - suc r)))) (omega arith))
    ∙ ap negsuc (digits_div k (omega arith))

-- the quotient of a difference: q * m is at most a - b, and (q + 1) * m above it
pub floor_only : (a b m : ℕ) (q : ℤ) → up q * m + b ≤ a + dn q * m → a + dn q * m < up q * m + m + b → shr_z (sub_ℕ a b) m ≡ q
floor_only a b m q l h = ap (λ (z : ℤ). shr_z z m) e ∙ floor_is q m (a + dn q * m - (up q * m + b)) (omega arith)
  where
    e : sub_ℕ a b ≡ q *ℤ pos m +ℤ pos (a + dn q * m - (up q * m + b))
    e =
        eq_z (at (sub_ℕ a b)) (add (mul (at q) (at (pos m))) (at (pos (a + dn q * m - (up q * m + b)))))
        (omega (arith, sub_dif a b))

-- ---- the remainder
abbrev pub mod_z : ℤ → ℕ → ℕ
mod_z (pos a) m = a % m
mod_z (negsuc a) m = (m - 1) - a % m

pub mod_z-lt : (z : ℤ) (m : ℕ) → 0 < m → mod_z z m < m
mod_z-lt (pos a) m h = mod-lt a h
mod_z-lt (negsuc a) m h = below (a % m)
  where
    below : (r : ℕ) → (m - 1) - r < m
    below r = omega arith

pub floor_mod : (z : ℤ) (m : ℕ) → 0 < m → shr_z z m *ℤ pos m +ℤ pos (mod_z z m) ≡ z
floor_mod (pos a) m h = ap pos (div-add-mod' a m)
floor_mod (negsuc a) m h =
    eq_z (add (mul (at (negsuc (a / m))) (at (pos m))) (at (pos ((m - 1) - a % m)))) (at (negsuc a))
    (omega (arith, div-add-mod' a m, mod-lt a h))

-- ---- a quotient to the nearest, a half going up, by its two bounds
pub half_bounds : (p m o : ℕ) → 0 < o → (y : ℤ) → y ≡ shr_z (sub_ℕ (2 * p + o) (2 * m)) (2 * o)
    → (up y * (2 * o) + 2 * m ≤ 2 * p + o + dn y * (2 * o)) × (2 * p + o + dn y * (2 * o) < up y * (2 * o) + 2 * o + 2 * m)
half_bounds p m o h y e =
    let d = sub_ℕ (2 * p + o) (2 * m) in
    let f : y *ℤ pos (2 * o) +ℤ pos (mod_z d (2 * o)) ≡ d = ap (λ (q : ℤ). q *ℤ pos (2 * o) +ℤ pos (mod_z d (2 * o))) e ∙ floor_mod d (2 * o) (omega arith) in
    let g = eq_n (add (mul (at y) (at (pos (2 * o)))) (at (pos (mod_z d (2 * o))))) (at d) f in
    let r = mod_z-lt d (2 * o) (omega arith) in
    (omega (arith, sub_dif (2 * p + o) (2 * m)), omega (arith, sub_dif (2 * p + o) (2 * m)))

-- ---- of a word it is a word
pub floor_fits : (z : ℤ) (m : ℕ) → SFits w64 z → SFits w64 (shr_z z m)
floor_fits z m f = sfits_le (mag_shr z m) f
