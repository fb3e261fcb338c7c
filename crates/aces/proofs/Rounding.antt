-- Sums of digits, joined and rounded once.
-- Assumes nothing.
use mathlib.Core.Path.{◌≡◌, refl, sym}
use Prim.Native.Nat.{◌^◌}
use native.Mathlib.Omega.{arith}
use lib.Dec.{lit<}
use lib.IntN.{ℤ, pos, ◌+ℤ◌}
use lib.Signed.{shr_z}
use Rattle.whole.specs.Parts.{up, dn}
use Rattle.whole.proofs.Reflect.{at, add, mul, dif, eq_n}
use Rattle.whole.proofs.Floor.{mod_z, mod_z-lt, floor_mod}
use Rattle.rules.specs.Fraction.{integer, whole, ◌/ℚ◌, nearest}
use Rattle.rules.proofs.Nearest.{nearest_is}
use Rattle.aces.specs.Joined.{joined}

-- over 10 ^ 6
pub million : (p : ℤ) → shr_z (p +ℤ pos 500000) 1000000 ≡ nearest (integer p /ℚ whole (10 ^ 6))
million p =
    let z = p +ℤ pos 500000 in
    let q = shr_z z 1000000 in
    let e = eq_n (add (mul (at q) (at (pos 1000000))) (at (pos (mod_z z 1000000)))) (add (at p) (at (pos 500000))) (floor_mod z 1000000 (lit< tt)) in
    sym
    (nearest_is (integer p /ℚ whole (10 ^ 6)) q (up q) (dn q) refl
    (omega (arith, mod_z-lt z 1000000 (lit< tt)))
    (omega (arith, mod_z-lt z 1000000 (lit< tt))))

-- over 10 ^ 18, by three digits
pub digits : (l m h : ℤ) → shr_z (h +ℤ shr_z (m +ℤ shr_z l 1000000) 1000000 +ℤ pos 500000) 1000000 ≡ nearest (integer (joined h m l) /ℚ whole (10 ^ 18))
digits l m h =
    let c = shr_z l 1000000 in
    let y = m +ℤ c in
    let d = shr_z y 1000000 in
    let z = h +ℤ d +ℤ pos 500000 in
    let q = shr_z z 1000000 in
    let e = eq_n (add (mul (at c) (at (pos 1000000))) (at (pos (mod_z l 1000000)))) (at l) (floor_mod l 1000000 (lit< tt)) in
    let f = eq_n (add (mul (at d) (at (pos 1000000))) (at (pos (mod_z y 1000000)))) (add (at m) (at c)) (floor_mod y 1000000 (lit< tt)) in
    let g = eq_n (add (mul (at q) (at (pos 1000000))) (at (pos (mod_z z 1000000)))) (add (add (at h) (at d)) (at (pos 500000))) (floor_mod z 1000000 (lit< tt)) in
    let s = dif (add (mul (at (pos 1000000)) (add (mul (at (pos 1000000)) (at h)) (at m))) (at l)) in
    sym
    (nearest_is (integer (joined h m l) /ℚ whole (10 ^ 18)) q (up q) (dn q) refl
    (omega (arith, mod_z-lt l 1000000 (lit< tt), mod_z-lt y 1000000 (lit< tt), mod_z-lt z 1000000 (lit< tt)))
    (omega (arith, mod_z-lt l 1000000 (lit< tt), mod_z-lt y 1000000 (lit< tt), mod_z-lt z 1000000 (lit< tt))))
