-- Sums of two digits, joined and rounded once.
-- Assumes nothing.
use mathlib.Core.Path.{◌≡◌, refl, sym}
use Prim.Native.Nat.{◌^◌}
use native.Mathlib.Omega.{arith}
use lib.Dec.{lit<}
use lib.IntN.{ℤ, pos, ◌+ℤ◌}
use lib.Signed.{shr_z}
use Rattle.whole.specs.Parts.{up, dn}
use Rattle.whole.proofs.Reflect.{at, add, mul, dif, eq_n}
use Rattle.whole.proofs.Floor.{mod_z, mod_z-lt, floor_mod}
use Rattle.rules.specs.Fraction.{integer, whole, ◌/ℚ◌, nearest}
use Rattle.rules.proofs.Nearest.{nearest_is}
use Rattle.aces_inverse.specs.Inverse.{pair}

pub binary : (l h : ℤ) → shr_z (h +ℤ shr_z l 2097152 +ℤ pos 262144) 524288 ≡ nearest (integer (pair h l) /ℚ whole (2 ^ 40))
binary l h =
    let c = shr_z l 2097152 in
    let z = h +ℤ c +ℤ pos 262144 in
    let q = shr_z z 524288 in
    let e = eq_n (add (mul (at c) (at (pos 2097152))) (at (pos (mod_z l 2097152)))) (at l) (floor_mod l 2097152 (lit< tt)) in
    let g = eq_n (add (mul (at q) (at (pos 524288))) (at (pos (mod_z z 524288)))) (add (add (at h) (at c)) (at (pos 262144))) (floor_mod z 524288 (lit< tt)) in
    let s = dif (add (mul (at (pos 2097152)) (at h)) (at l)) in
    sym
    (nearest_is (integer (pair h l) /ℚ whole (2 ^ 40)) q (up q) (dn q) refl
    (omega (arith, mod_z-lt l 2097152 (lit< tt), mod_z-lt z 524288 (lit< tt)))
    (omega (arith, mod_z-lt l 2097152 (lit< tt), mod_z-lt z 524288 (lit< tt))))
