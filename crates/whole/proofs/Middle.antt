-- A number in the middle of two: it is at most half as far from each as they are apart.
-- Assumes nothing.
use Prim.Native.Nat.{ℕ, ◌*◌}
use native.Mathlib.Omega.{arith}
use lib.Dec.{lit<}
use lib.IntN.{ℤ, pos, ◌+ℤ◌}
use lib.Signed.{shr_z}
use Rattle.whole.proofs.Reflect.{at, add, mul, eq_n}
use Rattle.whole.proofs.Floor.{mod_z, mod_z-lt, floor_mod}
use Rattle.whole.proofs.Near.{Near}

abbrev pub middle : ℤ → ℤ → ℤ
middle x y = shr_z (x +ℤ y) 2

pub middle_near : (e : ℕ) {x y : ℤ} → Near x y (2 * e) → Near (middle x y) x e × Near (middle x y) y e
middle_near e {x} {y} n =
    let m = middle x y in
    let r = mod_z (x +ℤ y) 2 in
    let h = eq_n (add (mul (at m) (at (pos 2))) (at (pos r))) (add (at x) (at y)) (floor_mod (x +ℤ y) 2 (lit< tt)) in
    let l = mod_z-lt (x +ℤ y) 2 (lit< tt) in (
      record { high = omega (arith, h, l, n.high, n.low); low = omega (arith, h, l, n.high, n.low) },
      record { high = omega (arith, h, l, n.high, n.low); low = omega (arith, h, l, n.high, n.low) },
    )
