-- `aces` meets its contract: the setting's curve decides.
use Rattle.std.proofs.Common.{ℕ, ℤ, pos, ◌+ℤ◌, ◌*ℤ◌, ◌≡◌, ap, arith}
use Rattle.whole.proofs.Reflect.{at, add, mul, eq_z}
use Rattle.rules.specs.Fraction.{integer, whole, ◌/ℚ◌, nearest}
use Rattle.rules.specs.Matrix.{no_matrix, matrix_for, aces_number, IsAces}
use Rattle.rules.proofs.Settings.{for_others}
use Rattle.aces.proofs.aces.Goals as goal

-- where there is no matrix
none_is : (i : ℕ) (x y z : ℤ) → pos 0 ≡ aces_number no_matrix i x y z
unfolding aces_number
none_is i x y z = ap (λ (p : ℤ). nearest (integer p /ℚ whole 1)) zero
  where
    zero : pos 0 ≡ pos 0 *ℤ x +ℤ pos 0 *ℤ y +ℤ pos 0 *ℤ z
    zero = eq_z (at (pos 0)) (add (add (mul (at (pos 0)) (at x)) (mul (at (pos 0)) (at y))) (mul (at (pos 0)) (at z))) (omega arith)

nothing : (x y z : ℤ) → IsAces no_matrix x y z (pos 0) (pos 0) (pos 0)
nothing x y z = record { red_is = none_is 0 x y z; green_is = none_is 1 x y z; blue_is = none_is 2 x y z }

pub returns-in_default : goal.returns-in_default
returns-in_default c =
    let a = c.args in
    for_others (λ n. IsAces (matrix_for n) a.x.0 a.y.0 a.z.0 (pos 0) (pos 0) (pos 0)) (nothing _ _ _) (nothing _ _ _) a.s.curve (λ e. omega arith) (λ e. omega arith)
