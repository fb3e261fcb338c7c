-- Numbers from minus a limit to the limit, and so the check of a scene number.
-- Assumes nothing.
use Rattle.std.specs.Prelude.{Ok}
use mathlib.Core.Bool.{Bool, true, false}
use mathlib.Core.Path.{◌≡◌, refl, sym, subst}
use Prim.Native.Nat.{ℕ, zero, suc, ◌^◌, ◌≤◌}
use native.Mathlib.Omega.{arith}
use lib.Dec.{T}
use lib.Ieee.Bits.{is_true}
use lib.IntN.{ℤ, pos, nat_abs}
use lib.Signed.{le_z}
use Rattle.whole.specs.Parts.{minus, up, dn}
use Rattle.whole.proofs.Reflect.{at, abs_is, one_zero, le_n-of, le_z-of}
use Rattle.rules.specs.declared.Refusal.{Refusal}
use Rattle.rules.specs.declared.Refusal.TheVariants.{SceneOutOfRange}
use Rattle.rules.specs.Choice.{choose, between}
use Rattle.rules.specs.Encoding.{scene_check}
use Rattle.rules.specs.Refusal.{refuse_unless}
use Rattle.rules.proofs.Settings.{passed_only}

-- minus the limit
below : (limit : ℕ) → (up (minus limit) ≡ 0) × (dn (minus limit) ≡ limit)
below zero = (refl, refl)
below (suc k) = (refl, refl)

module _ (limit : ℕ) (x : ℤ) where
  pub small_between : nat_abs x ≤ limit → between limit x ≡ true
  small_between h =
      let m = below limit in
      let low = is_true (le_z (minus limit) x) (le_z-of (at (minus limit)) (at x) (omega (arith, abs_is x, m.0, m.1))).le in
      let high = is_true (le_z x (pos limit)) (le_z-of (at x) (at (pos limit)) (omega (arith, abs_is x))).le in
      rw (low, high)

  pub between_small : between limit x ≡ true → nat_abs x ≤ limit
  between_small e = go (le_z (minus limit) x) (le_z x (pos limit)) refl refl e
    where
      go : (b c : Bool) → le_z (minus limit) x ≡ b → le_z x (pos limit) ≡ c → choose b c false ≡ true → nat_abs x ≤ limit
      go true true f g e =
          let m = below limit in
          omega (arith, m.0, m.1, abs_is x, one_zero x, le_n-of (at (minus limit)) (at x) (record { le = subst T (sym f) tt }), le_n-of (at x) (at (pos limit)) (record { le = subst T (sym g) tt }))
      go true false f g e = absurd (subst T (sym e) tt)
      go false c f g e = absurd (subst T (sym e) tt)

-- what a check by a test lets pass
pub test_passed : (b : Bool) (why : Refusal) → refuse_unless b why ≡ Ok tt → b ≡ true
test_passed b why e = is_true b (passed_only b why e)

-- a number that may be encoded
pub scene_passes : (x : ℤ) → nat_abs x ≤ 2 ^ 40 → scene_check x ≡ Ok tt
unfolding scene_check
scene_passes x h = rw (small_between (2 ^ 40) x h)

pub scene_small : (x : ℤ) → scene_check x ≡ Ok tt → nat_abs x ≤ 2 ^ 40
unfolding scene_check
scene_small x e = between_small (2 ^ 40) x (test_passed (between (2 ^ 40) x) SceneOutOfRange e)
