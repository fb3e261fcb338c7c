-- The units of a float in range are at most 2^40, so they may be encoded.
-- Assumes nothing.
use Rattle.std.specs.Prelude.{Ok}
use mathlib.Core.Bool.{Bool, true, false}
use mathlib.Core.Path.{◌≡◌, refl, sym, subst}
use Prim.Native.Nat.{ℕ, suc, ◌+◌, ◌*◌, ◌^◌, ◌≤◌, ◌<◌}
use native.Mathlib.Nat.{lt_of_mul-lt-mul_right}
use native.Mathlib.Omega.{arith}
use lib.Dec.{T, leb→le}
use lib.IntN.{ℤ, pos, negsuc, nat_abs}
use lib.Ieee.{Float, nan, inf, fin, up, down}
use lib.Ieee.Fits.{down_pos}
use Rattle.whole.proofs.Floor.{half_bounds}
use Rattle.rules.specs.declared.Refusal.TheVariants.{FloatOutOfRange}
use Rattle.rules.specs.Fraction.{nearest}
use Rattle.rules.specs.Encoding.{scene_check}
use Rattle.rules.specs.Float.{signed, value_of, in_range, float_check, units_of}
use Rattle.rules.proofs.Between.{scene_passes}
use Rattle.rules.proofs.Settings.{refused_never, passed_only}
use Rattle.float_unit.proofs.Fractions.{units_at, range_is}

nearest_small : (p m o k : ℕ) → 0 < o → p ≤ k * o → m ≤ k * o → nat_abs (nearest (record { plus = p; minus = m; over = o })) ≤ k
nearest_small p m o k h a b = go (nearest (record { plus = p; minus = m; over = o })) refl
  where
    go : (y : ℤ) → nearest (record { plus = p; minus = m; over = o }) ≡ y → nat_abs y ≤ k
    go (pos j) e =
        let l = (half_bounds p m o h (pos j) (sym e)).0 in
        let c : j < k + 1 = lt_of_mul-lt-mul_right (2 * o) (omega arith) in
        omega arith
    go (negsuc j) e =
        let l = (half_bounds p m o h (negsuc j) (sym e)).1 in
        let c : suc j < k + 1 = lt_of_mul-lt-mul_right (2 * o) (omega arith) in
        omega arith

units_small : (s : Bool) (n d : ℕ) → 0 < d → n ≤ 65536 * d → nat_abs (units_at s n d) ≤ 2 ^ 40
units_small false n d p h = nearest_small (n * 2 ^ 24 + 0 * 0) (n * 0 + 0 * 2 ^ 24) (d * 1) (2 ^ 40) (omega arith) (omega arith) (omega arith)
units_small true n d p h = nearest_small (0 * 2 ^ 24 + n * 0) (0 * 0 + n * 2 ^ 24) (d * 1) (2 ^ 40) (omega arith) (omega arith) (omega arith)

pub units_pass : (x : Float) → float_check x ≡ Ok tt → scene_check (units_of x) ≡ Ok tt
unfolding float_check units_of value_of
units_pass nan e = refused_never e
units_pass (inf s) e = refused_never e
units_pass (fin s m d) e = scene_passes (units_at s (m * up d) (down d)) (units_small s (m * up d) (down d) (down_pos d) (leb→le (m * up d) (65536 * down d) (subst T (range_is s (m * up d) (down d)) (passed_only (in_range (signed s (m * up d) (down d))) FloatOutOfRange e))))
