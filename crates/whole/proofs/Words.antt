-- Signed words: when an expression over integers fits one, and what is read back of its bits.
-- Assumes nothing.
use mathlib.Core.Path.{◌≡◌, ap, ◌∙◌}
use Prim.Native.Nat.{ℕ, ◌+◌, ◌<◌, ◌≤◌}
use native.Mathlib.Omega.{arith}
use mir.Syntax.{w64}
use mir.Val.{SFits, to_z, of_z}
use mir.ValLaws.{to_z-of_z}
use lib.IntN.{ℤ, pos, negsuc, ◌-ℤ◌}
use lib.Signed.{mag}
use Rattle.whole.specs.Parts.{up, dn}
use Rattle.whole.proofs.Reflect.{Ex, at, sub, val, hi, lo, dif, one_zero, eq_z}

mag_of : (z : ℤ) {H : ℕ} → up z < H → dn z ≤ H → mag z < H
mag_of (pos n) p q = p
mag_of (negsuc n) p q = q

-- an expression whose difference is in the range fits a word
pub fits_z : (e : Ex) → hi e < lo e + 9223372036854775808 → lo e ≤ hi e + 9223372036854775808 → SFits w64 (val e)
fits_z e p q = record { sfits = mag_of (val e) (omega (arith, dif e, one_zero (val e))) (omega (arith, dif e, one_zero (val e))) }

-- what is read of the bits of z, which is z where z fits
abbrev pub read_back : ℤ → ℤ
read_back z = to_z w64 (of_z w64 z)

pub read_back_lem : {z : ℤ} → SFits w64 z → read_back z ≡ z
read_back_lem {z} f = to_z-of_z w64 z f

-- a local that holds r, known to be z
pub read_is : {r z : ℤ} → r ≡ z → SFits w64 z → read_back r ≡ z
read_is e f = ap read_back e ∙ read_back_lem f

-- ---- -1 - z, which fits where z does
abbrev pub not_z : ℤ → ℤ
not_z (pos a) = negsuc a
not_z (negsuc a) = pos a

pub not_is : (z : ℤ) → negsuc 0 -ℤ z ≡ not_z z
not_is (pos a) = eq_z (sub (at (negsuc 0)) (at (pos a))) (at (negsuc a)) (omega arith)
not_is (negsuc a) = eq_z (sub (at (negsuc 0)) (at (negsuc a))) (at (pos a)) (omega arith)

pub not_fits : (z : ℤ) → SFits w64 z → SFits w64 (not_z z)
not_fits (pos a) f = record { sfits = f.sfits }
not_fits (negsuc a) f = record { sfits = f.sfits }
