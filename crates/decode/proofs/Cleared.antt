-- The exponent of a curve with its fractions cleared: at the step x / r it is (rise * x + .. - ..) / (den * r * last).
-- Assumes nothing.
use mathlib.Core.Path.{◌≡◌}
use Prim.Native.Nat.{ℕ, ◌+◌, ◌*◌}
use native.Mathlib.Omega.{arith}
use Rattle.whole.proofs.Tidy.{tidy}
use Rattle.rules.specs.Fraction.{Fraction, ratio, Versus}
use Rattle.rules.specs.Curve.{Curve, log_c4, log_c, exponent}
use Rattle.rules.specs.Exact.{Scale, signal}

-- of a signal t the exponent is (rise * t + above - below) / den
abbrev pub rise : Curve → ℕ
rise log_c4 = 14 * 1023
rise (log_c k) = 1000000

abbrev pub above : Curve → ℕ
above log_c4 = 6 * 928
above (log_c k) = 0

abbrev pub below : Curve → ℕ
below log_c4 = 14 * 95
below (log_c k) = k.d

abbrev pub den : Curve → ℕ
den log_c4 = 928
den (log_c k) = k.c

-- at the step x / r
abbrev pub exponent_at : Scale → (x r : ℕ) → Fraction
exponent_at k x r =
    record { plus = rise k.curve * x + above k.curve * (r * k.last); minus = below k.curve * (r * k.last); over = den k.curve * (r * k.last) }

-- it is the exponent of the rules
same_exponent : (c : Curve) (last x r : ℕ)
    → Versus (λ m n. m ≡ n) (exponent c (signal (record { curve = c; last = last }) (ratio x r))) (exponent_at (record { curve = c; last = last }) x r)
same_exponent log_c4 last x r = simp tidy (omega arith)
same_exponent (log_c k) last x r = simp tidy (omega arith)

pub exponent_is : (k : Scale) (x r : ℕ) → Versus (λ m n. m ≡ n) (exponent k.curve (signal k (ratio x r))) (exponent_at k x r)
exponent_is k x r = same_exponent k.curve k.last x r
