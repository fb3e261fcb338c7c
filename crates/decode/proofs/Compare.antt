-- A value compared with the exact value at a step x / r: from whole numbers to the rules' own comparison.
-- Assumes nothing.
use mathlib.Core.Path.{◌≡◌, sym, ap, ap₂, ◌∙◌, subst₂}
use mathlib.Core.List.{List}
use Prim.Native.Nat.{ℕ, zero, suc, ◌+◌, ◌-◌, ◌*◌, ◌^◌, ◌≤◌, ◌<◌}
use native.Mathlib.Nat.{mul_assoc, mul_comm, mul-pos, mul-le-mul_right, one-le-pow}
use native.Mathlib.Omega.{arith}
use lib.Pow.{pow-add}
use Rattle.whole.proofs.Powers.{mul_pow, pow_mul}
use Rattle.whole.proofs.Tidy.{tidy}
use Rattle.rules.specs.Fraction.{Fraction, ratio, Versus, VersusPower, cleared}
use Rattle.rules.specs.Curve.{Curve, log_c4, log_c, base, exponent, less, factor}
use Rattle.rules.specs.Exact.{Scale, signal, power_for}
use Rattle.rules.proofs.Values.{Ordered, same_value}
use Rattle.curve_table.specs.Table.{lift}
use Rattle.decode.proofs.Cleared.{den, below, exponent_at, exponent_is}
use Rattle.decode.proofs.Tests.{Source, Tested, b, times, kappa, plus_less, minus_less}

-- ---- an exponent that was lifted to be positive
lifted_by : (c m g G X : ℕ) → g ≤ G * m → (X * c ^ G) ^ m ≡ X ^ m * c ^ g * c ^ (G * m - g)
lifted_by c m g G X h =
    mul_pow X (c ^ G) m
    ∙ ap (λ (w : ℕ). X ^ m * w) (sym (pow_mul c G m) ∙ ap (λ (w : ℕ). c ^ w) e ∙ pow-add c g (G * m - g))
    ∙ sym (mul_assoc (X ^ m) (c ^ g) (c ^ (G * m - g)))
  where
    e : G * m ≡ g + (G * m - g)
    e = omega arith

spread : (c m p d S : ℕ) → c ^ (p + d) * S ^ m ≡ c ^ p * S ^ m * c ^ d
spread c m p d S = ap (λ (w : ℕ). w * S ^ m) (pow-add c p d) ∙ simp (mul_assoc, mul_comm)

unlift : {R : ℕ → ℕ → Type 0} → Ordered R → (c m p g G X S : ℕ) → 0 < c → g ≤ G * m
    → R ((X * c ^ G) ^ m) (c ^ (p + (G * m - g)) * S ^ m) → R (X ^ m * c ^ g) (c ^ p * S ^ m)
unlift {R} o c m p g G X S pc h f =
    o.over (c ^ (G * m - g)) (one-le-pow (G * m - g) c pc) (subst₂ R (lifted_by c m g G X h) (spread c m p (G * m - g) S) f)

-- ---- fractions: the power for a value depends on the value alone
same_power_for : (c : Curve) (x y : Fraction) → Versus (λ m n. m ≡ n) x y → Versus (λ m n. m ≡ n) (power_for c x) (power_for c y)
same_power_for c x y e =
    go (factor c).over ((factor c).plus - (factor c).minus) (less c).over (less c).plus (less c).minus x.plus x.minus x.over y.plus y.minus y.over e
  where
    product : (H T M L p z z' : ℕ) → (p * H * M + L * (z * T)) * (z' * T * M) ≡ (p * (H * M) + L * T * z) * (z' * (T * M))
    product H T M L p z z' = ap₂ (λ (x y : ℕ). x * y) (omega arith) (mul_assoc z' T M)

    sorted : (κ W A C p n z p' n' z' : ℕ) → p * z' + n' * z ≡ p' * z + n * z'
        → (p * κ + A * z) * (z' * W) + (n' * κ + C * z') * (z * W) ≡ (p' * κ + A * z') * (z * W) + (n * κ + C * z) * (z' * W)
    sorted κ W A C p n z p' n' z' h = omega (arith, ap (λ (w : ℕ). w * (κ * W)) h)

    go : (H T M L K p n z p' n' z' : ℕ) → p * z' + n' * z ≡ p' * z + n * z'
        → (p * H * M + L * (z * T)) * (z' * T * M) + (n' * H * M + K * (z' * T)) * (z * T * M) ≡ (p' * H * M + L * (z' * T)) * (z * T * M) + (n * H * M + K * (z * T)) * (z' * T * M)
    go H T M L K p n z p' n' z' h =
        ap₂ (λ (x y : ℕ). x + y) (product H T M L p z z') (product H T M K n' z' z)
        ∙ sorted (H * M) (T * M) (L * T) (K * T) p n z p' n' z' h
        ∙ sym (ap₂ (λ (x y : ℕ). x + y) (product H T M L p' z' z) (product H T M K n z z'))

-- the denominator of the exponent
pub over_pos : (c : Curve) (last x r : ℕ) → 0 < den c * (r * last) → 0 < (exponent c (signal (record { curve = c; last = last }) (ratio x r))).over
over_pos log_c4 last x r h = simp tidy (omega arith)
over_pos (log_c k) last x r h = simp tidy (omega arith)

-- the power for a value, its part above 0
abbrev pub wanted : Scale → Fraction → ℕ
wanted k v = (power_for k.curve v).plus - (power_for k.curve v).minus

-- in the letters of the tests
regroup : (x H M L z T : ℕ) → x * H * M + L * (z * T) ≡ x * (H * M) + z * (T * L)
regroup x H M L z T = omega arith

pub wanted_is : (k : Scale) (v : Fraction) → wanted k v ≡ v.plus * kappa k + v.over * plus_less k - (v.minus * kappa k + v.over * minus_less k)
wanted_is k v =
    ap₂ (λ (x y : ℕ). x - y)
    (regroup v.plus (factor k.curve).over (less k.curve).over (less k.curve).plus v.over (times k))
    (regroup v.minus (factor k.curve).over (less k.curve).over (less k.curve).minus v.over (times k))

module _ {k : Scale} {g : ℕ} {t : List ℕ} {s : Source} (ok : Tested k g t s) where
  times_pos : 0 < times k
  times_pos = part (times k) ok.unit_pos
    where
      part : (T : ℕ) → 0 < 2 ^ 51 * T → 0 < T
      part T h = omega arith

  -- the factors by which the tests' scale differs from the rules'
  pub lift_pos : 0 < b k ^ lift * times k
  lift_pos = mul-pos (one-le-pow lift (b k) ok.base_pos) times_pos

  less_over_pos : 0 < (less k.curve).over
  less_over_pos = right (factor k.curve).over (less k.curve).over ok.kappa_pos
    where
      right : (H M : ℕ) → 0 < H * M → 0 < M
      right H zero h = absurd (omega arith)
      right H (suc M) h = omega arith

  pub power_over_pos : (x : Fraction) → 0 < x.over → 0 < (power_for k.curve x).over
  power_over_pos x h = mul-pos (mul-pos h times_pos) less_over_pos

  module _ (x r : ℕ) (pr : 0 < r) where
    pub lifted_ok : (exponent_at k x r).minus ≤ lift * (exponent_at k x r).over
    lifted_ok =
        times_r (below k.curve) (den k.curve) k.last ok.lifted
      where
        times_r : (m o p : ℕ) → m * (1 * p) ≤ lift * (o * (1 * p)) → m * (r * p) ≤ lift * (o * (r * p))
        times_r m o p h = omega (arith, mul-le-mul_right r h)

    pub exponent_over_pos : 0 < den k.curve * (r * k.last)
    exponent_over_pos = times_r (den k.curve) k.last (mul-pos ok.q_pos pr)
      where
        times_r : (o p : ℕ) → 0 < o * (1 * p) * r → 0 < o * (r * p)
        times_r o p h = omega arith

    -- THE COMPARISON: of the value v at the tests' scale, and of the same value y as the rules write it
    pub by_rules : {R : ℕ → ℕ → Type 0} → Ordered R → (v y : Fraction) → 0 < v.over → 0 < y.over → Versus (λ i j. i ≡ j) v y
        → R ((wanted k v * b k ^ lift) ^ (exponent_at k x r).over) (b k ^ ((exponent_at k x r).plus + (lift * (exponent_at k x r).over - (exponent_at k x r).minus)) * (power_for k.curve v).over ^ (exponent_at k x r).over)
        → VersusPower R (power_for k.curve y) (base k.curve) (exponent k.curve (signal k (ratio x r)))
    by_rules o v y pv py e f =
        same_value o (b k) ok.base_pos (power_for k.curve v) (power_for k.curve y) (exponent_at k x r) (exponent k.curve (signal k (ratio x r)))
        (power_over_pos v pv) (power_over_pos y py) exponent_over_pos (over_pos k.curve k.last x r exponent_over_pos)
        (same_power_for k.curve v y e) (sym (exponent_is k x r))
        (cleared (unlift o (b k) (exponent_at k x r).over (exponent_at k x r).plus (exponent_at k x r).minus lift (wanted k v) (power_for k.curve v).over ok.base_pos lifted_ok f))
