-- Fractions below and above b ^ (m / q): products of them, and a power of one computed with rounding.
-- Assumes nothing.
use mathlib.Core.Path.{◌≡◌, sym, ap, ap₂, ◌∙◌}
use mathlib.Core.Logic.{◌≢◌}
use Prim.Native.Nat.{ℕ, zero, ◌+◌, ◌*◌, ◌^◌, ◌≤◌, ◌<◌}
use native.Mathlib.Nat.{lt_of_mul-lt-mul_right, lt_of_le_of_lt, lt_of_lt_of_le, pow-lt-pow_left, pow-le-pow_right, lt_of_not-le, not-le_of_lt, le_of_suc-le-suc, le_trans, le_of_eq, mul_assoc, mul_comm, mul_left_comm, one-mul, mul-le-mul, mul-le-mul_right, le_of_mul-le-mul_right, one-le-pow, pow-zero, pow-le-pow_left}
use lib.Pow.{pow-add}
use Rattle.whole.proofs.Powers.{mul_pow, pow_mul}
use Rattle.power.specs.Power.{Below, below, Above, above}

-- the two sides of a product's comparison, sorted
shuffle : (b q m k s r t : ℕ) → b ^ m * s ^ q * (b ^ k * r ^ q) * t ^ q ≡ b ^ (m + k) * t ^ q * (s * r) ^ q
shuffle b q m k s r t = simp (pow-add, mul_pow, mul_assoc, mul_comm, mul_left_comm)

split₃ : (q x y t : ℕ) → (x * y * t) ^ q ≡ x ^ q * y ^ q * t ^ q
split₃ q x y t = mul_pow (x * y) t q ∙ ap (λ (w : ℕ). w * t ^ q) (mul_pow x y q)

-- x / s and y / r are below two powers: so is z / t below their product, where it is at most the product of the fractions
pub below_mul : {b q m k x s y r : ℕ} (z t : ℕ) → zero < s * r → z * (s * r) ≤ x * y * t → Below b q m x s → Below b q k y r → Below b q (m + k) z t
below_mul {b} {q} {m} {k} {x} {s} {y} {r} z t p h (below f) (below g) =
    below (le_of_mul-le-mul_right {k = (s * r) ^ q}
    (le_trans (le_of_eq (sym (mul_pow z (s * r) q)))
    (le_trans (pow-le-pow_left h q)
    (le_trans (le_of_eq (split₃ q x y t))
    (le_trans (mul-le-mul_right (t ^ q) (mul-le-mul f g)) (le_of_eq (shuffle b q m k s r t))))))
    (one-le-pow q (s * r) p))

pub above_mul : {b q m k x s y r : ℕ} (z t : ℕ) → zero < s * r → x * y * t ≤ z * (s * r) → Above b q m x s → Above b q k y r → Above b q (m + k) z t
above_mul {b} {q} {m} {k} {x} {s} {y} {r} z t p h (above f) (above g) =
    above (le_of_mul-le-mul_right {k = (s * r) ^ q}
    (le_trans (le_of_eq (sym (shuffle b q m k s r t)))
    (le_trans (mul-le-mul_right (t ^ q) (mul-le-mul f g))
    (le_trans (le_of_eq (sym (split₃ q x y t)))
    (le_trans (pow-le-pow_left h q) (le_of_eq (mul_pow z (s * r) q))))))
    (one-le-pow q (s * r) p))

-- the same fraction or a smaller one, a larger one
pub below_le : {b q m x s : ℕ} (z t : ℕ) → zero < s → z * s ≤ x * t → Below b q m x s → Below b q m z t
below_le {b} {q} {m} {x} {s} z t p h (below f) =
    below (le_of_mul-le-mul_right {k = s ^ q}
    (le_trans (le_of_eq (sym (mul_pow z s q)))
    (le_trans (pow-le-pow_left h q)
    (le_trans (le_of_eq (mul_pow x t q))
    (le_trans (mul-le-mul_right (t ^ q) f) (le_of_eq (simp (mul_assoc, mul_comm, mul_left_comm)))))))
    (one-le-pow q s p))

pub above_le : {b q m x s : ℕ} (z t : ℕ) → zero < s → x * t ≤ z * s → Above b q m x s → Above b q m z t
above_le {b} {q} {m} {x} {s} z t p h (above f) =
    above (le_of_mul-le-mul_right {k = s ^ q}
    (le_trans (le_of_eq (simp (mul_assoc, mul_comm, mul_left_comm)))
    (le_trans (mul-le-mul_right (t ^ q) f)
    (le_trans (le_of_eq (sym (mul_pow x t q)))
    (le_trans (pow-le-pow_left h q) (le_of_eq (mul_pow z s q))))))
    (one-le-pow q s p))

-- strictly: a smaller fraction, a larger one
pub below_lt : {b q m x s : ℕ} (z t : ℕ) → q ≢ zero → z * s < x * t → Below b q m x s → z ^ q < b ^ m * t ^ q
below_lt {b} {q} {m} {x} {s} z t n h (below f) =
    lt_of_mul-lt-mul_right (s ^ q)
    (lt_of_le_of_lt (le_of_eq (sym (mul_pow z s q)))
    (lt_of_lt_of_le (pow-lt-pow_left h n)
    (le_trans (le_of_eq (mul_pow x t q))
    (le_trans (mul-le-mul_right (t ^ q) f) (le_of_eq (simp (mul_assoc, mul_comm, mul_left_comm)))))))

pub above_lt : {b q m x s : ℕ} (z t : ℕ) → q ≢ zero → x * t < z * s → Above b q m x s → b ^ m * t ^ q < z ^ q
above_lt {b} {q} {m} {x} {s} z t n h (above f) =
    lt_of_mul-lt-mul_right (s ^ q)
    (lt_of_le_of_lt (le_of_eq (simp (mul_assoc, mul_comm, mul_left_comm)))
    (lt_of_le_of_lt (mul-le-mul_right (t ^ q) f)
    (lt_of_le_of_lt (le_of_eq (sym (mul_pow x t q)))
    (lt_of_lt_of_le (pow-lt-pow_left h n) (le_of_eq (mul_pow z s q))))))

-- 1 is b ^ (0 / q)
pub below_one : (b q s : ℕ) → Below b q 0 s s
below_one b q s = below (le_of_eq (sym (ap (λ (w : ℕ). w * s ^ q) (pow-zero b) ∙ one-mul (s ^ q))))

pub above_one : (b q s : ℕ) → Above b q 0 s s
above_one b q s = above (le_of_eq (ap (λ (w : ℕ). w * s ^ q) (pow-zero b) ∙ one-mul (s ^ q)))

-- a fraction below b ^ (m / q) is at most b ^ e, where m / q is at most e
pub below_bound : {b q m x s : ℕ} (e : ℕ) → zero < b → q ≢ zero → m ≤ e * q → Below b q m x s → x ≤ b ^ e * s
below_bound {b} {q} {m} {x} {s} e p n h (below f) =
    le_of_suc-le-suc (lt_of_not-le (λ g. not-le_of_lt (pow-lt-pow_left g n) (le_trans f (le_trans (mul-le-mul_right (s ^ q) (pow-le-pow_right p h)) (le_of_eq (sym (mul_pow (b ^ e) s q ∙ ap (λ (w : ℕ). w * s ^ q) (sym (pow_mul b e q)))))))))

-- two fractions on two sides of one power
pub cross : {b q m x s y t : ℕ} → q ≢ zero → Below b q m x s → Above b q m y t → x * t ≤ y * s
cross {b} {q} {m} {x} {s} {y} {t} n (below f) (above g) =
    le_of_suc-le-suc (lt_of_not-le (λ h. not-le_of_lt (pow-lt-pow_left h n) all))
  where
    all : (x * t) ^ q ≤ (y * s) ^ q
    all =
        le_trans (le_of_eq (mul_pow x t q))
        (le_trans (mul-le-mul_right (t ^ q) f)
        (le_trans (le_of_eq (simp (mul_assoc, mul_comm, mul_left_comm)))
        (le_trans (mul-le-mul_right (s ^ q) g) (le_of_eq (sym (mul_pow y s q))))))

-- a larger exponent, a smaller one
pub below_up : {b q m x s : ℕ} (k : ℕ) → zero < b → m ≤ k → Below b q m x s → Below b q k x s
below_up {q = q} {s = s} k p h (below f) = below (le_trans f (mul-le-mul_right (s ^ q) (pow-le-pow_right p h)))

pub above_down : {b q m x s : ℕ} (k : ℕ) → zero < b → k ≤ m → Above b q m x s → Above b q k x s
above_down {q = q} {s = s} k p h (above f) = above (le_trans (mul-le-mul_right (s ^ q) (pow-le-pow_right p h)) f)

-- the same exponent over a larger denominator
raised : (b q m s r : ℕ) → (b ^ m * s ^ q) ^ r ≡ b ^ (m * r) * s ^ (q * r)
raised b q m s r = mul_pow (b ^ m) (s ^ q) r ∙ ap₂ (λ (u w : ℕ). u * w) (sym (pow_mul b m r)) (sym (pow_mul s q r))

pub below_raise : {b q m x s : ℕ} (r : ℕ) → Below b q m x s → Below b (q * r) (m * r) x s
below_raise {b} {q} {m} {x} {s} r (below f) =
    below (le_trans (le_of_eq (pow_mul x q r)) (le_trans (pow-le-pow_left f r) (le_of_eq (raised b q m s r))))

pub above_raise : {b q m x s : ℕ} (r : ℕ) → Above b q m x s → Above b (q * r) (m * r) x s
above_raise {b} {q} {m} {x} {s} r (above f) =
    above (le_trans (le_of_eq (sym (raised b q m s r))) (le_trans (pow-le-pow_left f r) (le_of_eq (sym (pow_mul x q r)))))

-- a root: y / s, whose r-th power is at most x / s, and at least
rooted : (y s q r : ℕ) → (y ^ r * s) ^ q ≡ y ^ (q * r) * s ^ q
rooted y s q r = mul_pow (y ^ r) s q ∙ ap (λ (w : ℕ). w * s ^ q) (sym (pow_mul y r q) ∙ ap (λ (w : ℕ). y ^ w) (mul_comm r q))

spread : (x s q r : ℕ) → (x * s ^ r) ^ q ≡ x ^ q * s ^ (q * r)
spread x s q r = ap (λ (w : ℕ). w ^ q) (mul_comm x (s ^ r)) ∙ mul_pow (s ^ r) x q ∙ mul_comm ((s ^ r) ^ q) (x ^ q) ∙ ap (λ (w : ℕ). x ^ q * w) (sym (pow_mul s r q) ∙ ap (λ (w : ℕ). s ^ w) (mul_comm r q))

pub below_root : {b q m x s : ℕ} (r y : ℕ) → zero < s → y ^ r * s ≤ x * s ^ r → Below b q m x s → Below b (q * r) m y s
below_root {b} {q} {m} {x} {s} r y p h (below f) =
    below (le_of_mul-le-mul_right {k = s ^ q}
    (le_trans (le_of_eq (sym (rooted y s q r)))
    (le_trans (pow-le-pow_left h q)
    (le_trans (le_of_eq (spread x s q r))
    (le_trans (mul-le-mul_right (s ^ (q * r)) f) (le_of_eq (simp (mul_assoc, mul_comm, mul_left_comm)))))))
    (one-le-pow q s p))

pub above_root : {b q m x s : ℕ} (r y : ℕ) → zero < s → x * s ^ r ≤ y ^ r * s → Above b q m x s → Above b (q * r) m y s
above_root {b} {q} {m} {x} {s} r y p h (above f) =
    above (le_of_mul-le-mul_right {k = s ^ q}
    (le_trans (le_of_eq (simp (mul_assoc, mul_comm, mul_left_comm)))
    (le_trans (mul-le-mul_right (s ^ (q * r)) f)
    (le_trans (le_of_eq (sym (spread x s q r)))
    (le_trans (pow-le-pow_left h q) (le_of_eq (rooted y s q r))))))
    (one-le-pow q s p))
