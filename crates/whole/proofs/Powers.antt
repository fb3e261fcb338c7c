-- Laws of powers of naturals that the libraries leave out.
-- Assumes nothing.
use mathlib.Core.Path.{◌≡◌, sym, ap, ap₂, ◌∙◌}
use Prim.Native.Nat.{ℕ, zero, suc, ◌*◌, ◌^◌}
use native.Mathlib.Nat.{mul-zero, mul-suc, mul-mul-mul_comm, one-mul, pow-zero, pow-suc}
use lib.Pow.{pow-add}

pub pow_one : (x : ℕ) → x ^ 1 ≡ x
pow_one x = pow-suc x 0 ∙ ap (λ (w : ℕ). w * x) (pow-zero x) ∙ one-mul x

pub mul_pow : (a c k : ℕ) → (a * c) ^ k ≡ a ^ k * c ^ k
mul_pow a c zero = rw (pow-zero (a * c), pow-zero a, pow-zero c)
mul_pow a c (suc k) =
    pow-suc (a * c) k
    ∙ ap (λ (w : ℕ). w * (a * c)) (mul_pow a c k)
    ∙ mul-mul-mul_comm (a ^ k) (c ^ k) a c
    ∙ ap₂ (λ (u w : ℕ). u * w) (sym (pow-suc a k)) (sym (pow-suc c k))

pub pow_mul : (a m n : ℕ) → a ^ (m * n) ≡ (a ^ m) ^ n
pow_mul a m zero = ap (λ (w : ℕ). a ^ w) (mul-zero m) ∙ pow-zero a ∙ sym (pow-zero (a ^ m))
pow_mul a m (suc n) =
    ap (λ (w : ℕ). a ^ w) (mul-suc m n)
    ∙ pow-add a (m * n) m
    ∙ ap (λ (w : ℕ). w * a ^ m) (pow_mul a m n)
    ∙ sym (pow-suc (a ^ m) n)
