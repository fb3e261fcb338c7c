-- ℤ through ℕ. An integer z is `up z - dn z`, two naturals of which one is 0, and an expression over integers is the difference of
-- two expressions over naturals, `hi e - lo e`, in which each integer that stands in it has its `up` and its `dn`. So an equation or
-- an order of integers is one of naturals, which `omega arith` proves: products are multiplied out.
-- Assumes nothing.
use mathlib.Core.Path.{◌≡◌, refl, ap}
use mathlib.Core.Bool.{Bool, true, false, not, cond}
use Prim.Native.Nat.{ℕ, zero, suc, ◌+◌, ◌*◌, ◌-◌, ◌<◌, ◌≤◌, min}
use native.Mathlib.Omega.{arith}
use lib.Dec.{T, ltb, ltb→lt, nltb→le, leb→le, le→leb, lt→ltb}
use lib.IntN.{ℤ, pos, negsuc, nat_abs, neg_ℤ, sub_ℕ, ◌+ℤ◌, ◌-ℤ◌, ◌*ℤ◌}
use lib.Signed.{le_z, lt_z, ◌≤ℤ◌, ◌<ℤ◌}
use Rattle.whole.specs.Parts.{up, dn}

-- their sum is the number without its sign
pub abs_is : (z : ℤ) → nat_abs z ≡ up z + dn z
abs_is (pos n) = omega arith
abs_is (negsuc n) = omega arith

-- one of the two is 0
pub one_zero : (z : ℤ) → min (up z) (dn z) ≡ 0
one_zero (pos n) = omega arith
one_zero (negsuc n) = omega arith

-- two integers with the same difference are the same
pub same : (a b : ℤ) → up a + dn b ≡ up b + dn a → a ≡ b
same (pos m) (pos n) e = ap pos (omega arith)
same (pos m) (negsuc n) e = absurd (omega arith)
same (negsuc m) (pos n) e = absurd (omega arith)
same (negsuc m) (negsuc n) e = ap negsuc (omega arith)

cond_ind : (c : Bool) (x y : ℤ) (Q : ℤ → Type 0) → (T c → Q x) → (T (not c) → Q y) → Q (cond c x y)
cond_ind true x y Q f g = f tt
cond_ind false x y Q f g = g tt

pub sub_dif : (a b : ℕ) → up (sub_ℕ a b) + b ≡ a + dn (sub_ℕ a b)
sub_dif a b =
    cond_ind (ltb a b) (negsuc (b - suc a)) (pos (a - b)) (λ z. up z + b ≡ a + dn z) (λ t. below (ltb→lt a b t)) (λ t. above (nltb→le a b t))
  where
    below : a < b → 0 + b ≡ a + suc (b - suc a)
    below h = omega arith

    above : b ≤ a → (a - b) + b ≡ a + 0
    above h = omega arith

neg_up : (a : ℤ) → up (neg_ℤ a) ≡ dn a
neg_up (pos zero) = refl
neg_up (pos (suc n)) = refl
neg_up (negsuc n) = refl

neg_dn : (a : ℤ) → dn (neg_ℤ a) ≡ up a
neg_dn (pos zero) = refl
neg_dn (pos (suc n)) = refl
neg_dn (negsuc n) = refl

add_dif : (a b : ℤ) → up (a +ℤ b) + (dn a + dn b) ≡ (up a + up b) + dn (a +ℤ b)
add_dif (pos a) (pos b) = omega arith
add_dif (pos a) (negsuc b) = omega (arith, sub_dif a (suc b))
add_dif (negsuc a) (pos b) = omega (arith, sub_dif b (suc a))
add_dif (negsuc a) (negsuc b) = omega arith

mul_dif : (a b : ℤ) → up (a *ℤ b) + (up a * dn b + dn a * up b) ≡ (up a * up b + dn a * dn b) + dn (a *ℤ b)
mul_dif (pos a) (pos b) = omega arith
mul_dif (pos a) (negsuc b) = omega (arith, neg_up (pos (a * suc b)), neg_dn (pos (a * suc b)))
mul_dif (negsuc a) (pos b) = omega (arith, neg_up (pos (suc a * b)), neg_dn (pos (suc a * b)))
mul_dif (negsuc a) (negsuc b) = omega arith

-- ---- expressions
pub data Ex : Type 0 where
  at : ℤ → Ex
  add : Ex → Ex → Ex
  sub : Ex → Ex → Ex
  mul : Ex → Ex → Ex

abbrev pub val : Ex → ℤ
val (at z) = z
val (add a b) = val a +ℤ val b
val (sub a b) = val a -ℤ val b
val (mul a b) = val a *ℤ val b

abbrev mutual
  pub hi : Ex → ℕ
  hi (at z) = up z
  hi (add a b) = hi a + hi b
  hi (sub a b) = hi a + lo b
  hi (mul a b) = hi a * hi b + lo a * lo b

  pub lo : Ex → ℕ
  lo (at z) = dn z
  lo (add a b) = lo a + lo b
  lo (sub a b) = lo a + hi b
  lo (mul a b) = hi a * lo b + lo a * hi b

-- the difference is the value
mul_step : (x y p q r s : ℕ) (u v a b : ℕ) → x + q ≡ p + y → u + s ≡ r + v → a + (x * v + y * u) ≡ (x * u + y * v) + b → a + (p * s + q * r) ≡ (p * r + q * s) + b
mul_step x y p q r s u v a b h k e =
    omega (arith, ap (λ (n : ℕ). n * u) h, ap (λ (n : ℕ). n * v) h, ap (λ (n : ℕ). n * p) k, ap (λ (n : ℕ). n * q) k)

pub dif : (e : Ex) → up (val e) + lo e ≡ hi e + dn (val e)
dif (at z) = omega arith
dif (add a b) = omega (arith, add_dif (val a) (val b), dif a, dif b)
dif (sub a b) = omega (arith, add_dif (val a) (neg_ℤ (val b)), neg_up (val b), neg_dn (val b), dif a, dif b)
dif (mul a b) = mul_step _ _ _ _ _ _ _ _ _ _ (dif a) (dif b) (mul_dif (val a) (val b))

-- ---- an equation and an order of integers, from and to naturals
pub eq_z : (e f : Ex) → hi e + lo f ≡ hi f + lo e → val e ≡ val f
eq_z e f h = same (val e) (val f) (omega (arith, dif e, dif f))

pub eq_n : (e f : Ex) → val e ≡ val f → hi e + lo f ≡ hi f + lo e
eq_n e f h = omega (arith, dif e, dif f, ap up h, ap dn h)

le_up : (a b : ℤ) → up a + dn b ≤ up b + dn a → T (le_z a b)
le_up (pos m) (pos n) h = le→leb m n (omega arith)
le_up (pos m) (negsuc n) h = absurd (omega arith)
le_up (negsuc m) (pos n) h = tt
le_up (negsuc m) (negsuc n) h = le→leb n m (omega arith)

up_le : (a b : ℤ) → T (le_z a b) → up a + dn b ≤ up b + dn a
up_le (pos m) (pos n) t = omega (arith, leb→le m n t)
up_le (pos m) (negsuc n) t = absurd t
up_le (negsuc m) (pos n) t = omega arith
up_le (negsuc m) (negsuc n) t = omega (arith, leb→le n m t)

lt_up : (a b : ℤ) → up a + dn b < up b + dn a → T (lt_z a b)
lt_up (pos m) (pos n) h = lt→ltb m n (omega arith)
lt_up (pos m) (negsuc n) h = absurd (omega arith)
lt_up (negsuc m) (pos n) h = tt
lt_up (negsuc m) (negsuc n) h = lt→ltb n m (omega arith)

up_lt : (a b : ℤ) → T (lt_z a b) → up a + dn b < up b + dn a
up_lt (pos m) (pos n) t = omega (arith, ltb→lt m n t)
up_lt (pos m) (negsuc n) t = absurd t
up_lt (negsuc m) (pos n) t = omega arith
up_lt (negsuc m) (negsuc n) t = omega (arith, ltb→lt n m t)

pub le_z-of : (e f : Ex) → hi e + lo f ≤ hi f + lo e → val e ≤ℤ val f
le_z-of e f h = record { le = le_up (val e) (val f) (omega (arith, dif e, dif f)) }

pub le_n-of : (e f : Ex) → val e ≤ℤ val f → hi e + lo f ≤ hi f + lo e
le_n-of e f h = omega (arith, dif e, dif f, up_le (val e) (val f) h.le)

pub lt_z-of : (e f : Ex) → hi e + lo f < hi f + lo e → val e <ℤ val f
lt_z-of e f h = record { lt = lt_up (val e) (val f) (omega (arith, dif e, dif f)) }

pub lt_n-of : (e f : Ex) → val e <ℤ val f → hi e + lo f < hi f + lo e
lt_n-of e f h = omega (arith, dif e, dif f, up_lt (val e) (val f) h.lt)
