-- The units of a half without its sign rise strictly with its bits; and those of k digits cut off: exponent and digits joined.
-- Assumes nothing.
use mathlib.Core.Path.{◌≡◌, refl, sym, ap, ◌∙◌, subst}
use mathlib.Core.Logic.{◌⊎◌, inl, inr}
use Prim.Native.Nat.{ℕ, zero, suc, ◌+◌, ◌-◌, ◌*◌, ◌/◌, ◌%◌, ◌^◌, ◌≤◌, ◌<◌}
use native.Mathlib.Nat.{le_of_eq, le_of_lt, lt_trans, lt_of_lt_of_le, lt_of_le_of_lt, lt_irrefl, eq-or-lt_of_le, le_of_suc-le-suc, mul-lt-mul_of_pos_right, mul-le-mul, mod-lt, div-add-mod', pow-succ'}
use native.Mathlib.Omega.{arith}
use lib.Arith.{digits_div, digits_mod}
use lib.Dec.{lit<}
use lib.Pow.{pow_pos, pow_mono}
use Rattle.whole.proofs.Apart.{less_or_not, three_ways}
use Rattle.rules.specs.Half.{size_units, half_end, joined}

-- the bits of the greatest finite half, 65,504, and how many finite halves there are of one sign
abbrev pub last : ℕ
last = 0x7BFF

abbrev pub finites : ℕ
finites = suc last

unfoldable pub size : ℕ → ℕ
size p = size_units (p / 2 ^ 10) (p % 2 ^ 10)

size_fields : (e f : ℕ) → f < 1024 → size (e * 1024 + f) ≡ size_units e f
unfolding size
size_fields e f h = ap (λ (n : ℕ). size_units n ((e * 1024 + f) % 1024)) (digits_div e h) ∙ ap (λ (n : ℕ). size_units e n) (digits_mod e h)

-- ---- a digit more, and the carry
next_in : (e f : ℕ) → size_units e f < size_units e (suc f)
next_in zero f = omega arith
next_in (suc e) f = mul-lt-mul_of_pos_right (omega arith) (pow_pos e)

carry : (e : ℕ) → size_units e 1023 < size_units (suc e) 0
carry zero = lit< tt
carry (suc e) = let p : 2 ^ suc e ≡ 2 * 2 ^ e = pow-succ' 2 e in omega (arith, pow_pos e)

size_next : (p : ℕ) → size p < size (suc p)
size_next p =
    let e = p / 1024 in
    let f = p % 1024 in
    let l : f < 1024 = mod-lt p (lit< tt) in
    let s : size p ≡ size_units e f = ap size (sym (div-add-mod' p 1024)) ∙ size_fields e f l in
    subst (λ (n : ℕ). n < size (suc p)) (sym s) (go e f l refl refl (eq-or-lt_of_le (le_of_suc-le-suc l)))
  where
    go : (e f : ℕ) → f < 1024 → p / 1024 ≡ e → p % 1024 ≡ f → (f ≡ 1023) ⊎ (f < 1023) → size_units e f < size (suc p)
    go e f l a b (inl c) =
        let d : suc p ≡ suc e * 1024 + 0 = omega arith in
        subst (λ (n : ℕ). size_units e f < n) (sym (ap size d ∙ size_fields (suc e) 0 (lit< tt))) (subst (λ (n : ℕ). size_units e n < size_units (suc e) 0) (sym c) (carry e))
    go e f l a b (inr c) =
        let d : suc p ≡ e * 1024 + suc f = omega arith in
        subst (λ (n : ℕ). size_units e f < n) (sym (ap size d ∙ size_fields e (suc f) (omega arith))) (next_in e f)

pub size_lt : (p q : ℕ) → p < q → size p < size q
size_lt p zero h = absurd (omega arith)
size_lt p (suc q) h =
    elim (eq-or-lt_of_le (le_of_suc-le-suc h)) [
      | inl e ↦ subst (λ (n : ℕ). size n < size (suc q)) (sym e) (size_next q)
      | inr l ↦ lt_trans (size_lt p q l) (size_next q)
    ]

pub size_le : (p q : ℕ) → p ≤ q → size p ≤ size q
size_le p q h = elim (eq-or-lt_of_le h) [ inl e ↦ le_of_eq (ap size e) | inr l ↦ le_of_lt (size_lt p q l) ]

pub size_only : (p q : ℕ) → size p ≡ size q → p ≡ q
size_only p q e =
    elim (three_ways p q) [
      | inl l ↦ absurd (lt_irrefl (size p) (lt_of_lt_of_le (size_lt p q l) (le_of_eq (sym e))))
      | inr (inl s) ↦ s
      | inr (inr l) ↦ absurd (lt_irrefl (size p) (lt_of_le_of_lt (le_of_eq e) (size_lt q p l)))
    ]

-- ---- k and digits joined: with the digit before the fraction among them, or at k = 0 with none. 2048 is a carry.
pub joined_size : (k q : ℕ) → (k ≡ 0) ⊎ (1024 ≤ q) → q ≤ 2048 → size (joined k q) ≡ q * 2 ^ k
joined_size k q h l = go (less_or_not q 1024) h
  where
    first : (k f : ℕ) → f < 1024 → size (k * 1024 + (1024 + f)) ≡ (1024 + f) * 2 ^ k
    first k f h = ap size (omega arith) ∙ size_fields (suc k) f h

    carried : (k : ℕ) → size (k * 1024 + 2048) ≡ 2048 * 2 ^ k
    carried k = let p : 2 ^ suc k ≡ 2 * 2 ^ k = pow-succ' 2 k in ap size (omega arith) ∙ size_fields (suc (suc k)) 0 (lit< tt) ∙ omega arith

    some : 1024 ≤ q → (q ≡ 2048) ⊎ (q < 2048) → size (joined k q) ≡ q * 2 ^ k
    some g (inl a) = subst (λ (n : ℕ). size (joined k n) ≡ n * 2 ^ k) (sym a) (carried k)
    some g (inr a) = subst (λ (n : ℕ). size (joined k n) ≡ n * 2 ^ k) (omega arith) (first k (q - 1024) (omega arith))

    go : (q < 1024) ⊎ (1024 ≤ q) → (k ≡ 0) ⊎ (1024 ≤ q) → size (joined k q) ≡ q * 2 ^ k
    go (inl a) (inl z) = subst (λ (n : ℕ). size (joined n q) ≡ q * 2 ^ n) (sym z) (ap size (omega arith) ∙ size_fields 0 q a ∙ omega arith)
    go (inl a) (inr b) = absurd (omega arith)
    go (inr a) b = some a (eq-or-lt_of_le l)

-- below 2049 the units are the bits
pub small_size : (m : ℕ) → m ≤ 2048 → size m ≡ m
small_size m h = ap size (omega arith) ∙ joined_size 0 m (inl refl) h ∙ omega arith

pub last_size : size last ≡ half_end
unfolding size
last_size = refl

-- none has as many as 2^41
pub size_below : (e f : ℕ) → e < 32 → f < 1024 → size_units e f < 2 ^ 41
size_below zero f h l = omega arith
size_below (suc e) f h l =
    let p : 2 ^ e ≤ 2 ^ 30 = pow_mono {i = e} {j = 30} (omega arith) in
    lt_of_le_of_lt (mul-le-mul (below_two f l) p) (lit< tt)
  where
    below_two : (f : ℕ) → f < 1024 → 1024 + f ≤ 2047
    below_two f l = omega arith
