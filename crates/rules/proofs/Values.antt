-- A comparison with a power depends on the values of the fractions alone, and not on how they are written.
-- Assumes nothing.
use mathlib.Core.Path.{◌≡◌, sym, ap, ap₂, ◌∙◌, subst₂}
use mathlib.Core.Logic.{◌≢◌}
use Prim.Native.Nat.{ℕ, zero, ◌+◌, ◌-◌, ◌*◌, ◌^◌, ◌≤◌, ◌<◌}
use native.Mathlib.Nat.{le_of_eq, le_antisymm, lt_of_not-le, not-le_of_lt, le_of_suc-le-suc, ne_of_gt, mul_comm, mul-sub, mul-one, mul-pos, pow-zero, one-le-pow, mul-le-mul_right, le_of_mul-le-mul_right, mul-lt-mul_of_pos_right, lt_of_mul-lt-mul_right, pow-le-pow_left, pow-lt-pow_left}
use native.Mathlib.Omega.{arith}
use lib.Dec.{T, leb→le, le→leb, lit<}
use lib.Pow.{pow-add}
use Rattle.whole.proofs.Powers.{pow_one, mul_pow, pow_mul}
use Rattle.rules.specs.Fraction.{Fraction, whole, Versus, VersusPower, cleared, at_most}

-- what a comparison of powers asks of R: a factor above 0, and an exponent above 0, may be put on both sides and taken off
pub record Ordered (R : ℕ → ℕ → Type 0) : Type 0 where
  pub times : {a b : ℕ} (k : ℕ) → 0 < k → R a b → R (a * k) (b * k)
  pub over : {a b : ℕ} (k : ℕ) → 0 < k → R (a * k) (b * k) → R a b
  pub raise : {a b : ℕ} (k : ℕ) → 0 < k → R a b → R (a ^ k) (b ^ k)
  pub root : {a b : ℕ} (k : ℕ) → 0 < k → R (a ^ k) (b ^ k) → R a b

nonzero : {k : ℕ} → 0 < k → k ≢ zero
nonzero h e = ne_of_gt h e

pub at_most_lem : Ordered (λ m n. m ≤ n)
at_most_lem =
    record {
      times = λ k p h. mul-le-mul_right k h;
      over = λ k p h. le_of_mul-le-mul_right h p;
      raise = λ k p h. pow-le-pow_left h k;
      root = λ k p h. le_of_suc-le-suc (lt_of_not-le (λ g. not-le_of_lt (pow-lt-pow_left g (nonzero p)) h));
    }

pub less : Ordered (λ m n. m < n)
less =
    record {
      times = λ k p h. mul-lt-mul_of_pos_right h p;
      over = λ k p h. lt_of_mul-lt-mul_right k h;
      raise = λ k p h. pow-lt-pow_left h (nonzero p);
      root = λ k p h. lt_of_not-le (λ g. not-le_of_lt h (pow-le-pow_left g k));
    }

pub equal : Ordered (λ m n. m ≡ n)
equal =
    record {
      times = λ k p h. ap (λ (x : ℕ). x * k) h;
      over = λ k p h. le_antisymm (at_most_lem.over k p (le_of_eq h)) (at_most_lem.over k p (le_of_eq (sym h)));
      raise = λ k p h. ap (λ (x : ℕ). x ^ k) h;
      root = λ k p h. le_antisymm (at_most_lem.root k p (le_of_eq h)) (at_most_lem.root k p (le_of_eq (sym h)));
    }

-- the other way round
pub flip : {R : ℕ → ℕ → Type 0} → Ordered R → Ordered (λ m n. R n m)
flip o =
    record {
      times = λ k p h. o.times k p h;
      over = λ k p h. o.over k p h;
      raise = λ k p h. o.raise k p h;
      root = λ k p h. o.root k p h;
    }

-- ---- the test of two fractions
pub test_passed : (x y : Fraction) → T (at_most x y) → Versus (λ m n. m ≤ n) x y
test_passed x y h = leb→le (x.plus * y.over + y.minus * x.over) (y.plus * x.over + x.minus * y.over) h

pub pass_test : (x y : Fraction) → Versus (λ m n. m ≤ n) x y → T (at_most x y)
pass_test x y h = le→leb (x.plus * y.over + y.minus * x.over) (y.plus * x.over + x.minus * y.over) h

-- ---- one side of a comparison, raised to the power r, with the factors that make it alike on both
gathered : (a b q m r g y : ℕ) → (a ^ q * b ^ m) ^ r * (b ^ g * y ^ (q * r)) ≡ (a * y) ^ (q * r) * b ^ (m * r + g)
gathered a b q m r g y =
    ap (λ (x : ℕ). x * (b ^ g * y ^ (q * r))) (mul_pow (a ^ q) (b ^ m) r ∙ ap₂ (λ (u w : ℕ). u * w) (sym (pow_mul a q r)) (sym (pow_mul b m r)))
    ∙ sort (a ^ (q * r)) (b ^ (m * r)) (b ^ g) (y ^ (q * r))
    ∙ ap₂ (λ (u w : ℕ). u * w) (sym (mul_pow a y (q * r))) (sym (pow-add b (m * r) g))
  where
    sort : (i j k l : ℕ) → i * j * (k * l) ≡ i * l * (j * k)
    sort i j k l = omega arith

module _ {R : ℕ → ℕ → Type 0} (o : Ordered R) (b : ℕ) (pb : 0 < b) where
  same : (a x a' y pp pm po qp qm qo : ℕ) → 0 < x → 0 < y → 0 < po → 0 < qo → a * y ≡ a' * x → pp * qo + qm * po ≡ qp * po + pm * qo
      → R (a ^ po * b ^ pm) (b ^ pp * x ^ po) → R (a' ^ qo * b ^ qm) (b ^ qp * y ^ qo)
  same a x a' y pp pm po qp qm qo px py hp hq e g h =
      o.root po hp
      (o.over (b ^ (pm * qo) * x ^ (qo * po)) (mul-pos (one-le-pow (pm * qo) b pb) (one-le-pow (qo * po) x px))
      (subst₂ R left right (o.times (b ^ (qm * po) * y ^ (po * qo)) (mul-pos (one-le-pow (qm * po) b pb) (one-le-pow (po * qo) y py)) (o.raise qo hq h))))
    where
      left : (a ^ po * b ^ pm) ^ qo * (b ^ (qm * po) * y ^ (po * qo)) ≡ (a' ^ qo * b ^ qm) ^ po * (b ^ (pm * qo) * x ^ (qo * po))
      left =
          gathered a b po pm qo (qm * po) y
          ∙ ap₂ (λ (u w : ℕ). u * w) (ap₂ (λ (u w : ℕ). u ^ w) e (mul_comm po qo)) (ap (λ (w : ℕ). b ^ w) (omega arith))
          ∙ sym (gathered a' b qo qm po (pm * qo) x)

      right : (b ^ pp * x ^ po) ^ qo * (b ^ (qm * po) * y ^ (po * qo)) ≡ (b ^ qp * y ^ qo) ^ po * (b ^ (pm * qo) * x ^ (qo * po))
      right =
          ap (λ (w : ℕ). w ^ qo * (b ^ (qm * po) * y ^ (po * qo))) (mul_comm (b ^ pp) (x ^ po))
          ∙ gathered x b po pp qo (qm * po) y
          ∙ ap₂ (λ (u w : ℕ). u * w) (ap₂ (λ (u w : ℕ). u ^ w) (mul_comm x y) (mul_comm po qo)) (ap (λ (w : ℕ). b ^ w) g)
          ∙ sym (gathered y b qo qp po (pm * qo) x)
          ∙ ap (λ (w : ℕ). w ^ po * (b ^ (pm * qo) * x ^ (qo * po))) (mul_comm (y ^ qo) (b ^ qp))

  -- THE LAW: the number and the exponent may each be written as another fraction of the same value
  pub same_value : (x y p q : Fraction) → 0 < x.over → 0 < y.over → 0 < p.over → 0 < q.over
      → Versus (λ m n. m ≡ n) x y → Versus (λ m n. m ≡ n) p q → VersusPower R x b p → VersusPower R y b q
  same_value x y p q px py hp hq e g (cleared h) =
      cleared
      (same (x.plus - x.minus) x.over (y.plus - y.minus) y.over p.plus p.minus p.over q.plus q.minus q.over px py hp hq
      (difference x.plus x.minus y.over y.plus y.minus x.over e) g h)
    where
      difference : (i j k l m n : ℕ) → i * k + m * n ≡ l * n + j * k → (i - j) * k ≡ (l - m) * n
      difference i j k l m n e = omega (arith, mul_comm (i - j) k ∙ mul-sub k i j, mul_comm (l - m) n ∙ mul-sub n l m)

  -- an exponent that is a whole number
  pub at_whole : (x p : Fraction) (e : ℕ) → 0 < x.over → 0 < p.over → Versus (λ m n. m ≡ n) p (whole e) → VersusPower R x b p → R (x.plus - x.minus) (b ^ e * x.over)
  at_whole x p e px hp g h = plain (same_value x x p (whole e) px px hp (lit< tt) (omega arith) g h)
    where
      plain : VersusPower R x b (whole e) → R (x.plus - x.minus) (b ^ e * x.over)
      plain (cleared f) =
          subst₂ R (ap₂ (λ (u w : ℕ). u * w) (pow_one (x.plus - x.minus)) (pow-zero b) ∙ mul-one (x.plus - x.minus))
          (ap (λ (w : ℕ). b ^ e * w) (pow_one x.over))
          f

  pub of_whole : (x p : Fraction) (e : ℕ) → 0 < x.over → 0 < p.over → Versus (λ m n. m ≡ n) p (whole e) → R (x.plus - x.minus) (b ^ e * x.over) → VersusPower R x b p
  of_whole x p e px hp g h = same_value x x (whole e) p px px (lit< tt) hp (omega arith) (sym g) (cleared powers)
    where
      powers : R ((x.plus - x.minus) ^ 1 * b ^ 0) (b ^ e * x.over ^ 1)
      powers =
          subst₂ R (sym (ap₂ (λ (u w : ℕ). u * w) (pow_one (x.plus - x.minus)) (pow-zero b) ∙ mul-one (x.plus - x.minus)))
          (sym (ap (λ (w : ℕ). b ^ e * w) (pow_one x.over)))
          h
