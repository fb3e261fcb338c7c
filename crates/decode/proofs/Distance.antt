-- How far apart two decoded numbers of one step may be; and so what is true of any numbers that the rules allow for the codes of a setting.
-- Assumes nothing.
use Rattle.std.specs.Prelude.{Ok}
use mathlib.Core.Path.{◌≡◌, refl, sym, ap, ◌∙◌, subst, subst₂}
use mathlib.Core.Bool.{Bool, true, false}
use mathlib.Core.List.{List}
use Prim.Native.Nat.{ℕ, suc, ◌+◌, ◌-◌, ◌*◌, ◌^◌, ◌≤◌, ◌<◌}
use native.Mathlib.Nat.{le_of_lt, le_of_suc-le-suc, lt_of_le_of_lt, lt-div-mul-add, mul-pos, mul-le-mul_right, mul-lt-mul_of_pos_right, lt_of_mul-lt-mul_right, one-le-pow}
use native.Mathlib.Omega.{arith}
use lib.Dec.{T, lit<}
use lib.IntN.{ℤ, nat_abs}
use lib.Signed.{◌<ℤ◌}
use Rattle.whole.specs.Parts.{up, dn}
use Rattle.whole.proofs.Powers.{mul_pow}
use Rattle.whole.proofs.Reflect.{at, abs_is, one_zero, lt_z-of, sub_dif}
use Rattle.whole.proofs.Near.{Near}
use Rattle.rules.specs.declared.Setting.{Setting}
use Rattle.rules.specs.Setting.{step_of, code_check, Valid}
use Rattle.rules.specs.Fraction.{Fraction, ratio, whole, integer, ◌+ℚ◌, ◌-ℚ◌, ◌*ℚ◌, VersusPower, cleared, Less, Greater}
use Rattle.rules.specs.Curve.{Curve, base, exponent, in_toe}
use Rattle.rules.specs.Exact.{Scale, signal, power_for, VersusPart}
use Rattle.rules.specs.Decoding.{unit, tolerance, DecodesPart, DecodesWithin, DecodesCode}
use Rattle.rules.proofs.Values.{less}
use Rattle.rules.proofs.Codes.{code_passed, step_rises}
use Rattle.rules.proofs.Bounds.{apart_by, allowed_apart}
use Rattle.decode.specs.Decoded.{offset, raw, decoded}
use Rattle.decode.proofs.Tests.{Source, Tested, kappa, plus_less, minus_less}
use Rattle.decode.proofs.Compare.{wanted_is, over_pos, power_over_pos, exponent_over_pos}
use Rattle.decode.proofs.Settings.{passed}
use Rattle.decode.proofs.Theorems.{decoding, raw_apart, gap_large}
use Rattle.decode.proofs.Limit.{raw_limited}

-- ---- a fraction below a power is below a fraction above it
between : (c o A B C D m p : ℕ) → 0 < c → 0 < o → 0 < B → A ^ o * c ^ m < c ^ p * B ^ o → c ^ p * D ^ o < C ^ o * c ^ m → A * D < C * B
between c o A B C D m p pc po pB h g =
    less.root o po
    (less.over (c ^ m) (one-le-pow m c pc)
    (lt_of_le_of_lt
    (subst₂ (λ (x y : ℕ). x ≤ y) (left (A ^ o) (c ^ m) (D ^ o) ∙ ap (λ (w : ℕ). w * c ^ m) (sym (mul_pow A D o))) refl (mul-le-mul_right (D ^ o) (le_of_lt h)))
    (subst₂ (λ (x y : ℕ). x < y) (left (c ^ p) (D ^ o) (B ^ o)) (left (C ^ o) (c ^ m) (B ^ o) ∙ ap (λ (w : ℕ). w * c ^ m) (sym (mul_pow C B o)))
    (mul-lt-mul_of_pos_right {k = B ^ o} g (one-le-pow o B pB)))))
  where
    left : (x y z : ℕ) → x * y * z ≡ x * z * y
    left x y z = omega arith

versus : (x y : Fraction) (c : ℕ) (e : Fraction) → 0 < c → 0 < e.over → 0 < x.over → VersusPower Less x c e → VersusPower Greater y c e → (x.plus - x.minus) * y.over < (y.plus - y.minus) * x.over
versus x y c e pc pe px (cleared h) (cleared g) = between c e.over (x.plus - x.minus) x.over (y.plus - y.minus) y.over e.minus e.plus pc pe px h g

-- ---- of the powers that two values of one denominator want
cut : (κ p m p' m' a c : ℕ) → p * κ + a - (m * κ + c) < p' * κ + a - (m' * κ + c) → p + m' < p' + m
cut κ p m p' m' a c h = lt_of_mul-lt-mul_right κ (omega arith)

-- two numbers, of which one less N / D is below the other with N / D
apart : (N D b : ℕ) → 2 * N ≤ suc b * D → (u d u' d' : ℕ)
    → (u * D + 0 * 1) * 1 + (d * D + N * 1) * 0 + ((u' * D + N * 1) * 0 + (d' * D + 0 * 1) * 1) < (u' * D + N * 1) * 1 + (d' * D + 0 * 1) * 0 + ((u * D + 0 * 1) * 0 + (d * D + N * 1) * 1)
    → u + d' ≤ u' + d + b
apart N D b small u d u' d' h = le_of_suc-le-suc (lt_of_mul-lt-mul_right D (omega arith))

-- twice N / D is at most one more than that
twice : (N D : ℕ) → 0 < D → 2 * N ≤ suc (apart_by N D) * D
twice N D pD = omega (arith, lt-div-mul-add {a = 2 * N - 1} {b = D} pD)

true_false : {A : Type 0} → true ≡ false → A
true_false e = absurd (subst T e tt)

power_of : (R : ℕ → ℕ → Type 0) (c : Curve) (t x : Fraction) (i : Bool) → i ≡ false → VersusPart R c t x i → VersusPower R (power_for c x) (base c) (exponent c t)
power_of R c t x true e v = true_false e
power_of R c t x false e (VersusPart.power v) = v

-- ---- numbers less than N / D from the exact value
module _ (N D : ℕ) (pD : 0 < D) {k : Scale} {g : ℕ} {t : List ℕ} {s : Source} (ok : Tested k g t s) (n : ℕ) where
  abbrev c : Curve
  c = k.curve

  abbrev lo : ℤ → Fraction
  lo y = (integer y -ℚ ratio N D) *ℚ unit

  abbrev hi : ℤ → Fraction
  hi y = (integer y +ℚ ratio N D) *ℚ unit

  -- how far apart they are at most
  abbrev b : ℕ
  b = apart_by N D

  no_more : (y y' : ℤ) → VersusPower Less (power_for c (lo y)) (base c) (exponent c (signal k (whole n)))
      → VersusPower Greater (power_for c (hi y')) (base c) (exponent c (signal k (whole n))) → up y + dn y' ≤ up y' + dn y + b
  no_more y y' l g =
      apart N D b (twice N D pD) (up y) (dn y) (up y') (dn y')
      (cut (kappa k) (lo y).plus (lo y).minus (hi y').plus (hi y').minus ((lo y).over * plus_less k) ((lo y).over * minus_less k)
      (subst₂ (λ (v w : ℕ). v < w) (wanted_is k (lo y)) (wanted_is k (hi y'))
      (lt_of_mul-lt-mul_right (power_for c (lo y)).over
      (versus (power_for c (lo y)) (power_for c (hi y')) (base c) (exponent c (signal k (whole n))) ok.base_pos (over_pos c k.last n 1 (exponent_over_pos ok n 1 (lit< tt)))
      (power_over_pos ok (lo y) (mul-pos (mul-pos (lit< tt) pD) (lit< tt)))
      l
      g))))

  -- in the toe they are equal
  in_part : (y y' : ℤ) (i : Bool) → in_toe c (signal k (whole n)) ≡ i → DecodesPart (ratio N D) k n y i → DecodesPart (ratio N D) k n y' i → Near y y' b
  in_part y y' true e (DecodesPart.toe p) (DecodesPart.toe q) = rw (p ∙ sym q) (record { high = omega arith; low = omega arith })
  in_part y y' false e (DecodesPart.power l g) (DecodesPart.power l' g') =
      let part = in_toe c (signal k (whole n)) in
      record {
        high = no_more y y' (power_of Less c (signal k (whole n)) (lo y) part e l) (power_of Greater c (signal k (whole n)) (hi y') part e g');
        low = no_more y' y (power_of Less c (signal k (whole n)) (lo y') part e l') (power_of Greater c (signal k (whole n)) (hi y) part e g);
      }

  -- THE DISTANCE of two decoded numbers of a step
  pub numbers_near : (y y' : ℤ) → DecodesWithin (ratio N D) k n y → DecodesWithin (ratio N D) k n y' → Near y y' b
  numbers_near y y' = in_part y y' (in_toe c (signal k (whole n))) refl

-- ---- of a valid setting, for any numbers that the rules allow
module _ (s : Setting) (v : Valid s) where
  -- how far they are at most from the number that is computed
  pub decodes_near : (n : ℕ) → code_check s n ≡ Ok tt → (y : ℤ) → DecodesCode s n y → Near y (decoded s n) allowed_apart
  decodes_near n e y p = numbers_near tolerance.plus tolerance.over (lit< tt) (passed s v) (step_of s n) y (decoded s n) p (decoding s v n e)

  -- they rise strictly with the code
  pub decodes_rises : (m n : ℕ) → code_check s m ≡ Ok tt → code_check s n ≡ Ok tt → m < n → (x y : ℤ) → DecodesCode s m x → DecodesCode s n y → x <ℤ y
  decodes_rises m n e f h x y p q =
      lt_z-of (at x) (at y)
      (omega (arith, (decodes_near m e x p).high, (decodes_near n f y q).low, sub_dif (raw s (step_of s m)) offset, sub_dif (raw s (step_of s n)) offset, gap_large s v, raw_apart s v (step_of s m) (step_of s n) (step_rises s m n e f h) (code_passed s n f)))

  -- and they are at most 2 ^ 33, without their sign
  pub decodes_small : (n : ℕ) → code_check s n ≡ Ok tt → (y : ℤ) → DecodesCode s n y → nat_abs y ≤ 2 ^ 33
  decodes_small n e y p =
      let near = decodes_near n e y p in
      omega (arith, abs_is y, one_zero y, near.high, near.low, sub_dif (raw s (step_of s n)) offset, raw_limited s v (step_of s n) (code_passed s n e))

  -- the number that is computed among them
  pub decoded_small : (n : ℕ) → code_check s n ≡ Ok tt → nat_abs (decoded s n) ≤ 2 ^ 33
  decoded_small n e = decodes_small n e (decoded s n) (decoding s v n e)
