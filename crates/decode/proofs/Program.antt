-- What the functions ask: sizes, and that the numbers they compute are those of the definitions.
-- Assumes nothing.
use mathlib.Core.Path.{◌≡◌, sym, ap, ap₂, ◌∙◌, subst}
use mathlib.Core.Bool.{Bool, true, false}
use mathlib.Core.List.{List, [], ◌∷◌}
use Prim.Native.Nat.{ℕ, ◌+◌, ◌-◌, ◌*◌, ◌/◌, ◌^◌, ◌<◌}
use native.Mathlib.Nat.{lt_trans, lt_of_le_of_lt, div-le_self}
use native.Mathlib.Omega.{arith}
use lib.Dec.{T, leb, ltb, ltb→lt, leb→le, lit<}
use lib.IntN.{ℤ, pos, sub_ℕ, ◌-ℤ◌}
use mir.Syntax.{w64}
use mir.Val.{SFits, to_z}
use mir.Facts.{to_z_pos}
use Rattle.whole.proofs.Reflect.{at, sub}
use Rattle.whole.proofs.Tidy.{tidy}
use Rattle.whole.proofs.Words.{fits_z, read_back, read_back_lem}
use Rattle.rules.specs.Choice.{choose}
use Rattle.rules.specs.Fraction.{Fraction}
use Rattle.rules.specs.Curve.{Curve, Constants, log_c, log_c4}
use Rattle.rules.specs.Setting.{codes_of, last_of, curve_of, Valid}
use Rattle.rules.specs.Exact.{Scale, scale_of}
use Rattle.rules.proofs.Codes.{last_small}
use Rattle.rules.proofs.Settings.{for_settings, for_valid}
use Rattle.whole.specs.Parts.{up, dn}
use Rattle.whole.proofs.Tests.{every, nth, passes}
use Rattle.curves.specs.declared.log_c4.LogC4.{LogC4}
use Rattle.curves.specs.LogC4.{IsLogC4}
use Rattle.decode.specs.Constants.{Small}
use Rattle.rules.specs.declared.Setting.{Setting}
use Rattle.decode.specs.declared.decoder.Decoder.{Decoder}
use Rattle.decode.specs.Decoded.{offset, product, toe_raw, power_raw, raw_by, Fits, decoder_of, first_of, less_units, bias_of, toe_of, over_of}
use Rattle.decode.proofs.Quotient.{scaled_quotient}

-- ---- the numbers of the decoder of a curve with a toe
module _ (k : Constants) (p : 0 < k.a) where
  over_is : (less_units (log_c k)).over ≡ 1000000 * k.a
  over_is = simp tidy (omega arith)

  less_above : (less_units (log_c k)).plus / (less_units (log_c k)).over ≡ 2 ^ 51 * up k.b / k.a
  less_above = ap₂ (λ (x y : ℕ). x / y) part over_is ∙ scaled_quotient 1000000 (2 ^ 51 * up k.b) k.a (lit< tt) p
    where
      part : (less_units (log_c k)).plus ≡ 1000000 * (2 ^ 51 * up k.b)
      part = simp tidy (omega arith)

  less_below : (less_units (log_c k)).minus / (less_units (log_c k)).over ≡ 2 ^ 51 * dn k.b / k.a
  less_below = ap₂ (λ (x y : ℕ). x / y) part over_is ∙ scaled_quotient 1000000 (2 ^ 51 * dn k.b) k.a (lit< tt) p
    where
      part : (less_units (log_c k)).minus ≡ 1000000 * (2 ^ 51 * dn k.b)
      part = simp tidy (omega arith)

  bias_is : 2097153 * 2 ^ 26 + 2 ^ 51 * dn k.b / k.a - 2 ^ 51 * up k.b / k.a ≡ bias_of (log_c k)
  bias_is = ap₂ (λ (x y : ℕ). 2097153 * 2 ^ 26 + x - y) (sym less_below) (sym less_above)

pub decoder_is : (k : Constants) → 0 < k.a → (last first bias toe over : ℕ) → first ≡ first_of (log_c k) last
    → bias ≡ 2097153 * 2 ^ 26 + 2 ^ 51 * dn k.b / k.a - 2 ^ 51 * up k.b / k.a → toe ≡ toe_of (log_c k) last → over ≡ over_of (log_c k) last
    → ◌≡◌ {A = Decoder} (record { first = first; bias = bias; toe = toe; over = over }) (decoder_of (record { curve = log_c k; last = last }))
decoder_is k p last first bias toe over f b t o = cc (bias_is k p)

-- ---- the numbers of curve 4's decoder
pub numbers_are : (k : LogC4) → IsLogC4 k → (k.less ≡ 64) × (k.times ≡ 783) × (k.over ≡ 1747520)
numbers_are k i =
    (ap (λ (x : Fraction). x.plus) (sym i.less_is), ap (λ (x : Fraction). x.plus) (sym i.factor_is), ap (λ (x : Fraction). x.over) (sym i.factor_is))

pub decoder_is_4 : (less times over bias : ℕ) → less ≡ 64 → times ≡ 783 → over ≡ 1747520 → bias ≡ 2097153 * 2 ^ 26 + 2 ^ 51 * 0 / over - 2 ^ 51 * (less * times) / over
    → ◌≡◌ {A = Decoder} (record { first = 0; bias = bias; toe = 0; over = 0 }) (decoder_of (record { curve = log_c4; last = 0 }))
decoder_is_4 less times over bias l t o e = rw (e, l, t, o)

-- ---- the scale of a setting
pub scale_is : (s : Setting) (k : Constants) (last : ℕ) → curve_of s ≡ log_c k → last ≡ last_of s → ◌≡◌ {A = Scale} (record { curve = log_c k; last = last }) (scale_of s)
scale_is s k last e f = cc

-- ---- the constants of a valid setting are small
small_tests : Constants → (last : ℕ) → List Bool
small_tests k last =
    ltb k.cut (2 ^ 14)
    ∷ ltb 0 k.a
    ∷ ltb k.a (2 ^ 29)
    ∷ ltb (up k.b) (2 ^ 21)
    ∷ ltb (dn k.b) (2 ^ 21)
    ∷ leb (16 * up k.b) k.a
    ∷ leb (16 * dn k.b) k.a
    ∷ ltb k.e (2 ^ 29)
    ∷ ltb (k.e * last) (2 ^ 41)
    ∷ ltb (up k.f) (2 ^ 20)
    ∷ ltb (dn k.f) (2 ^ 20)
    ∷ leb (1000000 * dn k.f) (k.e * k.cut + 1000000 * up k.f)
    ∷ leb (2 ^ 25 * (up k.f * last)) (k.e * last * 2097153 + 2 ^ 25 * (dn k.f * last))
    ∷ []

small_of : (k : Constants) (last : ℕ) → last < 2 ^ 16 → T (every (small_tests k last)) → Small k last
unfolding nth small_tests
small_of k last l h =
    let test = passes (small_tests k last) h in
    record {
      steps = l;
      cut = ltb→lt _ _ (test 0);
      a_least = ltb→lt _ _ (test 1);
      a = ltb→lt _ _ (test 2);
      b_above = ltb→lt _ _ (test 3);
      b_below = ltb→lt _ _ (test 4);
      b_above_part = leb→le _ _ (test 5);
      b_below_part = leb→le _ _ (test 6);
      e = ltb→lt _ _ (test 7);
      e_last = ltb→lt _ _ (test 8);
      f_above = ltb→lt _ _ (test 9);
      f_below = ltb→lt _ _ (test 10);
      border = leb→le _ _ (test 11);
      toe = leb→le _ _ (test 12);
    }

-- of a curve with a toe
abbrev curve_test : Curve → (last : ℕ) → Bool
curve_test log_c4 last = true
curve_test (log_c k) last = every (small_tests k last)

all_small : T (for_settings (λ c w e. curve_test (curve_of (record { curve = c; width = w; ei = e })) (last_of (record { curve = c; width = w; ei = e }))))
unfolding small_tests codes_of
all_small = tt

pub constants_small : (s : Setting) → Valid s → (k : Constants) → curve_of s ≡ log_c k → Small k (last_of s)
constants_small s v k e =
    small_of k (last_of s) (last_small s)
    (subst (λ (c : Curve). T (curve_test c (last_of s))) e (for_valid (λ c w e. curve_test (curve_of (record { curve = c; width = w; ei = e })) (last_of (record { curve = c; width = w; ei = e }))) all_small s v))

-- ---- a number with its offset is small
pub raw_small : {d : Decoder} {t : List ℕ} {n : ℕ} → Fits d t n → raw_by d t n < 2 ^ 62
unfolding raw_by
raw_small {d} {t} {n} f = go (ltb n d.first)
  where
    power : (x : ℕ) → x < 2 ^ 64 → x / 2 ^ 27 < 2 ^ 62
    power x h = omega arith

    go : (x : Bool) → choose x (toe_raw d n) (power_raw d t n) < 2 ^ 62
    go true = lt_of_le_of_lt (div-le_self (2 ^ 25 * 1000000 * n + d.toe) d.over) f.toe
    go false = power (product t n + d.bias) f.power

-- ---- the subtraction of the offset
pub cast_fits : (u : ℕ) → u < 2 ^ 62 → SFits w64 (pos u)
cast_fits u h = record { sfits = lt_trans h (lit< tt) }

pub minus_fits : (u : ℕ) → u < 2 ^ 62 → SFits w64 (to_z w64 u -ℤ pos 1048576)
minus_fits u h = rw (to_z_pos w64 (lt_trans h (lit< tt))) (fits_z (sub (at (pos u)) (at (pos 1048576))) (omega arith) (omega arith))

pub minus_is : (u v : ℕ) → u ≡ v → u < 2 ^ 62 → read_back (to_z w64 u -ℤ pos 1048576) ≡ sub_ℕ v offset
minus_is u v e h =
    read_back_lem (minus_fits u h) ∙ ap (λ (z : ℤ). z -ℤ pos 1048576) (to_z_pos w64 (lt_trans h (lit< tt))) ∙ ap (λ (n : ℕ). sub_ℕ n offset) e
