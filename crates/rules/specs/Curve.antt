-- 01, "Curve 4" and "Curve 3", and 02, item 3: the formulas, with their exact decimals.
-- Assumes nothing.
use Rattle.std.specs.Prelude.{Bool, false, List, [], ◌∷◌, ℕ, eqb, ℤ, pos}
use Rattle.whole.specs.Parts.{minus}
use Rattle.rules.specs.Choice.{choose}
use Rattle.rules.specs.Fraction.{Fraction, ratio, whole, millionths, signed_millionths, ◌+ℚ◌, ◌-ℚ◌, ◌*ℚ◌, ◌/ℚ◌, at_most}

-- the constants of a curve at one EI, in millionths; b and f have a sign
pub record Constants : Type 0 where
  pub a : ℕ
  pub cut : ℕ
  pub b : ℤ
  pub c : ℕ
  pub d : ℕ
  pub e : ℕ
  pub f : ℤ

-- curve 4; and a curve with a toe, whose constants change with the EI, as curves 2 and 3 are
pub data Curve : Type 0 where
  log_c4 : Curve
  log_c : Constants → Curve

pub record Row : Type 0 where
  pub ei : ℕ
  pub numbers : Constants

-- "Always a = 5.555556." | EI | cut | b | c | d | e | f |
abbrev pub log_c3_row : (ei cut b c d e f : ℕ) → Row
log_c3_row ei cut b c d e f =
    record { ei = ei; numbers = record { a = 5_555556; cut = cut; b = pos b; c = c; d = d; e = e; f = pos f } }

abbrev pub log_c3_rows : List Row
log_c3_rows =
    log_c3_row 160 0_005561 0_080216 0_269036 0_381991 5_842037 0_092778
    ∷ log_c3_row 200 0_006208 0_076621 0_266007 0_382478 5_776265 0_092782
    ∷ log_c3_row 250 0_006871 0_072941 0_262978 0_382966 5_710494 0_092786
    ∷ log_c3_row 320 0_007622 0_068768 0_259627 0_383508 5_637732 0_092791
    ∷ log_c3_row 400 0_008318 0_064901 0_256598 0_383999 5_571960 0_092795
    ∷ log_c3_row 500 0_009031 0_060939 0_253569 0_384493 5_506188 0_092800
    ∷ log_c3_row 640 0_009840 0_056443 0_250219 0_385040 5_433426 0_092805
    ∷ log_c3_row 800 0_010591 0_052272 0_247190 0_385537 5_367655 0_092809
    ∷ log_c3_row 1000 0_011361 0_047996 0_244161 0_386036 5_301883 0_092814
    ∷ log_c3_row 1280 0_012235 0_043137 0_240810 0_386590 5_229121 0_092819
    ∷ log_c3_row 1600 0_013047 0_038625 0_237781 0_387093 5_163350 0_092824
    ∷ []

-- 02, item 3: "Add curve 2 from the SUP 2.x table in source document 001 (normalised sensor value, eleven EI values ..)": its cut is
-- 0.003907 and its d 0.391007 at every EI, and its b and f are below 0. | EI | a | b | c | e | f |
abbrev pub log_c2_row : (ei a b c e f : ℕ) → Row
log_c2_row ei a b c e f =
    record { ei = ei; numbers = record { a = a; cut = 0_003907; b = minus b; c = c; d = 0_391007; e = e; f = minus f } }

abbrev pub log_c2_rows : List Row
log_c2_rows =
    log_c2_row 160 36_439829 0_053366 0_269035 45_593473 0_069772
    ∷ log_c2_row 200 45_549786 0_088959 0_266007 55_709581 0_106114
    ∷ log_c2_row 250 56_937232 0_133449 0_262978 67_887153 0_150510
    ∷ log_c2_row 320 72_879657 0_195737 0_259627 84_167616 0_210597
    ∷ log_c2_row 400 91_099572 0_266922 0_256598 101_811426 0_276349
    ∷ log_c2_row 500 113_874465 0_355903 0_253569 122_608379 0_354421
    ∷ log_c2_row 640 145_759315 0_480477 0_250218 149_703304 0_456760
    ∷ log_c2_row 800 182_199144 0_622848 0_247189 178_216873 0_564981
    ∷ log_c2_row 1000 227_748930 0_800811 0_244161 210_785040 0_689043
    ∷ log_c2_row 1280 291_518630 1_049959 0_240810 251_689459 0_845336
    ∷ log_c2_row 1600 364_398287 1_334700 0_237781 293_073575 1_003841
    ∷ []

abbrev pub no_constants : Constants
no_constants = record { a = 0; cut = 0; b = pos 0; c = 0; d = 0; e = 0; f = pos 0 }

-- the constants of an EI: those of its row (no valid setting has an EI without a row)
abbrev pub constants_at : ℕ → List Row → Constants
constants_at ei [] = no_constants
constants_at ei (r ∷ rs) = choose (eqb ei r.ei) r.numbers (constants_at ei rs)

-- ---- of a signal t

-- power part: the exact value is (base ^ exponent - less) * factor

abbrev pub base : Curve → ℕ
base log_c4 = 2
base (log_c k) = 10

-- "P = 6 + 14 · (1023·n - 95·top) / (928·top)", where the signal t is n / top; "(t - d) / c"
abbrev pub exponent : Curve → Fraction → Fraction
exponent log_c4 t = whole 6 +ℚ whole 14 *ℚ (whole 1023 *ℚ t -ℚ whole 95) /ℚ whole 928
exponent (log_c k) t = (t -ℚ millionths k.d) /ℚ millionths k.c

-- "(2^P - 64) · 783 / 1747520"; "(10^((t - d) / c) - b) / a"
abbrev pub less : Curve → Fraction
less log_c4 = whole 64
less (log_c k) = signed_millionths k.b

abbrev pub factor : Curve → Fraction
factor log_c4 = ratio 783 1747520
factor (log_c k) = whole 1 /ℚ millionths k.a

-- "if t > e·cut + f .. (power part), else .. (toe)": "The product e·cut + f decides". Curve 4 has no toe.
abbrev pub border : Constants → Fraction
border k = millionths k.e *ℚ millionths k.cut +ℚ signed_millionths k.f

abbrev pub in_toe : Curve → Fraction → Bool
in_toe log_c4 t = false
in_toe (log_c k) t = at_most t (border k)

-- toe: the exact value is "(t - f) / e". (Curve 4: not used.)
abbrev pub toe_value : Curve → Fraction → Fraction
toe_value log_c4 t = t
toe_value (log_c k) t = (t -ℚ signed_millionths k.f) /ℚ millionths k.e
