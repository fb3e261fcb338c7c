-- 01, "Records and settings", and 02, items 1 to 3 and 5: the settings there are, their checks, and their codes.
-- Assumes nothing.
use Rattle.std.specs.Prelude.{Bool, true, false, List, [], ◌∷◌, map, ◌≡◌, ℕ, ◌+◌, ◌-◌, ◌*◌, ◌/◌, ◌%◌, ◌^◌, eqb, leb, Ok}
use Rattle.rules.specs.declared.Setting.{Setting}
use Rattle.rules.specs.declared.CurveName.{CurveName}
use Rattle.rules.specs.declared.CurveName.TheVariants.{LogC2, LogC3, LogC4, Unknown}
use Rattle.rules.specs.Refusal.{Check, then, refuse_unless}
use Rattle.rules.specs.declared.Refusal.TheVariants.{UnknownCurve, UnknownWidth, UnknownEi, CodeAboveTop, CodeBelowFirst, NoMatrix, CodeNotDivisible}
use Rattle.rules.specs.Choice.{choose, member}
use Rattle.rules.specs.Curve.{Curve, log_c4, log_c, Row, log_c2_rows, log_c3_rows, no_constants, constants_at}

-- ---- the curve that a number names, and what there is for each. Everything else goes by its cases.

-- "Curve is 3 or 4."; 02, item 3: "Curve 2 joins the curves that 3 lets pass."
abbrev pub named : ℕ → CurveName
named n = choose (eqb n 2) LogC2 (choose (eqb n 3) LogC3 (choose (eqb n 4) LogC4 Unknown))

abbrev pub known : CurveName → Bool
known LogC2 = true
known LogC3 = true
known LogC4 = true
known Unknown = false

-- "Curve 3 has widths 10, 12, 16 .. Curve 4 has widths 12 and 16"; 02, item 1: "Add width byte 140 for curve 4"; item 3, of curve 2:
-- "widths 10 and 12 only"
abbrev pub widths_of : CurveName → List ℕ
widths_of LogC2 = 10 ∷ 12 ∷ []
widths_of LogC3 = 10 ∷ 12 ∷ 16 ∷ []
widths_of LogC4 = 12 ∷ 16 ∷ 140 ∷ []
widths_of Unknown = []

-- ".. and EI 160, 200, .." (those of the table of constants), ".. and EI 0"; of curve 2 "eleven EI values", those of its table
abbrev pub eis_of : CurveName → List ℕ
eis_of LogC2 = map (λ (r : Row). r.ei) log_c2_rows
eis_of LogC3 = map (λ (r : Row). r.ei) log_c3_rows
eis_of LogC4 = 0 ∷ []
eis_of Unknown = []

-- the curve at an EI. (No valid setting is of an unknown one.)
abbrev pub curve_at : CurveName → (ei : ℕ) → Curve
curve_at LogC2 ei = log_c (constants_at ei log_c2_rows)
curve_at LogC3 ei = log_c (constants_at ei log_c3_rows)
curve_at LogC4 ei = log_c4
curve_at Unknown ei = log_c no_constants

abbrev pub curve_of : Setting → Curve
curve_of s = curve_at (named s.curve) s.ei

-- ---- the setting's checks: refusals 3, 4 and 5, in this order
unfoldable pub setting_check : Setting → Check
setting_check s =
    then (refuse_unless (known (named s.curve)) UnknownCurve)
    (then (refuse_unless (member s.width (widths_of (named s.curve))) UnknownWidth)
    (refuse_unless (member s.ei (eis_of (named s.curve))) UnknownEi))

-- "A setting is valid where it passes the table's setting checks."
abbrev pub Valid : Setting → Type 0
Valid s = setting_check s ≡ Ok tt

-- ---- 02, item 3, refusal 12: "curve 2 in a conversion to or from ACES, checked after 5"
abbrev pub has_matrix : CurveName → Bool
has_matrix LogC2 = false
has_matrix LogC3 = true
has_matrix LogC4 = true
has_matrix Unknown = false

unfoldable pub aces_check : Setting → Check
aces_check s = then (setting_check s) (refuse_unless (has_matrix (named s.curve)) NoMatrix)

-- 02, item 3: "there a setting of curve 2 isn't valid"
abbrev pub ValidForAces : Setting → Type 0
ValidForAces s = aces_check s ≡ Ok tt

-- ---- the codes of a setting. They are numbered by steps from 0: all that is said of a curve is said of steps.

-- "The top code of width w is top = 2^w - 1"; 02, item 2: "for any width from 1 to 16 as two to the width, less one, and 0 for any other number"
abbrev pub top_of : (width : ℕ) → ℕ
top_of width = choose (leb 1 width) (choose (leb width 16) (2 ^ width - 1) 0) 0

-- the first code, how far each code is from the one before it, and the last step
pub record Codes : Type 0 where
  pub first : ℕ
  pub apart : ℕ
  pub last : ℕ

-- "a code n stands for the signal n / top": the codes from 0 to the top code; 02, item 2: "Widths 10, 12 and 16 take it from there"
abbrev pub codes_to_top : (width : ℕ) → Codes
codes_to_top width = record { first = 0; apart = 1; last = top_of width }

-- 02, item 1, of width 140: "the signal is (n - 256) / 3504 and the codes are 256 to 3760"
abbrev pub legal_codes : Codes
legal_codes = record { first = 256; apart = 1; last = 3504 }

-- 02, item 5: "The recorders our buyers have store the 12-bit code times 16. For curve 4, width 16 now means that: the code over 16 is read as a
-- 12-bit code": a step is a 12-bit code
abbrev pub recorder_codes : Codes
recorder_codes = record { first = 0; apart = 16; last = top_of 12 }

-- "Curve 3 keeps 65535."
abbrev pub codes_at : CurveName → (width : ℕ) → Codes
codes_at LogC2 width = codes_to_top width
codes_at LogC3 width = codes_to_top width
codes_at LogC4 width = choose (eqb width 16) recorder_codes (choose (eqb width 140) legal_codes (codes_to_top width))
codes_at Unknown width = codes_to_top width

unfoldable pub codes_of : Setting → Codes
codes_of s = codes_at (named s.curve) s.width

abbrev pub last_of : Setting → ℕ
last_of s = (codes_of s).last

-- the code of a step, and the step of a code
abbrev pub code_at : Setting → (step : ℕ) → ℕ
code_at s i = (codes_of s).first + i * (codes_of s).apart

abbrev pub step_of : Setting → (code : ℕ) → ℕ
step_of s n = (n - (codes_of s).first) / (codes_of s).apart

-- refusals 13, 11 and 6: "a curve 4 width 16 code not divisible by 16, checked first in the channel" (any code is divisible by 1), "a code below
-- 256 at width 140", and "code above top"
abbrev pub code_among : (first apart top : ℕ) → ℕ → Check
code_among first apart top n =
    then (refuse_unless (eqb (n % apart) 0) CodeNotDivisible)
    (then (refuse_unless (leb first n) CodeBelowFirst) (refuse_unless (leb n top) CodeAboveTop))

-- the same, of a setting that passes its checks
abbrev pub code_check : Setting → ℕ → Check
code_check s n = code_among (codes_of s).first (codes_of s).apart (code_at s (last_of s)) n
