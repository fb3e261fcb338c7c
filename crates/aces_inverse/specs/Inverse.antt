-- Matrices that lead back from ACES numbers to scene numbers, nearly: the inverses of the published ones, over 2 ^ 40. They are no part of
-- the rules. To the way back what they give is only a candidate, which is taken to ACES again and compared. Of graded numbers it is the scene
-- triple, which 02 leaves free as long as its ACES numbers are near.
-- Assumes nothing.
use Rattle.std.specs.Prelude.{List, [], ◌∷◌, map, ℕ, ◌^◌, ℤ, pos, ◌+ℤ◌, ◌*ℤ◌}
use Rattle.rules.specs.declared.Setting.{Setting}
use Rattle.rules.specs.declared.CurveName.{CurveName}
use Rattle.rules.specs.declared.CurveName.TheVariants.{LogC2, LogC3, LogC4, Unknown}
use Rattle.rules.specs.Setting.{named}
use Rattle.whole.specs.Parts.{minus}
use Rattle.rules.specs.Triples.{Triple, Scenes}
use Rattle.rules.specs.Matrix.{Matrix, aces_number}
use Rattle.rules.specs.Pixels.{scenes}
use Rattle.row_product.specs.Row.{over}
use Rattle.row_product.specs.Digits.{upper, lower}

abbrev pub log_c4_inverse : List (List ℤ)
log_c4_inverse =
    (pos 1464273425074 ∷ minus 210052714742 ∷ minus 154709082556 ∷ [])
    ∷ (minus 1188600726 ∷ pos 1091615728564 ∷ pos 9084499938 ∷ [])
    ∷ (pos 730062762 ∷ pos 826298081 ∷ pos 1097955266932 ∷ [])
    ∷ []

abbrev pub log_c3_inverse : List (List ℤ)
log_c3_inverse =
    (pos 1666845747229 ∷ minus 397300528251 ∷ minus 170033591202 ∷ [])
    ∷ (minus 141097559821 ∷ pos 1120748249465 ∷ pos 119860938131 ∷ [])
    ∷ (minus 11556925031 ∷ pos 66887523426 ∷ pos 1044181029382 ∷ [])
    ∷ []

abbrev pub inverse_for : CurveName → List (List ℤ)
inverse_for LogC2 = []
inverse_for LogC3 = log_c3_inverse
inverse_for LogC4 = log_c4_inverse
inverse_for Unknown = []

abbrev pub inverse_rows : Setting → List (List ℤ)
inverse_rows s = inverse_for (named s.curve)

-- their digits to the base 2 ^ 21
abbrev pub high_rows : Setting → List (List ℤ)
high_rows s = map (map (upper 2097152)) (inverse_rows s)

abbrev pub low_rows : Setting → List (List ℤ)
low_rows s = map (map (lower 2097152)) (inverse_rows s)

-- sums of two such digits, joined
abbrev pub pair : (h l : ℤ) → ℤ
pair h l = pos 2097152 *ℤ h +ℤ l

-- the candidate for the scene number of a channel, and for all three
abbrev pub inverse_of : Setting → Matrix
inverse_of s = over (2 ^ 40) (inverse_rows s)

abbrev pub candidate : Setting → (i : ℕ) → (a b c : ℤ) → ℤ
candidate s i a b c = aces_number (inverse_of s) i a b c

abbrev pub candidates : Setting → Triple → Scenes
candidates s a =
    scenes (candidate s 0 a.red.0 a.green.0 a.blue.0) (candidate s 1 a.red.0 a.green.0 a.blue.0) (candidate s 2 a.red.0 a.green.0 a.blue.0)
