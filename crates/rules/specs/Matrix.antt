-- 01, "ACES and the way back": the matrices, and ACES numbers.
-- Assumes nothing.
use Rattle.std.specs.Prelude.{List, [], ◌∷◌, ◌≡◌, ℕ, ◌^◌, ℤ, pos, ◌+ℤ◌, ◌*ℤ◌, get_or}
use Rattle.whole.specs.Parts.{minus}
use Rattle.rules.specs.declared.Setting.{Setting}
use Rattle.rules.specs.declared.CurveName.{CurveName}
use Rattle.rules.specs.declared.CurveName.TheVariants.{LogC2, LogC3, LogC4, Unknown}
use Rattle.rules.specs.Setting.{named}
use Rattle.rules.specs.Fraction.{integer, whole, ◌/ℚ◌, nearest}

-- "Each matrix is three rows of three whole numbers over a scale."
pub record Matrix : Type 0 where
  pub rows : List (List ℤ)
  pub scale : ℕ

-- "Curve 4, scale 10^18 (source document 002)"
abbrev pub log_c4_matrix : Matrix
log_c4_matrix =
    record {
      rows =
          (pos 750957362824734131 ∷ pos 144422786709757084 ∷ pos 104619850465508965 ∷ [])
          ∷ (pos 821837079380207 ∷ pos 1007397584885003194 ∷ minus 8219421964383583 ∷ [])
          ∷ (minus 499952143533471 ∷ minus 854177231436971 ∷ pos 1001354129374970370 ∷ [])
          ∷ [];
      scale = 10 ^ 18;
    }

-- "Curve 3, scale 10^6 (source document 001)"
abbrev pub log_c3_matrix : Matrix
log_c3_matrix =
    record {
      rows =
          (pos 680205 ∷ pos 236137 ∷ pos 83658 ∷ [])
          ∷ (pos 85415 ∷ pos 1017471 ∷ minus 102886 ∷ [])
          ∷ (pos 2057 ∷ minus 62563 ∷ pos 1060506 ∷ [])
          ∷ [];
      scale = 10 ^ 6;
    }

-- of curve 2, 02, item 3: "The paper publishes no ACES matrix for this raw colour space"; and of no curve
abbrev pub no_matrix : Matrix
no_matrix = record { rows = []; scale = 1 }

abbrev pub matrix_for : CurveName → Matrix
matrix_for LogC2 = no_matrix
matrix_for LogC3 = log_c3_matrix
matrix_for LogC4 = log_c4_matrix
matrix_for Unknown = no_matrix

-- the matrix of a setting
abbrev pub matrix_of : Setting → Matrix
matrix_of s = matrix_for (named s.curve)

abbrev pub entry : Matrix → (i j : ℕ) → ℤ
entry m i j = get_or (get_or m.rows i []) j (pos 0)

-- "the exact row product with the three decoded numbers"
abbrev pub row_product : Matrix → (i : ℕ) → (x y z : ℤ) → ℤ
row_product m i x y z = entry m i 0 *ℤ x +ℤ entry m i 1 *ℤ y +ℤ entry m i 2 *ℤ z

-- ".. over the scale, to the nearest whole number, a half going up, rounded once": the ACES number of the row i
unfoldable pub aces_number : Matrix → (i : ℕ) → (x y z : ℤ) → ℤ
aces_number m i x y z = nearest (integer (row_product m i x y z) /ℚ whole m.scale)

-- the three ACES numbers of three scene numbers
pub record IsAces (m : Matrix) (x y z : ℤ) (red green blue : ℤ) : Type 0 where
  pub red_is : red ≡ aces_number m 0 x y z
  pub green_is : green ≡ aces_number m 1 x y z
  pub blue_is : blue ≡ aces_number m 2 x y z
