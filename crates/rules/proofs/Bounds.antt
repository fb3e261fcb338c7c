-- What follows from the two bounds of the rules, computed from their figures: that of a decoded number is above a half, the farthest that a
-- nearest whole number is off; how far apart it leaves two numbers of one code; and that of an ACES number is above what three decoded
-- numbers and the rounding of their row add up to.
-- Assumes nothing.
use Prim.Native.Nat.{ℕ, ◌+◌, ◌-◌, ◌*◌, ◌/◌, ◌<◌}
use lib.Dec.{lit<}
use Rattle.whole.proofs.Weight.{weight}
use Rattle.whole.proofs.Tests.{each_of_three}
use Rattle.rules.specs.declared.Setting.{Setting}
use Rattle.rules.specs.declared.CurveName.TheVariants.{LogC3, LogC4}
use Rattle.rules.specs.Setting.{ValidForAces}
use Rattle.rules.specs.Decoding.{tolerance}
use Rattle.rules.specs.Matrix.{Matrix, matrix_for, matrix_of, entry}
use Rattle.rules.specs.ExactRow.{aces_tolerance}
use Rattle.rules.proofs.Settings.{for_aces}

-- ---- a bound N / D of a decoded number

-- it is above a half
abbrev pub AboveHalf : (N D : ℕ) → Type 0
AboveHalf N D = D < 2 * N

pub above_half : AboveHalf tolerance.plus tolerance.over
above_half = lit< tt

-- whole numbers less than N / D from one value are less than twice that apart: at most this far
abbrev pub apart_by : (N D : ℕ) → ℕ
apart_by N D = (2 * N - 1) / D

-- so far apart are numbers that the rules allow for one code
abbrev pub allowed_apart : ℕ
allowed_apart = apart_by tolerance.plus tolerance.over

-- ---- a bound P / Q of an ACES number

-- a row over the scale s whose entries without their signs sum to W: W / s times N / D, and a half, are together less than P / Q
abbrev pub WeightRoom : (N D P Q W s : ℕ) → Type 0
WeightRoom N D P Q W s = 2 * N * W * Q + D * s * Q < 2 * D * P * s

abbrev pub RowRoom : (N D P Q : ℕ) → Matrix → (i : ℕ) → Type 0
RowRoom N D P Q m i = WeightRoom N D P Q (weight (entry m i 0) (entry m i 1) (entry m i 2)) m.scale

-- with the bounds of the rules
abbrev RulesRoom : Matrix → (i : ℕ) → Type 0
RulesRoom = RowRoom tolerance.plus tolerance.over aces_tolerance.plus aces_tolerance.over

-- the six rows of the published matrices have it
pub row_room : (s : Setting) → ValidForAces s → (i : ℕ) → i < 3 → RulesRoom (matrix_of s) i
row_room s v i h =
    for_aces (λ c. RulesRoom (matrix_for c) i) (each_of_three (RulesRoom (matrix_for LogC3)) (lit< tt) (lit< tt) (lit< tt) i h)
    (each_of_three (RulesRoom (matrix_for LogC4)) (lit< tt) (lit< tt) (lit< tt) i h)
    s
    v
