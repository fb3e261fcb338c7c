-- A curve with a toe as the program holds it: its constants, and the rows of its EIs.
-- Assumes nothing.
use Rattle.std.specs.Prelude.{List, [], ◌∷◌, ℕ, suc, eqb}
use Rattle.rules.specs.Choice.{choose}
use Rattle.rules.specs.Curve.{Constants}
use Rattle.rules.specs.Setting.{eis_of}
use Rattle.rules.specs.declared.CurveName as curve
use Rattle.curves.specs.declared.log_c.LogC.{LogC}

abbrev pub constants_of : LogC → Constants
constants_of k = record { a = k.a; cut = k.cut; b = k.b; c = k.c; d = k.d; e = k.e; f = k.f }

-- where a number stands in a list, from 0, and behind the list where it does not
abbrev pub place : ℕ → List ℕ → ℕ
place n [] = 0
place n (m ∷ ms) = choose (eqb n m) 0 (suc (place n ms))

-- the row of an EI in a table of constants. (Curve 2 has the EIs of curve 3.)
unfoldable pub row_of : ℕ → ℕ
row_of ei = place ei (eis_of curve.CurveName.LogC3)
