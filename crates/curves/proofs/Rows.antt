-- The rows of the EIs of a curve with a toe: what a table has at the row of an EI is what the rules give for the EI.
-- Assumes nothing.
use mathlib.Core.Bool.{Bool, true, false}
use mathlib.Core.List.{List, [], ◌∷◌, map}
use mathlib.Core.Path.{◌≡◌, refl, sym, ap, ◌∙◌}
use Prim.Native.Nat.compare
use Prim.Native.Nat.{ℕ, suc}
use native.Mathlib.Omega.{arith}
use borrow.Author.Tests.{lt-ltb}
use lib.Dec.{eqb, ltb}
use lib.ListN.{length, get_or}
use Rattle.rules.specs.Choice.{choose, member}
use Rattle.rules.specs.Curve.{Constants, Row, no_constants, constants_at}
use Rattle.rules.specs.Setting.{eis_of}
use Rattle.rules.specs.declared.CurveName.TheVariants.{LogC3}
use Rattle.curves.specs.LogC.{place, row_of}

-- ---- an EI has a row where it is one of the EIs
pub member_place : (n : ℕ) (l : List ℕ) → member n l ≡ ltb (place n l) (length l)
member_place n [] = refl
member_place n (m ∷ ms) = go (eqb n m) (member_place n ms)
  where
    go : (x : Bool) → member n ms ≡ ltb (place n ms) (length ms) → choose x true (member n ms) ≡ ltb (choose x 0 (suc (place n ms))) (suc (length ms))
    go true e = sym (lt-ltb 0 (suc (length ms)) (omega arith))
    go false e = rw compare.suc-suc e

-- ---- the constants of a row of the rules' table
abbrev eis : List Row → List ℕ
eis rs = map (λ (r : Row). r.ei) rs

abbrev numbers : List Row → List Constants
numbers rs = map (λ (r : Row). r.numbers) rs

at_place : (ei : ℕ) (rs : List Row) → get_or (numbers rs) (place ei (eis rs)) no_constants ≡ constants_at ei rs
at_place ei [] = refl
at_place ei (r ∷ rs) = go (eqb ei r.ei) (at_place ei rs)
  where
    go : (x : Bool) → get_or (numbers rs) (place ei (eis rs)) no_constants ≡ constants_at ei rs
        → get_or (numbers (r ∷ rs)) (choose x 0 (suc (place ei (eis rs)))) no_constants ≡ choose x r.numbers (constants_at ei rs)
    go true e = refl
    go false e = e

-- in a table that has these EIs
pub at_row : (rs : List Row) → eis rs ≡ eis_of LogC3 → (ei : ℕ) → get_or (numbers rs) (row_of ei) no_constants ≡ constants_at ei rs
unfolding row_of
at_row rs same ei = ap (λ (l : List ℕ). get_or (numbers rs) (place ei l) no_constants) (sym same) ∙ at_place ei rs
