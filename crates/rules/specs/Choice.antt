-- Choosing by a test; looking a number up in a list; a number from minus a limit to the limit.
-- Assumes nothing.
use Rattle.std.specs.Prelude.{Bool, true, false, List, [], ◌∷◌, ℕ, eqb, ℤ, pos}
use Rattle.std.specs.Int.Signed.{le_z}
use Rattle.whole.specs.Parts.{minus}

-- a where the test passes, else b
abbrev pub choose : {A : Type 0} → Bool → A → A → A
choose true a b = a
choose false a b = b

-- n is one of the list
abbrev pub member : ℕ → List ℕ → Bool
member n [] = false
member n (m ∷ ms) = choose (eqb n m) true (member n ms)

-- whether all of three tests are passed
abbrev pub all_three : (a b c : Bool) → Bool
all_three a b c = choose a (choose b c false) false

-- x is from minus the limit to the limit, which are among them
abbrev pub between : (limit : ℕ) → ℤ → Bool
between limit x = choose (le_z (minus limit) x) (le_z x (pos limit)) false
