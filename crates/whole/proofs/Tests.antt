-- Tests that are computed: two joined, and a list of them, of which each passes where the whole does. A fact of three numbers.
-- Assumes nothing.
use mathlib.Core.Bool.{Bool, true, false}
use mathlib.Core.List.{List, [], ◌∷◌}
use Prim.Native.Nat.{ℕ, zero, suc, ◌<◌}
use native.Mathlib.Omega.{arith}
use lib.Dec.{T}

abbrev pub both : Bool → Bool → Bool
both true c = c
both false c = false

pub both_left : (a c : Bool) → T (both a c) → T a
both_left true c t = tt
both_left false c t = t

pub both_right : (a c : Bool) → T (both a c) → T c
both_right true c t = t
both_right false c t = absurd t

abbrev pub every : List Bool → Bool
every [] = true
every (x ∷ xs) = both x (every xs)

unfoldable pub nth : List Bool → ℕ → Bool
nth [] k = true
nth (x ∷ xs) zero = x
nth (x ∷ xs) (suc k) = nth xs k

-- the k-th test of a passed list
pub passes : (xs : List Bool) → T (every xs) → (k : ℕ) → T (nth xs k)
unfolding nth
passes [] h k = tt
passes (x ∷ xs) h zero = both_left x (every xs) h
passes (x ∷ xs) h (suc k) = passes xs (both_right x (every xs) h) k

-- of 0, 1 and 2
pub each_of_three : (P : ℕ → Type 0) → P 0 → P 1 → P 2 → (i : ℕ) → i < 3 → P i
each_of_three P a b c zero h = a
each_of_three P a b c (suc zero) h = b
each_of_three P a b c (suc (suc zero)) h = c
each_of_three P a b c (suc (suc (suc i))) h = absurd (omega arith)
