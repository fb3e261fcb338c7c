-- Sums of a number of each record, and their bits: what a sum is after one number is taken off and another is added.
-- Assumes nothing.
use mathlib.Core.List.{List, [], ◌∷◌, ◌++◌}
use mathlib.Core.Path.{◌≡◌}
use Prim.Native.Nat.{ℕ, ◌+◌, ◌*◌, ◌^◌, ◌≤◌, ◌<◌}
use native.Mathlib.Omega.{arith}
use lib.IntN.{ℤ, pos, negsuc, nat_abs, ◌+ℤ◌, ◌-ℤ◌}
use lib.ListN.{length}
use Rattle.whole.specs.Parts.{up, dn}
use Rattle.whole.proofs.Reflect.{at, add, sub, dif, eq_z, abs_is, one_zero}
use Rattle.rules.specs.Record.{to_bits}
use Rattle.rules.specs.Reel.{sum_bytes, sum_after, sum_of}
use Rattle.rules.specs.Result.{Each}

-- ---- the bits of a sum

-- a number is its bits, less a whole turn where it is below 0
abbrev turn : ℤ → ℕ
turn (pos n) = 0
turn (negsuc n) = 1

record Turned (z : ℤ) : Type 0 where
  is : to_bits sum_bytes z + dn z ≡ up z + turn z * 256 ^ sum_bytes
  once : turn z ≤ 1
  fits : to_bits sum_bytes z < 256 ^ sum_bytes

turned : (z : ℤ) → nat_abs z < 2 ^ 63 → Turned z
turned (pos n) h = record { is = omega arith; once = omega arith; fits = omega arith }
turned (negsuc n) h = record { is = omega arith; once = omega arith; fits = omega arith }

-- ONE NUMBER OFF AND ANOTHER ON, by the bits, is the same of the numbers
pub sum_after_lem : (z old new : ℤ) → nat_abs z < 2 ^ 63 → nat_abs old < 2 ^ 63 → nat_abs new < 2 ^ 63 → nat_abs (z +ℤ (new -ℤ old)) < 2 ^ 63
    → sum_after (to_bits sum_bytes z) old new ≡ to_bits sum_bytes (z +ℤ (new -ℤ old))
sum_after_lem z old new h o n k =
    omega (arith, turned z h, turned old o, turned new n, turned (z +ℤ (new -ℤ old)) k, dif (add (at z) (sub (at new) (at old))))

-- ---- sums over records
module _ (f : List ℕ → ℤ) where
  sum_append : (xs ys : List (List ℕ)) → sum_of f (xs ++ ys) ≡ sum_of f xs +ℤ sum_of f ys
  unfolding sum_of
  sum_append [] ys = eq_z (at (sum_of f ys)) (add (at (pos 0)) (at (sum_of f ys))) (omega arith)
  sum_append (x ∷ xs) ys =
      let y = at (sum_of f xs) in
      let z = at (sum_of f ys) in
      rw (sum_append xs ys) (eq_z (add (at (f x)) (add y z)) (add (add (at (f x)) y) z) (omega arith))

  -- THE SUM OF A LIST in which some records take the place of others
  pub sum_changed : (a old new b : List (List ℕ)) → sum_of f (a ++ (new ++ b)) ≡ sum_of f (a ++ (old ++ b)) +ℤ (sum_of f new -ℤ sum_of f old)
  sum_changed a old new b =
      let x = at (sum_of f a) in
      let y = at (sum_of f old) in
      let z = at (sum_of f new) in
      let w = at (sum_of f b) in
      rw (sum_append a (new ++ b), sum_append new b, sum_append a (old ++ b), sum_append old b)
      (eq_z (add x (add z w)) (add (add x (add y w)) (sub z y)) (omega arith))

  -- of one record it is its number
  pub sum_one : (r : List ℕ) → sum_of f (r ∷ []) ≡ f r
  unfolding sum_of
  sum_one r = eq_z (add (at (f r)) (at (pos 0))) (at (f r)) (omega arith)

  -- and it is at most so many times the most that one is
  pub sum_small : (most : ℕ) (rs : List (List ℕ)) → Each (λ r. nat_abs (f r) ≤ most) rs → nat_abs (sum_of f rs) ≤ length rs * most
  unfolding sum_of
  sum_small most [] h = omega arith
  sum_small most (r ∷ rs) h =
      let s = sum_small most rs h.1 in
      let z = f r +ℤ sum_of f rs in
      omega (arith, h.0, abs_is (f r), abs_is (sum_of f rs), abs_is z, one_zero z, dif (add (at (f r)) (at (sum_of f rs))))
