-- THE DIGITS of a number say it, and have no 0 in front.
-- Assumes nothing.
use mathlib.Core.Bool.{Bool, true, false}
use mathlib.Core.Path.{◌≡◌, refl}
use mathlib.Core.List.{List, [], ◌∷◌, ◌++◌}
use Prim.Native.Nat.{ℕ, zero, suc, ◌+◌, ◌-◌, ◌*◌, ◌/◌, ◌%◌, ◌≤◌, ◌<◌}
use native.Mathlib.Omega.{arith}
use lib.Dec.{ltb}
use lib.ListN.{length, get_or, length-append, get_or-append}
use borrow.Author.Tests.{ltb-true, ltb-false}
use Rattle.text.proofs.Digits.{decimal_small, decimal_large}
use Rattle.rules.specs.Decimal.{digit, decimal}

-- ---- the number that digits write
abbrev pub number_in : (sum : ℕ) → List ℕ → ℕ
number_in n [] = n
number_in n (d ∷ ds) = number_in (n * 10 + (d - 48)) ds

number_last : (n d : ℕ) (ds : List ℕ) → number_in n (ds ++ (d ∷ [])) ≡ number_in n ds * 10 + (d - 48)
number_last n d [] = refl
number_last n d (e ∷ ds) = number_last (n * 10 + (e - 48)) d ds

-- each number below a bound, by the bound
reads_below : (bound n : ℕ) → n < bound → number_in 0 (decimal n) ≡ n
reads_below zero n h = absurd (omega arith)
reads_below (suc bound) n h = go (ltb n 10) refl (λ l. reads_below bound (n / 10) (omega arith))
  where
    go : (x : Bool) → ltb n 10 ≡ x → (10 ≤ n → number_in 0 (decimal (n / 10)) ≡ n / 10) → number_in 0 (decimal n) ≡ n
    go true e tenth = rw (decimal_small n (ltb-true n 10 e)) (omega arith)
    go false e tenth = let l = ltb-false n 10 e in rw (decimal_large n l, number_last, tenth l) (omega arith)

-- THE DIGITS of a number say it, so that two numbers have not the same digits
pub decimal_reads : (n : ℕ) → number_in 0 (decimal n) ≡ n
decimal_reads n = reads_below (suc n) n (omega arith)

some : (n : ℕ) → 0 < length (decimal n)
some n = go (ltb n 10) refl
  where
    go : (x : Bool) → ltb n 10 ≡ x → 0 < length (decimal n)
    go true e = rw (decimal_small n (ltb-true n 10 e)) (omega arith)
    go false e = rw (decimal_large n (ltb-false n 10 e), length-append) (omega arith)

first_below : (bound n : ℕ) → n < bound → 0 < n → 48 < get_or (decimal n) 0 0
first_below zero n h p = absurd (omega arith)
first_below (suc bound) n h p = go (ltb n 10) refl (λ l. first_below bound (n / 10) (omega arith) (omega arith))
  where
    go : (x : Bool) → ltb n 10 ≡ x → (10 ≤ n → 48 < get_or (decimal (n / 10)) 0 0) → 48 < get_or (decimal n) 0 0
    go true e tenth = rw (decimal_small n (ltb-true n 10 e)) (omega arith)
    go false e tenth =
        let l = ltb-false n 10 e in
        rw (decimal_large n l, get_or-append (decimal (n / 10)) (digit (n % 10) ∷ []) 0 0 (some (n / 10))) (tenth l)

-- NO 0 IN FRONT, save of 0 itself
pub decimal_first : (n : ℕ) → 0 < n → 48 < get_or (decimal n) 0 0
decimal_first n p = first_below (suc n) n (omega arith) p
