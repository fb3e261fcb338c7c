-- Whole numbers in decimal digits, as bytes of text (ASCII), as the lister prints them.
-- Assumes nothing.
use Rattle.std.specs.Prelude.{List, [], ◌∷◌, ◌++◌, ℕ, zero, suc, ◌+◌, ◌/◌, ◌%◌, ltb, ℤ, pos, negsuc}
use Rattle.rules.specs.Choice.{choose}

-- the byte of a digit: that of 0 is 48
abbrev pub digit : ℕ → ℕ
digit d = 48 + d

-- the digits of n: those of n / 10, and the last. At most so many stand before the last.
unfoldable pub decimal_in : (before n : ℕ) → List ℕ
decimal_in zero n = digit (n % 10) ∷ []
decimal_in (suc k) n = choose (ltb n 10) (digit n ∷ []) (decimal_in k (n / 10) ++ (digit (n % 10) ∷ []))

-- the digits of n with no 0 in front; 0 is one digit. (Never do n digits stand before the last.)
unfoldable pub decimal : ℕ → List ℕ
decimal n = decimal_in n n

-- a signed number: below 0 a minus sign (45) and the digits
abbrev pub signed : ℤ → List ℕ
signed (pos n) = decimal n
signed (negsuc n) = 45 ∷ decimal (suc n)
