-- An integer as a difference of two naturals, of which one is 0; and a natural with a minus sign.
-- Assumes nothing.
use Rattle.std.specs.Prelude.{ℕ, suc, ℤ, pos, negsuc, neg_ℤ}

-- how far z is above 0
abbrev pub up : ℤ → ℕ
up (pos n) = n
up (negsuc n) = 0

-- how far z is below 0
abbrev pub dn : ℤ → ℕ
dn (pos n) = 0
dn (negsuc n) = suc n

-- minus n
abbrev pub minus : ℕ → ℤ
minus n = neg_ℤ (pos n)
