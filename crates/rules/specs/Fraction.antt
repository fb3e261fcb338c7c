-- Fractions, written (plus - minus) / over with over above 0, so that a comparison of fractions is one of whole numbers.
-- Assumes nothing.
use Rattle.std.specs.Prelude.{Bool, ℕ, ◌+◌, ◌-◌, ◌*◌, ◌^◌, ◌≤◌, ◌<◌, leb, ℤ}
use Rattle.std.proofs.Math.IntN.{sub_ℕ}
use Rattle.std.specs.Int.Signed.{shr_z}
use Rattle.whole.specs.Parts.{up, dn}

pub record Fraction : Type 0 where
  pub plus : ℕ
  pub minus : ℕ
  pub over : ℕ

-- n / d
abbrev pub ratio : ℕ → ℕ → Fraction
ratio n d = record { plus = n; minus = 0; over = d }

-- the natural n, the integer z
abbrev pub whole : ℕ → Fraction
whole n = ratio n 1

abbrev pub integer : ℤ → Fraction
integer z = record { plus = up z; minus = dn z; over = 1 }

-- a decimal with six places, by its digits: 0.092778 is millionths 0_092778
abbrev pub millionths : ℕ → Fraction
millionths n = ratio n 1_000_000

-- the same with a sign
abbrev pub signed_millionths : ℤ → Fraction
signed_millionths z = record { plus = up z; minus = dn z; over = 1_000_000 }

infixl 6 ◌+ℚ◌ ◌-ℚ◌
infixl 7 ◌*ℚ◌ ◌/ℚ◌
abbrev pub ◌+ℚ◌ : Fraction → Fraction → Fraction
x +ℚ y = record { plus = x.plus * y.over + y.plus * x.over; minus = x.minus * y.over + y.minus * x.over; over = x.over * y.over }

abbrev pub ◌-ℚ◌ : Fraction → Fraction → Fraction
x -ℚ y = record { plus = x.plus * y.over + y.minus * x.over; minus = x.minus * y.over + y.plus * x.over; over = x.over * y.over }

abbrev pub ◌*ℚ◌ : Fraction → Fraction → Fraction
x *ℚ y = record { plus = x.plus * y.plus + x.minus * y.minus; minus = x.plus * y.minus + x.minus * y.plus; over = x.over * y.over }

-- by a fraction above 0
abbrev pub ◌/ℚ◌ : Fraction → Fraction → Fraction
x /ℚ y = record { plus = x.plus * y.over; minus = x.minus * y.over; over = x.over * (y.plus - y.minus) }

-- the orders of whole numbers, as relations that a comparison takes
abbrev pub Less : ℕ → ℕ → Type 0
Less m n = m < n

abbrev pub Greater : ℕ → ℕ → Type 0
Greater m n = n < m

abbrev pub AtMost : ℕ → ℕ → Type 0
AtMost m n = m ≤ n

abbrev pub AtLeast : ℕ → ℕ → Type 0
AtLeast m n = n ≤ m

-- x R y, for an order or the equality R of whole numbers: the denominators are cleared, and what is taken away on one side is added on the other
abbrev pub Versus : (ℕ → ℕ → Type 0) → Fraction → Fraction → Type 0
Versus R x y = R (x.plus * y.over + y.minus * x.over) (y.plus * x.over + x.minus * y.over)

-- x is at most y
abbrev pub at_most : Fraction → Fraction → Bool
at_most x y = leb (x.plus * y.over + y.minus * x.over) (y.plus * x.over + x.minus * y.over)

-- x R base ^ p: q-th powers of whole numbers are compared, where q is the denominator of p, after clearing fractions.
-- (01, Decoding: a power exceeds every number that is zero or less. Such an x counts as 0 here, and 0 is below every power.)
pub data VersusPower (R : ℕ → ℕ → Type 0) (x : Fraction) (base : ℕ) (p : Fraction) : Type 0 where
  cleared : R ((x.plus - x.minus) ^ p.over * base ^ p.minus) (base ^ p.plus * x.over ^ p.over) → VersusPower R x base p

-- the nearest whole number, a half going up: x + 1/2 rounded down
abbrev pub nearest : Fraction → ℤ
nearest x = shr_z (sub_ℕ (2 * x.plus + x.over) (2 * x.minus)) (2 * x.over)
