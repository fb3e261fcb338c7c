-- The parts of a line, and of the one for the bytes short of a record.
-- Assumes nothing.
use Rattle.std.specs.Prelude.{Err, Ok}
use Rattle.rules.specs.Triples.{Triple}
use mathlib.Core.Path.{◌≡◌, refl}
use mathlib.Core.List.{[], ◌∷◌, ◌++◌}
use Prim.Native.Nat.{ℕ}
use borrow.Author.Tests.{eq-eqb, ne_eqb}
use Rattle.rules.specs.Decimal.{decimal}
use Rattle.rules.specs.Lister.{followed, line_of, words, line, tail, tail_line}
use Rattle.rules.specs.Refusal.{OrRefusal}

-- a line is its index with the space behind it, and the words of the record
pub line_parts : (k : ℕ) (o : OrRefusal Triple) → line k o ≡ followed (decimal k) 32 ++ line_of (words o)
line_parts k (Ok a) = refl
line_parts k (Err why) = refl

-- no tail, and some
pub tail_none : (n : ℕ) → n ≡ 0 → tail_line n ≡ []
tail_none n e = rw (eq-eqb n 0 e)

pub tail_some : (n : ℕ) → (n ≡ 0 → ⊥) → tail_line n ≡ line_of (tail ∷ decimal n ∷ [])
tail_some n e = rw (ne_eqb n 0 e)
