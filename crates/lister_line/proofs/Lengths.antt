-- No line is longer than 66 bytes, and no tail's than 7: for an index below 2 ^ 64 and ACES numbers up to 2 ^ 38.
-- Assumes nothing.
use Rattle.std.specs.Prelude.{Err, Ok}
use mathlib.Core.Bool.{Bool, true, false}
use mathlib.Core.List.{[], ◌∷◌}
use Prim.Native.Nat.{ℕ, ◌^◌, ◌≤◌, ◌<◌}
use native.Mathlib.Omega.{arith}
use lib.Dec.{eqb}
use lib.IntN.{nat_abs}
use lib.ListN.{length, length-append}
use Rattle.rules.specs.declared.Refusal.{Refusal}
use Rattle.rules.specs.Triples.{Triple}
use Rattle.rules.specs.Choice.{choose}
use Rattle.rules.specs.Refusal.{number_of}
use Rattle.rules.proofs.Results.{number_bounds}
use Rattle.text.proofs.Digits.{length_decimal, length_signed}
use Rattle.lister_line.specs.Line.{longest, longest_tail}
use Rattle.rules.specs.Decimal.{decimal, signed}
use Rattle.rules.specs.Lister.{line_of, line, tail, tail_line}

module _ (k : ℕ) (h : k < 2 ^ 64) where
  index_long : length (decimal k) ≤ 20
  index_long = length_decimal 19 k (omega arith)

  pub aces_long : (a : Triple) → nat_abs a.red.0 ≤ 2 ^ 38 → nat_abs a.green.0 ≤ 2 ^ 38 → nat_abs a.blue.0 ≤ 2 ^ 38 → length (line k (Ok a)) ≤ longest
  aces_long a r g b =
      let red : length (signed a.red.0) ≤ 13 = length_signed 11 a.red.0 (omega (arith, r)) in
      let green : length (signed a.green.0) ≤ 13 = length_signed 11 a.green.0 (omega (arith, g)) in
      let blue : length (signed a.blue.0) ≤ 13 = length_signed 11 a.blue.0 (omega (arith, b)) in
      simp length-append (omega (arith, index_long, red, green, blue))

  pub refused_long : (why : Refusal) → length (line k (Err why)) ≤ longest
  refused_long why = let n : length (decimal (number_of why)) ≤ 2 = length_decimal 1 (number_of why) (number_bounds why).1 in simp length-append (omega (arith, index_long, n))

pub tail_long : (n : ℕ) → n < 10 → length (tail_line n) ≤ longest_tail
tail_long n h = go (eqb n 0)
  where
    go : (b : Bool) → length (choose b [] (line_of (tail ∷ decimal n ∷ []))) ≤ longest_tail
    go true = omega arith
    go false = rw (length-append (decimal n) (10 ∷ [])) (omega (arith, length_decimal 0 n h))
