-- The second pass: a loop that writes each record in its own stretch.
-- Assumes nothing.
use Rattle.std.specs.Prelude.{Ok}
use mathlib.Core.Path.{◌≡◌, refl, ap, ◌∙◌, subst}
use mathlib.Core.List.{List, ◌++◌}
use Prim.Native.Nat.{ℕ, ◌+◌, ◌*◌, ◌≤◌, ◌<◌}
use native.Mathlib.Nat.{le_antisymm, mul-le-mul_right, zero-mul}
use native.Mathlib.Omega.{arith}
use lib.ListN.{length, drop, length-append, length-drop}
use Rattle.rules.specs.Strip.{Conversion, records, record_at, written, output_after}
use Rattle.little_endian.proofs.Stretch.{pasted, behind}
use Rattle.rules.proofs.Strips.{next, records_more, written_append, written_one, length_written}

-- where the pass stands at the k-th of n records: what is written so far, and the rest of the output as it was
pub record Filled (c : Conversion) (n : ℕ) (input output : List ℕ) (k : ℕ) (after : List ℕ) : Type 0 where
  pub upto : k ≤ n
  pub long : length after ≡ length output
  pub is : after ≡ written c.bytes (records c.from k input) ++ drop (k * c.to) output

module _ (c : Conversion) (long : (r : List ℕ) → length (c.bytes r) ≡ c.to) (n : ℕ) (input output : List ℕ) (room : n * c.to ≤ length output) where
  pub filled_start : Filled c n input output 0 output
  unfolding written records
  filled_start = record { upto = omega arith; long = refl; is = rw zero-mul }

  filled_long : (k : ℕ) → k ≤ n → length (written c.bytes (records c.from k input) ++ drop (k * c.to) output) ≡ length output
  filled_long k h =
      let le : k * c.to ≤ n * c.to = mul-le-mul_right c.to h in
      rw (length-append, length_written c.bytes c.to long, length-drop) (omega arith)

  written_more : (k : ℕ) → written c.bytes (records c.from (k + 1) input) ≡ written c.bytes (records c.from k input) ++ c.bytes (record_at c.from k input)
  written_more k = rw (records_more, written_append, written_one)

  -- the k-th stretch, `&mut output[k * size..k * size + size]`, comes back with what is to be written for the k-th record
  pub filled_more : (k size : ℕ) (after part : List ℕ) {r : List ℕ} → size ≡ c.to → k < n → Filled c n input output k after
      → r ≡ record_at c.from k input → part ≡ c.bytes r → Filled c n input output (k + 1) (pasted after (k * size) (k * size + size) part)
  filled_more k size after part q h w er e =
      let W : List ℕ = written c.bytes (records c.from k input) in
      let lw : length W ≡ k * c.to = length_written c.bytes c.to long c.from k input in
      let r : pasted after (k * c.to) (k * c.to + c.to) part ≡ written c.bytes (records c.from (k + 1) input) ++ drop ((k + 1) * c.to) output =
      behind W output after part (k * c.to) c.to lw w.is ∙ rw (written_more k, next k c.to, e, er) in
      rw q (record { upto = omega arith; long = ap length r ∙ filled_long (k + 1) (omega arith); is = r })

  -- every record is written
  pub filled_end : (k : ℕ) (after : List ℕ) → n ≤ k → Filled c n input output k after → after ≡ output_after c input output (Ok n)
  unfolding output_after
  filled_end k after h w =
      subst (λ (m : ℕ). after ≡ written c.bytes (records c.from m input) ++ drop (m * c.to) output) (le_antisymm w.upto h) w.is
