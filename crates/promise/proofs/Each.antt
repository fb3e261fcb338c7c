-- Any conversion: a strip whose records pass is converted, and what is written for each record is R to it.
-- Assumes nothing.
use Rattle.std.specs.Prelude.{Ok}
use mathlib.Core.Path.{◌≡◌, sym, ap, ◌∙◌, subst}
use mathlib.Core.List.{List}
use Prim.Native.Nat.{ℕ, ◌*◌, ◌≤◌, ◌<◌}
use lib.ListN.{length, drop}
use Rattle.rules.specs.Refusal.{Answer}
use Rattle.rules.specs.Strip.{Conversion, record_check, record_at, answer_of, output_after}
use Rattle.rules.proofs.Results.{done_answer}
use Rattle.strip.proofs.Exactly.{converted_exactly}
use Rattle.promise.specs.Each.{ConvertedEach}
use Rattle.promise.proofs.Strips.{written_at}

pub each_converted : (c : Conversion) → ((r : List ℕ) → length (c.bytes r) ≡ c.to) → 0 < c.from → (R : (r out : List ℕ) → Type 0) (input output : List ℕ) (n : ℕ)
    → length input ≡ n * c.from
    → ((k : ℕ) → k < n → record_check c (record_at c.from k input) ≡ Ok tt)
    → ((k : ℕ) → k < n → R (record_at c.from k input) (c.bytes (record_at c.from k input)))
    → n * c.to ≤ length output
    → ConvertedEach c R input output n
unfolding output_after
each_converted c long p R input output n l passes right room =
    let e = (converted_exactly c p input output n l room).1 passes in
    record {
      answers = e;
      each = λ k i.
          subst (R (record_at c.from k input))
          (sym (ap (λ (x : Answer). record_at c.to k (output_after c input output x)) (sym (done_answer (answer_of c input output) n e)) ∙ written_at c.bytes c.to long c.from n input (drop (n * c.to) output) k i))
          (right k i);
    }
