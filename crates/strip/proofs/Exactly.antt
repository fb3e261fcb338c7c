-- A strip of whole records, with room for what is written, is converted exactly where each record passes.
-- Assumes nothing.
use Rattle.std.specs.Prelude.{Ok}
use mathlib.Core.Logic.{◌↔◌}
use mathlib.Core.Path.{◌≡◌, ap, ◌∙◌}
use mathlib.Core.List.{List, [], ◌∷◌}
use Prim.Native.Nat.{ℕ, ◌*◌, ◌≤◌, ◌<◌}
use native.Mathlib.Nat.{zero-add}
use lib.ListN.{length}
use Rattle.rules.specs.Result.{done, strip_result}
use Rattle.rules.specs.Strip.{Conversion, record_check, record_at, scan_of, answer_of, result_of}
use Rattle.rules.proofs.Results.{done_answer}
use Rattle.strip_passes.proofs.FirstPass.{scan_passes}
use Rattle.strip.proofs.First.{all_done}
use Rattle.strip.proofs.Join.{whole_answer}

module _ (c : Conversion) (p : 0 < c.from) (input output : List ℕ) (n : ℕ) (l : length input ≡ n * c.from) (room : n * c.to ≤ length output) where
  scanned : answer_of c input output ≡ scan_of c n input
  scanned = whole_answer c input output n p l room

  -- IT IS CONVERTED exactly where each record passes
  pub converted_exactly : (result_of c input output ≡ done (n ∷ [])) ↔ ((k : ℕ) → k < n → record_check c (record_at c.from k input) ≡ Ok tt)
  converted_exactly = (
    λ e k i. scan_passes (record_check c) c.from n input 0 n (done_answer (answer_of c input output) n e ∙ scanned) k i,
    λ each. ap strip_result (scanned ∙ all_done (record_check c) c.from n input 0 each ∙ ap Ok (zero-add n)),
  )
