-- The conversion: the tests of the strips, the first pass, and the second.
-- Assumes nothing.
use Rattle.std.specs.Prelude.{Err, Ok}
use mathlib.Core.Path.{◌≡◌, refl, ap, sym, ◌∙◌}
use mathlib.Core.List.{List}
use Prim.Native.Nat.{ℕ, ◌*◌, ◌/◌, ◌%◌, ◌≤◌, ◌<◌}
use borrow.Author.Tests.{eq-eqb, ne_eqb, le-leb, lt-leb}
use lib.ListN.{length, get_or}
use mir.Syntax.{w8}
use mir.Val.{Fits}
use Rattle.rules.specs.Refusal.{Answer, refused_at}
use Rattle.rules.specs.declared.Refusal.TheVariants.{PartialRecord, ShortOutput}
use Rattle.rules.specs.declared.RefusedAt.{RefusedAt}
use Rattle.rules.specs.Strip.{Conversion, scan_of, answer_of, output_after, Converts}
use Rattle.strip.specs.Lent.{LentBytes}
use Rattle.strip_passes.proofs.FirstPass.{counted}

-- ---- what owning a slice of u8 says of its elements
pub lent_bytes : {input output after : List ℕ} → ((i : ℕ) → Fits w8 (get_or input i 0)) → ((i : ℕ) → Fits w8 (get_or output i 0)) → ((i : ℕ) → Fits w8 (get_or after i 0))
    → LentBytes input output after
lent_bytes a b c = record { input_bytes = λ i. (a i).fits; output_bytes = λ i. (b i).fits; after_bytes = λ i. (c i).fits }

-- ---- the answer and the output
module _ (c : Conversion) (input output : List ℕ) where
  pub not_whole : (length input % c.from ≡ 0 → ⊥) → Converts c input output (refused_at PartialRecord 0) output
  unfolding answer_of output_after
  not_whole h = record { answers = rw (ne_eqb _ 0 h); writes = refl }

  pub too_short : length input % c.from ≡ 0 → length output < length input / c.from * c.to → Converts c input output (refused_at ShortOutput 0) output
  unfolding answer_of output_after
  too_short w h = record { answers = rw (eq-eqb _ 0 w, lt-leb _ _ h); writes = refl }

  module _ (w : length input % c.from ≡ 0) (room : length input / c.from * c.to ≤ length output) (a : Answer)
      (e : a ≡ scan_of c (length input / c.from) input) where
    scan_answers : a ≡ answer_of c input output
    unfolding answer_of
    scan_answers = rw (eq-eqb _ 0 w, le-leb _ _ room) e

    -- the output is as it is to be
    pub in_one_pass : (after : List ℕ) → after ≡ output_after c input output a → Converts c input output a after
    in_one_pass after p = record { answers = scan_answers; writes = p }

    -- a record is refused: the output is as it was
    pub refused : {x : RefusedAt} → a ≡ Err x → Converts c input output (Err x) output
    unfolding output_after
    refused h = record { answers = sym h ∙ scan_answers; writes = refl }

    -- none is: the count is of all records, each of which passes, and the output is what the second pass left
    module _ {m : ℕ} (h : a ≡ Ok m) where
      pub all_of_them : m ≡ length input / c.from
      all_of_them = counted c (length input / c.from) input a m e h

      pub each_passes : Ok m ≡ scan_of c m input
      each_passes = sym h ∙ e ∙ ap (λ (k : ℕ). scan_of c k input) (sym all_of_them)

      pub finished : {after : List ℕ} → after ≡ output_after c input output (Ok m) → Converts c input output (Ok m) after
      finished p = record { answers = sym h ∙ scan_answers; writes = p }
