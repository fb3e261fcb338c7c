-- Two conversions of the same records, of which the second gives what the first gives for each record that the first does not refuse: then it does
-- so with a strip.
-- Assumes nothing.
use Rattle.std.specs.Prelude.{Ok}
use mathlib.Core.Path.{◌≡◌, refl}
use mathlib.Core.List.{List, [], ◌∷◌}
use Prim.Native.Nat.{ℕ, suc, ◌<◌}
use Rattle.rules.specs.Strip.{Conversion, record_check, records, written, scan, answer_of, output_after}
use Rattle.strip_passes.proofs.FirstPass.{go_on}
use Rattle.strip.proofs.Back.{done_whole, whole_done}

-- d for records of the sizes of c
abbrev pub sized : (c d : Conversion) → Conversion
sized c d = record { from = c.from; to = c.to; setting = d.setting; inner = d.inner; bytes = d.bytes }

module _ (c d : Conversion) (same : (r : List ℕ) → record_check c r ≡ Ok tt → (record_check d r ≡ Ok tt) × (d.bytes r ≡ c.bytes r)) where
  same_records : (rs : List (List ℕ)) (k n : ℕ) → Ok n ≡ scan (record_check c) k rs → (Ok n ≡ scan (record_check d) k rs) × (written d.bytes rs ≡ written c.bytes rs)
  unfolding scan written
  same_records [] k n e = (e, refl)
  same_records (r ∷ rs) k n e =
      let on = go_on (record_check c) r k n (scan (record_check c) (suc k) rs) e in
      let here = same r on.0 in
      let later = same_records rs (suc k) n on.1 in
      (rw here.0 later.0, rw (here.1, later.1))

  -- WHERE THE FIRST CONVERTS, the second does the same
  pub same_converted : 0 < c.from → (input output : List ℕ) (n : ℕ) → Ok n ≡ answer_of c input output
      → (Ok n ≡ answer_of (sized c d) input output) × (output_after (sized c d) input output (Ok n) ≡ output_after c input output (Ok n))
  unfolding output_after
  same_converted p input output n e =
      let w = done_whole c input output n e in
      let s = same_records (records c.from n input) 0 n w.passes in
      (whole_done (sized c d) input output n p (record { long = w.long; room = w.room; passes = s.0 }), rw s.1)
