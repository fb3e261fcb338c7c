-- `Decoder::log_c` meets its contract: field by field.
use Rattle.std.proofs.Common.{◌≡◌, ap, ◌∙◌, arith, ℕ, ℤ, ◌^◌, ◌<◌}
use Rattle.whole.specs.Parts.{up, dn}
use Rattle.whole.proofs.Reflect.{at}
use Rattle.whole.proofs.Words.{fits_z, read_back, read_back_lem}
use Rattle.curves.specs.LogC.{constants_of}
use Rattle.decode.proofs.Program.{decoder_is}
use Rattle.decode.proofs.decoder.Decoder.log_c.Goals as goal

-- what is read back of a small number is that number
part_is : (part : ℤ → ℕ) (z : ℤ) (n : ℕ) → up z < 2 ^ 21 → dn z < 2 ^ 21 → n ≡ part (read_back z) → n ≡ part z
part_is part z n h g e = e ∙ ap part (read_back_lem (fits_z (at z) (omega arith) (omega arith)))

pub returns : goal.returns
returns c =
    let k = c.args.k in
    let above_f : c.above_zero-f_above.result ≡ up k.f = part_is up k.f _ (omega (arith, c.requires.f_above)) (omega (arith, c.requires.f_below)) c.above_zero-f_above.ensures in
    let below_f : c.below_zero-f_below.result ≡ dn k.f = part_is dn k.f _ (omega (arith, c.requires.f_above)) (omega (arith, c.requires.f_below)) c.below_zero-f_below.ensures in
    let above_b : c.above_zero-b_above.result ≡ up k.b = part_is up k.b _ c.requires.b_above c.requires.b_below c.above_zero-b_above.ensures in
    let below_b : c.below_zero-b_below.result ≡ dn k.b = part_is dn k.b _ c.requires.b_above c.requires.b_below c.below_zero-b_below.ensures in
    decoder_is (constants_of k) c.requires.a_least c.args.last _ _ _ _
    (rw (above_f, below_f) at c.first_step.ensures)
    (rw (above_b, below_b) at c.bias.ensures)
    (rw (above_f, below_f) at c.toe_added.ensures)
    c.toe_divisor.ensures
