-- `put_signed` meets its contract: below 0 the sign first, then the digits of the magnitude.
use Rattle.std.proofs.Common.{◌≡◌, true, ap, ◌∙◌, [], ◌∷◌, ◌++◌, pos, nat_abs}
use lib.Signed.{lt_z}
use Rattle.whole.proofs.Words.{read_back_lem}
use Rattle.text.specs.Put.{Room}
use Rattle.text.proofs.Digits.{signed_below}
use Rattle.text.proofs.Putting.{put_both}
use Rattle.rules.specs.Decimal.{decimal}
use Rattle.text.proofs.put_signed.Goals as goal

pub returns-then-z-lt0 : goal.returns-then-z-lt0
returns-then-z-lt0 c =
    let z = c.args.z in
    let below : lt_z z (pos 0) ≡ true = rw (read_back_lem c.ranges.z) at c.if-z-lt0.true in
    let room : Room ((45 ∷ []) ++ decimal (nat_abs z)) c.args.out.now c.args.at = rw (signed_below z below) at c.requires in
    let size : c.unsigned_abs.result ≡ nat_abs z = c.unsigned_abs.ensures.value ∙ ap nat_abs (read_back_lem c.ranges.z) in
    rw (signed_below z below)
    (put_both (45 ∷ []) (decimal (nat_abs z)) room c.put_byte-then.ensures (rw size at c.put_decimal.ensures))
