-- The digits of the tenth, and the last.
use Rattle.std.proofs.Common.{List, [], ◌∷◌, ◌++◌, ℕ, ◌/◌, ◌%◌, ◌≤◌, ◌<◌, arith}
use Rattle.text.specs.Put.{Room}
use Rattle.text.proofs.Digits.{decimal_small, decimal_large}
use Rattle.text.proofs.Putting.{room_first, room_next, put_both}
use Rattle.rules.specs.Decimal.{digit, decimal}
use Rattle.text.proofs.+put_decimal.Goals as goal

-- room for one digit, and for the digits of the tenth and the last
small_room : {n at : ℕ} {out : List ℕ} → n < 10 → Room (decimal n) out at → Room (digit n ∷ []) out at
small_room {n} h r = rw (decimal_small n h) at r

large_room : {n at : ℕ} {out : List ℕ} → 10 ≤ n → Room (decimal n) out at → Room (decimal (n / 10) ++ (digit (n % 10) ∷ [])) out at
large_room {n} h r = rw (decimal_large n h) at r

pub put_byte-requires : goal.put_byte-requires
put_byte-requires t c = small_room (omega arith) c.requires

pub returns-then-n-lt10 : goal.returns-then-n-lt10
returns-then-n-lt10 t c = rw (decimal_small c.args.n (omega arith)) c.put_byte.ensures

pub put_decimal-last-requires : goal.put_decimal-last-requires
put_decimal-last-requires t c =
    let n = c.args.n in
    (omega arith, room_first (decimal (n / 10)) (digit (n % 10) ∷ []) (large_room (omega arith) c.requires))

pub put_byte-requires-2 : goal.put_byte-requires-2
put_byte-requires-2 t c =
    let n = c.args.n in
    room_next (decimal (n / 10)) (digit (n % 10) ∷ []) (large_room (omega arith) c.requires) c.put_decimal-last.ensures

pub returns : goal.returns
returns t c =
    let n = c.args.n in
    let h : 10 ≤ n = omega arith in
    rw (decimal_large n h)
    (put_both (decimal (n / 10)) (digit (n % 10) ∷ []) (large_room h c.requires) c.put_decimal-last.ensures c.put_byte-2.ensures)
