-- `put_ok` meets its contract: the word, and each number with the byte behind it.
use Rattle.std.proofs.Common.{List, ◌++◌, ℕ, ℤ, w64, FitsSigned, rules}
use Rattle.whole.proofs.Words.{read_back, read_back_lem}
use Rattle.text.specs.Put.{Room, Put}
use Rattle.text.proofs.Putting.{room_next, put_both}
use Rattle.rules.specs.Decimal.{signed}
use Rattle.rules.specs.Lister.{followed, ok}
use Rattle.lister_line.proofs.put_ok.Goals as goal

abbrev word : List ℕ
word = followed ok 32

-- what is put for a number that fits
number_put : {x : ℤ} (behind : ℕ) {before after : List ℕ} {at end : ℕ} → FitsSigned w64 x → Put (followed (signed (read_back x)) behind) before at after end → Put (followed (signed x) behind) before at after end
number_put behind f h = rw (read_back_lem f) at h

pub put_signed_number-requires : goal.put_signed_number-requires
put_signed_number-requires c =
    let a = c.args.a in
    let fr : FitsSigned w64 a.red.0 = search rules in
    let fg : FitsSigned w64 a.green.0 = search rules in
    let fb : FitsSigned w64 a.blue.0 = search rules in
    let red = followed (signed a.red.0) 32 in
    let green = followed (signed a.green.0) 32 in
    let blue = followed (signed a.blue.0) 10 in
    rw (read_back_lem fb)
    (room_next green blue
    (room_next red (green ++ blue) (room_next word (red ++ (green ++ blue)) c.requires c.put_word-red.ensures) (number_put 32 fr c.put_signed_number-green.ensures))
    (number_put 32 fg c.put_signed_number-blue.ensures))

pub returns : goal.returns
returns c =
    let a = c.args.a in
    let fr : FitsSigned w64 a.red.0 = search rules in
    let fg : FitsSigned w64 a.green.0 = search rules in
    let fb : FitsSigned w64 a.blue.0 = search rules in
    let red = followed (signed a.red.0) 32 in
    let green = followed (signed a.green.0) 32 in
    let blue = followed (signed a.blue.0) 10 in
    let after_word : Room (red ++ (green ++ blue)) c.put_word-red.new.out c.put_word-red.result =
    room_next word (red ++ (green ++ blue)) c.requires c.put_word-red.ensures in
    let red_put = number_put {x = a.red.0} 32 fr c.put_signed_number-green.ensures in
    put_both word (red ++ (green ++ blue)) c.requires c.put_word-red.ensures
    (put_both red (green ++ blue) after_word red_put
    (put_both green blue (room_next red (green ++ blue) after_word red_put) (number_put 32 fg c.put_signed_number-blue.ensures) (number_put 10 fb c.put_signed_number.ensures)))
