-- The room of a strip: an index below it has its record within the strip, and is below 4,096. And a record that is copied there.
-- Assumes nothing.
use mathlib.Core.Path.{◌≡◌}
use mathlib.Core.List.{List, [], ◌++◌, append-nil}
use Prim.Native.Nat.{ℕ, ◌+◌, ◌-◌, ◌*◌, ◌≤◌, ◌<◌}
use native.Mathlib.Omega.{arith}
use lib.ListN.{length, take, drop, length-take, drop_of_length-le}
use lib.Seq.{drop-drop, take-length}
use Rattle.little_endian.proofs.Stretch.{span, pasted}
use Rattle.rules.specs.Record.{pixel_size}
use Rattle.rules.specs.Reel.{reel_most, room_in, with_record}
use Rattle.rules.proofs.Reel.{room_in_lem}

pub record Within (strip : List ℕ) (i : ℕ) : Type 0 where
  pub most : i < reel_most
  pub ends : i * pixel_size + pixel_size ≤ length strip

pub within : (strip : List ℕ) (i : ℕ) → i < room_in strip → Within strip i
within strip i h = let room = room_in_lem strip in record { most = omega (arith, room.most, h); ends = omega (arith, room.fits, h) }

-- the stretch of a record, `&mut strip[i * 10..i * 10 + 10]`, comes back with the bytes of r copied into it
pub copied : (strip r : List ℕ) (i : ℕ) {part : List ℕ} → length r ≡ pixel_size
    → part ≡ take (length r) r ++ drop (length r) (take (i * pixel_size + pixel_size - i * pixel_size) (drop (i * pixel_size) strip))
    → pasted strip (i * pixel_size) (i * pixel_size + pixel_size) part ≡ with_record strip i r
copied strip r i long p =
    let part = take (i * pixel_size + pixel_size - i * pixel_size) (drop (i * pixel_size) strip) in
    let short : length part ≤ length r = simp length-take (omega (arith, long)) in
    let none : drop (length r) part ≡ [] = drop_of_length-le part short in
    rw (p, take-length, none, append-nil, span (i * pixel_size) pixel_size, drop-drop)
