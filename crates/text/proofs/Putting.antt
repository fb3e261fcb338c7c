-- Text put into a buffer, part behind part.
-- Assumes nothing.
use mathlib.Core.Path.{◌≡◌, sym, ap, ◌∙◌}
use mathlib.Core.List.{List, [], ◌∷◌, ◌++◌, append_assoc}
use Prim.Native.Nat.{ℕ, ◌+◌, ◌<◌}
use native.Mathlib.Nat.{add-zero}
use native.Mathlib.Numerals.{add-one}
use native.Mathlib.Omega.{arith}
use lib.ListN.{length, take, drop, set, take-append-drop, length-append, length-take, length-drop}
use lib.Seq.{drop-drop, take_at, drop_at, set_split, length-take-le}
use Rattle.text.specs.Put.{Room, Put}

-- nothing is put
pub put_none : (buffer : List ℕ) (at : ℕ) → Put [] buffer at buffer at
put_none buffer at = record { ends = sym (add-zero at); is = sym (take-append-drop at buffer) }

-- one byte
pub put_one : (buffer : List ℕ) (at b : ℕ) → at < length buffer → Put (b ∷ []) buffer at (set buffer at b) (at + 1)
put_one buffer at b h = record { ends = ap (λ (n : ℕ). at + n) (omega arith); is = rw add-one (set_split buffer at b h) }

-- the buffer keeps its length
pub put_length : {text buffer after : List ℕ} {at end : ℕ} → Room text buffer at → Put text buffer at after end → length after ≡ length buffer
put_length {text} {buffer} {at = at} {end} r p =
    ap length p.is ∙ simp (length-append, length-take, length-drop) (omega (arith, r.within, p.ends))

-- ---- a text of two parts
module _ (t u : List ℕ) {buffer : List ℕ} {at : ℕ} (r : Room (t ++ u) buffer at) where
  pub room_first : Room t buffer at
  room_first = record { within = omega (arith, r.within, length-append t u) }

  module _ {after : List ℕ} {end : ℕ} (p : Put t buffer at after end) where
    pub room_next : Room u after end
    room_next = record { within = omega (arith, r.within, length-append t u, p.ends, put_length room_first p) }

    front : length (take at buffer ++ t) ≡ end
    front = rw (length-append, length-take-le at buffer (omega (arith, r.within))) (sym p.ends)

    parts : after ≡ (take at buffer ++ t) ++ drop end buffer
    parts = p.is ∙ sym (append_assoc (take at buffer) t (drop end buffer))

    pub put_both : {last : List ℕ} {e : ℕ} → Put u after end last e → Put (t ++ u) buffer at last e
    put_both {last} {e} q =
        record {
          ends = omega (arith, p.ends, q.ends, length-append t u);
          is = q.is ∙ rw (q.ends, ← drop-drop (length u) end after, parts, take_at (take at buffer ++ t) (drop end buffer) end front, drop_at (take at buffer ++ t) (drop end buffer) end front, drop-drop) (simp append_assoc);
        }
