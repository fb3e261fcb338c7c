-- Lists that are written stretch by stretch, each behind the one before.
-- Assumes nothing.
use mathlib.Core.Path.{◌≡◌, ap, ◌∙◌}
use mathlib.Core.List.{List, ◌++◌, append_assoc, append-nil}
use Prim.Native.Nat.{ℕ, ◌+◌, ◌-◌, ◌≤◌}
use native.Mathlib.Omega.{arith}
use lib.ListN.{length, take, drop, drop_of_length-le}
use lib.Seq.{drop-drop, take_at, drop_at}

pub span : (a b : ℕ) → a + b - a ≡ b
span a b = omega arith

-- a list after a stretch of it was lent, `&mut after[a..e]`, and came back as `part`
abbrev pub pasted : List ℕ → ℕ → ℕ → List ℕ → List ℕ
pasted after a e part = take a after ++ (part ++ drop (e - a) (drop a after))

-- a stretch that is written right behind what is written so far
pub behind : (W output after part : List ℕ) (a size : ℕ) → length W ≡ a → after ≡ W ++ drop a output → pasted after a (a + size) part ≡ (W ++ part) ++ drop (a + size) output
behind W output after part a size lw e =
    rw (e, take_at W (drop a output) a lw, drop_at W (drop a output) a lw, span a size, drop-drop, append_assoc)

-- the same, of a stretch that is known
pub onward : (a size : ℕ) (W output : List ℕ) {after part want : List ℕ} → length W ≡ a → after ≡ W ++ drop a output → part ≡ want
    → pasted after a (a + size) part ≡ (W ++ want) ++ drop (a + size) output
onward a size W output {after} {part} {want} lw e p =
    behind W output after part a size lw e ∙ ap (λ (v : List ℕ). (W ++ v) ++ drop (a + size) output) p

-- nothing is left behind what is written
pub emptied : (w l : List ℕ) (n : ℕ) → length l ≤ n → w ++ drop n l ≡ w
emptied w l n h = rw (drop_of_length-le l h) (append-nil w)
