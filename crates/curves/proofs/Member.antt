-- Whether a number is one of a list, as the library's `contains` says it.
-- Assumes nothing.
use mathlib.Core.Bool.{Bool, true, false}
use mathlib.Core.List.{List, [], ◌∷◌}
use mathlib.Core.Path.{◌≡◌, refl, sym}
use Prim.Native.Nat.{ℕ}
use borrow.Author.Tests.{eq-eqb, ne_eqb, eqb-true, eqb-false}
use lib.Dec.{eqb}
use Rattle.std.specs.List.{list_any}
use Rattle.rules.specs.Choice.{choose, member}

pub any_member : (x : ℕ) (l : List ℕ) → list_any (λ y. eqb y x) l ≡ member x l
any_member x [] = refl
any_member x (y ∷ ys) = go (eqb y x) refl (any_member x ys)
  where
    go : (b : Bool) → eqb y x ≡ b → list_any (λ y. eqb y x) ys ≡ member x ys → list_any (λ y. eqb y x) (y ∷ ys) ≡ choose (eqb x y) true (member x ys)
    go true e h = rw (e, eq-eqb x y (sym (eqb-true y x e)))
    go false e h = rw (e, ne_eqb x y (λ q. eqb-false y x e (sym q))) h
