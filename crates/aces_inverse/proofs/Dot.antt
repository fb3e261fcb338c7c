-- Rows of three integers, and their products.
-- Assumes nothing.
use mathlib.Core.Path.{◌≡◌}
use mathlib.Core.List.{List}
use Prim.Native.Nat.{ℕ, ◌*◌}
use native.Mathlib.Omega.{arith}
use lib.IntN.{ℤ, pos, ◌+ℤ◌, ◌*ℤ◌}
use Rattle.whole.proofs.Weight as whole
use Rattle.whole.proofs.Reflect.{at, add, mul, eq_z}
use Rattle.whole.proofs.Near.{Near, near_add, near_mul, near_more}
use Rattle.rules.specs.Matrix.{entry}
use Rattle.row_product.specs.Row.{plain}

pub record Three : Type 0 where
  pub red : ℤ
  pub green : ℤ
  pub blue : ℤ

abbrev pub three : ℤ → ℤ → ℤ → Three
three x y z = record { red = x; green = y; blue = z }

-- a row times three numbers
abbrev pub dot : Three → Three → ℤ
dot n v = n.red *ℤ v.red +ℤ n.green *ℤ v.green +ℤ n.blue *ℤ v.blue

abbrev pub weight : Three → ℕ
weight n = whole.weight n.red n.green n.blue

-- each number is at most k from the other's
pub record Near3 (u v : Three) (k : ℕ) : Type 0 where
  pub red : Near u.red v.red k
  pub green : Near u.green v.green k
  pub blue : Near u.blue v.blue k

pub dot_near : (n : Three) {u v : Three} {k : ℕ} → Near3 u v k → Near (dot n u) (dot n v) (weight n * k)
dot_near n h = near_more (omega arith) (near_add (near_add (near_mul n.red h.red) (near_mul n.green h.green)) (near_mul n.blue h.blue))

-- ---- a matrix's rows and columns
abbrev pub row_at : List (List ℤ) → ℕ → Three
row_at m i = three (entry (plain m) i 0) (entry (plain m) i 1) (entry (plain m) i 2)

abbrev pub column_at : List (List ℤ) → ℕ → Three
column_at m j = three (entry (plain m) 0 j) (entry (plain m) 1 j) (entry (plain m) 2 j)

-- the row products of three numbers, and a row times each column
abbrev pub times : List (List ℤ) → Three → Three
times m u = three (dot (row_at m 0) u) (dot (row_at m 1) u) (dot (row_at m 2) u)

abbrev pub before : Three → List (List ℤ) → Three
before n m = three (dot n (column_at m 0)) (dot n (column_at m 1)) (dot n (column_at m 2))

-- by parts: omega takes at most 64 products
turned : (n a u : ℤ) → n *ℤ (a *ℤ u) ≡ u *ℤ (n *ℤ a)
turned n a u = eq_z (mul (at n) (mul (at a) (at u))) (mul (at u) (mul (at n) (at a))) (omega arith)

gathered : (u x y z : ℤ) → u *ℤ (x +ℤ y +ℤ z) ≡ u *ℤ x +ℤ u *ℤ y +ℤ u *ℤ z
gathered u x y z = eq_z (mul (at u) (add (add (at x) (at y)) (at z))) (add (add (mul (at u) (at x)) (mul (at u) (at y))) (mul (at u) (at z))) (omega arith)

spread : (n a b c u v w : ℤ) → n *ℤ (a *ℤ u +ℤ b *ℤ v +ℤ c *ℤ w) ≡ u *ℤ (n *ℤ a) +ℤ v *ℤ (n *ℤ b) +ℤ w *ℤ (n *ℤ c)
spread n a b c u v w = rw (gathered n (a *ℤ u) (b *ℤ v) (c *ℤ w), turned n a u, turned n b v, turned n c w)

regrouped : (a b c d e f g h i : ℤ) → (a +ℤ b +ℤ c) +ℤ (d +ℤ e +ℤ f) +ℤ (g +ℤ h +ℤ i) ≡ (a +ℤ d +ℤ g) +ℤ (b +ℤ e +ℤ h) +ℤ (c +ℤ f +ℤ i)
regrouped a b c d e f g h i =
    eq_z (add (add (add (add (at a) (at b)) (at c)) (add (add (at d) (at e)) (at f))) (add (add (at g) (at h)) (at i)))
    (add (add (add (add (at a) (at d)) (at g)) (add (add (at b) (at e)) (at h))) (add (add (at c) (at f)) (at i)))
    (omega arith)

-- with the entries as variables
associated : (n u a b c : Three) → dot n (three (dot a u) (dot b u) (dot c u)) ≡ dot u (three (dot n (three a.red b.red c.red)) (dot n (three a.green b.green c.green)) (dot n (three a.blue b.blue c.blue)))
associated n u a b c =
    rw (
      spread n.red a.red a.green a.blue u.red u.green u.blue,
      spread n.green b.red b.green b.blue u.red u.green u.blue,
      spread n.blue c.red c.green c.blue u.red u.green u.blue,
      gathered u.red (n.red *ℤ a.red) (n.green *ℤ b.red) (n.blue *ℤ c.red),
      gathered u.green (n.red *ℤ a.green) (n.green *ℤ b.green) (n.blue *ℤ c.green),
      gathered u.blue (n.red *ℤ a.blue) (n.green *ℤ b.blue) (n.blue *ℤ c.blue),
    )
    (regrouped
    (u.red *ℤ (n.red *ℤ a.red)) (u.green *ℤ (n.red *ℤ a.green)) (u.blue *ℤ (n.red *ℤ a.blue))
    (u.red *ℤ (n.green *ℤ b.red)) (u.green *ℤ (n.green *ℤ b.green)) (u.blue *ℤ (n.green *ℤ b.blue))
    (u.red *ℤ (n.blue *ℤ c.red)) (u.green *ℤ (n.blue *ℤ c.green)) (u.blue *ℤ (n.blue *ℤ c.blue)))

pub times_before : (n u : Three) (m : List (List ℤ)) → dot n (times m u) ≡ dot u (before n m)
times_before n u m = associated n u (row_at m 0) (row_at m 1) (row_at m 2)

-- ---- three numbers times s
abbrev pub scaled : ℕ → Three → Three
scaled s v = three (pos s *ℤ v.red) (pos s *ℤ v.green) (pos s *ℤ v.blue)

swapped : (n s v : ℤ) → n *ℤ (s *ℤ v) ≡ s *ℤ (n *ℤ v)
swapped n s v = eq_z (mul (at n) (mul (at s) (at v))) (mul (at s) (mul (at n) (at v))) (omega arith)

pub dot_scaled : (s : ℕ) (n v : Three) → dot n (scaled s v) ≡ pos s *ℤ dot n v
dot_scaled s n v =
    rw (
      gathered (pos s) (n.red *ℤ v.red) (n.green *ℤ v.green) (n.blue *ℤ v.blue),
      swapped n.red (pos s) v.red,
      swapped n.green (pos s) v.green,
      swapped n.blue (pos s) v.blue,
    )
