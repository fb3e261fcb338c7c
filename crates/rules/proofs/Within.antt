-- Numbers at most e apart, and triples in every channel: as a test and as a fact; triples that differ by more in some channel; and the triple in
-- the middle of two.
-- Assumes nothing.
use mathlib.Core.Bool.{Bool, true, false}
use mathlib.Core.Logic.{◌↔◌, ◌⊎◌, inl, inr}
use mathlib.Core.Path.{◌≡◌, refl, sym, ap, subst}
use Prim.Native.Nat.{ℕ, suc, ◌*◌, ◌≤◌}
use native.Mathlib.Nat.{le_trans}
use native.Mathlib.Omega.{arith}
use lib.Dec.{T}
use lib.Ieee.Bits.{is_true}
use lib.IntN.{ℤ, pos, ◌+ℤ◌}
use lib.Signed.{le_z}
use Rattle.whole.proofs.Reflect.{at, add, le_n-of, le_z-of}
use Rattle.whole.proofs.Near.{Near, near_same, same_near, near_more, near_or_far, near_not_far}
use Rattle.whole.proofs.Middle.{middle, middle_near}
use Rattle.rules.specs.Triples.{Triple}
use Rattle.rules.specs.Choice.{choose}
use Rattle.rules.specs.WayBack.{within, within3, Differ}
use Rattle.rules.specs.Pixels.{triple}

both : (b c : Bool) → choose b c false ≡ true → (b ≡ true) × (c ≡ true)
both true true e = (refl, refl)
both true false e = absurd (subst T (sym e) tt)
both false c e = absurd (subst T (sym e) tt)

pub within_near : (e : ℕ) (x y : ℤ) → within e x y ≡ true → Near x y e
within_near e x y t =
    let h = both (le_z x (y +ℤ pos e)) (le_z y (x +ℤ pos e)) t in
    record {
      high = omega (arith, le_n-of (at x) (add (at y) (at (pos e))) (record { le = subst T (sym h.0) tt }));
      low = omega (arith, le_n-of (at y) (add (at x) (at (pos e))) (record { le = subst T (sym h.1) tt }));
    }

pub near_within : (e : ℕ) (x y : ℤ) → Near x y e → within e x y ≡ true
near_within e x y n =
    let h = is_true (le_z x (y +ℤ pos e)) (le_z-of (at x) (add (at y) (at (pos e))) (omega (arith, n.high))).le in
    let l = is_true (le_z y (x +ℤ pos e)) (le_z-of (at y) (add (at x) (at (pos e))) (omega (arith, n.low))).le in
    rw (h, l)

-- three numbers, each at most e from its own of three others
pub record NearTriple (a b : Triple) (e : ℕ) : Type 0 where
  pub red : Near a.red.0 b.red.0 e
  pub green : Near a.green.0 b.green.0 e
  pub blue : Near a.blue.0 b.blue.0 e

pub within3_near : (e : ℕ) (a b : Triple) → within3 e a b ≡ true → NearTriple a b e
unfolding within3
within3_near e a b t =
    let r = both (within e a.red.0 b.red.0) (choose (within e a.green.0 b.green.0) (within e a.blue.0 b.blue.0) false) t in
    let g = both (within e a.green.0 b.green.0) (within e a.blue.0 b.blue.0) r.1 in
    record {
      red = within_near e a.red.0 b.red.0 r.0;
      green = within_near e a.green.0 b.green.0 g.0;
      blue = within_near e a.blue.0 b.blue.0 g.1;
    }

pub near_within3 : (e : ℕ) (a b : Triple) → NearTriple a b e → within3 e a b ≡ true
unfolding within3
near_within3 e a b n =
    rw (near_within e a.red.0 b.red.0 n.red, near_within e a.green.0 b.green.0 n.green, near_within e a.blue.0 b.blue.0 n.blue)

-- at distance 0 they are equal
pub triple_same : {a b : Triple} → NearTriple a b 0 → a ≡ b
triple_same n =
    let r = near_same n.red in
    let g = near_same n.green in
    let b = near_same n.blue in
    λ i. record { red = record { 0 = r i }; green = record { 0 = g i }; blue = record { 0 = b i } }

pub same_triple : {a b : Triple} → a ≡ b → NearTriple a b 0
same_triple h =
    record {
      red = same_near (ap (λ (t : Triple). t.red.0) h);
      green = same_near (ap (λ (t : Triple). t.green.0) h);
      blue = same_near (ap (λ (t : Triple). t.blue.0) h);
    }

-- and so at any distance more
pub triple_more : (e : ℕ) {a b : Triple} → NearTriple a b 0 → NearTriple a b e
triple_more e n = record { red = near_more (omega arith) n.red; green = near_more (omega arith) n.green; blue = near_more (omega arith) n.blue }

pub within3_equal : (a b : Triple) → (within3 0 a b ≡ true) ↔ (a ≡ b)
within3_equal a b = (λ t. triple_same (within3_near 0 a b t), λ h. near_within3 0 a b (same_triple h))

-- they are at most e apart in every channel, or farther in some one
pub near_or_differ : (e : ℕ) (a b : Triple) → NearTriple a b e ⊎ Differ (suc e) a b
near_or_differ e a b =
    elim (near_or_far a.red.0 b.red.0 e) [
      | inr r ↦ inr (Differ.in_red r)
      | inl r ↦
          elim (near_or_far a.green.0 b.green.0 e) [
            | inr g ↦ inr (Differ.in_green g)
            | inl g ↦ elim (near_or_far a.blue.0 b.blue.0 e) [ inr h ↦ inr (Differ.in_blue h) | inl h ↦ inl (record { red = r; green = g; blue = h }) ]
          ]
    ]

pub near_not_differ : {e : ℕ} {a b : Triple} → NearTriple a b e → Differ (suc e) a b → ⊥
near_not_differ n (Differ.in_red h) = near_not_far n.red h
near_not_differ n (Differ.in_green h) = near_not_far n.green h
near_not_differ n (Differ.in_blue h) = near_not_far n.blue h

pub differ_less : {d e : ℕ} {a b : Triple} → d ≤ e → Differ e a b → Differ d a b
differ_less l (Differ.in_red h) = Differ.in_red (le_trans l h)
differ_less l (Differ.in_green h) = Differ.in_green (le_trans l h)
differ_less l (Differ.in_blue h) = Differ.in_blue (le_trans l h)

-- the triple in the middle of two
abbrev pub middle_triple : Triple → Triple → Triple
middle_triple a b = triple (middle a.red.0 b.red.0) (middle a.green.0 b.green.0) (middle a.blue.0 b.blue.0)

pub middle_triple_lem : (e : ℕ) {a b : Triple} → NearTriple a b (2 * e) → NearTriple (middle_triple a b) a e × NearTriple (middle_triple a b) b e
middle_triple_lem e n =
    let r = middle_near e n.red in
    let g = middle_near e n.green in
    let b = middle_near e n.blue in
    (record { red = r.0; green = g.0; blue = b.0 }, record { red = r.1; green = g.1; blue = b.1 })
