-- What a valid setting is: one of the curves, with one of its widths and one of its EI. A test that all of them pass is passed by a valid setting.
-- Assumes nothing.
use Rattle.std.specs.Prelude.{Err, Ok}
use mathlib.Core.Bool.{Bool, true, false}
use mathlib.Core.List.{List, [], ◌∷◌}
use mathlib.Core.Path.{◌≡◌, refl, sym, subst}
use Prim.Native.Nat.{ℕ}
use borrow.Author.Tests.{eqb-true, ne_eqb}
use lib.Dec.{T, eqb, eqb→eq}
use Rattle.rules.specs.declared.Setting.{Setting}
use Rattle.rules.specs.Refusal.{Check, then, refuse_unless}
use Rattle.rules.specs.declared.Refusal.{Refusal}
use Rattle.rules.specs.declared.CurveName.{CurveName}
use Rattle.rules.specs.declared.CurveName.TheVariants.{LogC2, LogC3, LogC4, Unknown}
use Rattle.rules.specs.declared.Refusal.TheVariants.{UnknownCurve, UnknownWidth, UnknownEi, NoMatrix}
use Rattle.rules.specs.Choice.{choose, member}
use Rattle.rules.specs.Setting.{named, known, widths_of, eis_of, setting_check, Valid, has_matrix, aces_check, ValidForAces}

-- ---- lists
abbrev pub for_all : List ℕ → (ℕ → Bool) → Bool
for_all [] p = true
for_all (n ∷ ns) p = choose (p n) (for_all ns p) false

pub first : (x y : Bool) → T (choose x y false) → T x
first true y h = tt
first false y h = h

pub others : (x y : Bool) → T (choose x y false) → T y
others true y h = h
others false y h = absurd h

pub for_one : (ns : List ℕ) (p : ℕ → Bool) → T (for_all ns p) → (n : ℕ) → T (member n ns) → T (p n)
for_one [] p h n m = absurd m
for_one (a ∷ ns) p h n m = go (eqb n a) refl m (for_one ns p (others (p a) (for_all ns p) h) n)
  where
    go : (x : Bool) → eqb n a ≡ x → T (choose x true (member n ns)) → (T (member n ns) → T (p n)) → T (p n)
    go true e m next = subst (λ (i : ℕ). T (p i)) (sym (eqb→eq n a (subst T (sym e) tt))) (first (p a) (for_all ns p) h)
    go false e m next = next m

-- ---- the three checks
IsRefused : Check → Type 0
IsRefused (Ok tt) = ⊥
IsRefused (Err r) = Unit {0}

pub passed_only : (x : Bool) (r : Refusal) → refuse_unless x r ≡ Ok tt → T x
unfolding IsRefused
passed_only true r e = tt
passed_only false r e = subst IsRefused e tt

pub refused_never : {A : Type 0} {r : Refusal} → ◌≡◌ {A = Check} (Err r) (Ok tt) → A
unfolding IsRefused
refused_never e = absurd (subst IsRefused e tt)

-- where two checks pass, each passes
pub both : (x y : Check) → then x y ≡ Ok tt → (x ≡ Ok tt) × (y ≡ Ok tt)
both (Ok tt) y e = (refl, e)
both (Err r) y e = refused_never e

both_passed : (x : Bool) (r : Refusal) (next : Check) → then (refuse_unless x r) next ≡ Ok tt → T x × (next ≡ Ok tt)
both_passed x r next e = let b = both (refuse_unless x r) next e in (passed_only x r b.0, b.1)

pub record Members (s : Setting) : Type 0 where
  pub curve : T (known (named s.curve))
  pub width : T (member s.width (widths_of (named s.curve)))
  pub ei : T (member s.ei (eis_of (named s.curve)))

pub members : (s : Setting) → Valid s → Members s
unfolding setting_check
members s v = record { curve = a.0; width = c.0; ei = passed_only (member s.ei (eis_of (named s.curve))) UnknownEi c.1 }
  where
    later : Check
    later = refuse_unless (member s.ei (eis_of (named s.curve))) UnknownEi

    a : T (known (named s.curve)) × (then (refuse_unless (member s.width (widths_of (named s.curve))) UnknownWidth) later ≡ Ok tt)
    a = both_passed (known (named s.curve)) UnknownCurve (then (refuse_unless (member s.width (widths_of (named s.curve))) UnknownWidth) later) v

    c : T (member s.width (widths_of (named s.curve))) × (later ≡ Ok tt)
    c = both_passed (member s.width (widths_of (named s.curve))) UnknownWidth later a.1

-- ---- what the name of a curve says of its number
abbrev pub HasName : ℕ → CurveName → Type 0
HasName n LogC2 = n ≡ 2
HasName n LogC3 = n ≡ 3
HasName n LogC4 = n ≡ 4
HasName n Unknown = known (named n) ≡ false

pub has_name : (n : ℕ) {c : CurveName} → named n ≡ c → HasName n c
has_name n e = subst (HasName n) e (go (eqb n 2) (eqb n 3) (eqb n 4) refl refl refl)
  where
    go : (x y z : Bool) → eqb n 2 ≡ x → eqb n 3 ≡ y → eqb n 4 ≡ z → HasName n (choose x LogC2 (choose y LogC3 (choose z LogC4 Unknown)))
    go true y z p q r = eqb-true n 2 p
    go false true z p q r = eqb-true n 3 q
    go false false true p q r = eqb-true n 4 r
    go false false false p q r = rw (p, q, r)

-- a valid setting names a curve
pub valid_named : {A : Type 0} (s : Setting) → Valid s → named s.curve ≡ Unknown → A
valid_named s v e = absurd (subst T (has_name s.curve e) (members s v).curve)

-- ---- curve 2 has the EIs of curve 3
pub same_eis : eis_of LogC2 ≡ eis_of LogC3
same_eis = refl

-- ---- a setting that is valid for ACES is valid, and its curve has a matrix
pub aces_valid : (s : Setting) → ValidForAces s → Valid s
unfolding aces_check
aces_valid s v = (both (setting_check s) (refuse_unless (has_matrix (named s.curve)) NoMatrix) v).0

aces_matrix : (s : Setting) → ValidForAces s → T (has_matrix (named s.curve))
unfolding aces_check
aces_matrix s v = passed_only (has_matrix (named s.curve)) NoMatrix (both (setting_check s) (refuse_unless (has_matrix (named s.curve)) NoMatrix) v).1

-- so a fact of each curve with a matrix is one of such a setting's
pub for_aces : (P : CurveName → Type 0) → P LogC3 → P LogC4 → (s : Setting) → ValidForAces s → P (named s.curve)
for_aces P a b s v = go (named s.curve) (aces_matrix s v)
  where
    go : (c : CurveName) → T (has_matrix c) → P c
    go LogC2 t = absurd t
    go LogC3 t = a
    go LogC4 t = b
    go Unknown t = absurd t

-- and a fact of the other names is one of every other number's
pub for_others : (P : CurveName → Type 0) → P LogC2 → P Unknown → (n : ℕ) → (n ≡ 3 → ⊥) → (n ≡ 4 → ⊥) → P (named n)
for_others P a b n f g = rw (ne_eqb n 3 f, ne_eqb n 4 g) (go (eqb n 2))
  where
    go : (x : Bool) → P (choose x LogC2 Unknown)
    go true = a
    go false = b

pub other_curve : {A : Type 0} (s : Setting) → ValidForAces s → (s.curve ≡ 3 → ⊥) → (s.curve ≡ 4 → ⊥) → A
other_curve {A} s v f g = for_others (λ c. T (has_matrix c) → A) (λ t. absurd t) (λ t. absurd t) s.curve f g (aces_matrix s v)

-- ---- every setting there is passes the test
abbrev pub curves : List ℕ
curves = 2 ∷ 3 ∷ 4 ∷ []

known_curve : (n : ℕ) → T (known (named n)) → T (member n curves)
known_curve n h = go (eqb n 2) (eqb n 3) (eqb n 4) h
  where
    go : (x y z : Bool) → T (known (choose x LogC2 (choose y LogC3 (choose z LogC4 Unknown)))) → T (choose x true (choose y true (choose z true false)))
    go true y z h = tt
    go false true z h = tt
    go false false true h = tt
    go false false false h = h

abbrev pub for_settings : (ℕ → ℕ → ℕ → Bool) → Bool
for_settings p = for_all curves (λ c. for_all (widths_of (named c)) (λ w. for_all (eis_of (named c)) (λ e. p c w e)))

pub for_valid : (p : ℕ → ℕ → ℕ → Bool) → T (for_settings p) → (s : Setting) → Valid s → T (p s.curve s.width s.ei)
for_valid p h s v =
    for_one (eis_of (named s.curve)) (λ e. p s.curve s.width e)
    (for_one (widths_of (named s.curve)) (λ w. for_all (eis_of (named s.curve)) (λ e. p s.curve w e))
    (for_one curves (λ c. for_all (widths_of (named c)) (λ w. for_all (eis_of (named c)) (λ e. p c w e))) h s.curve (known_curve s.curve (members s v).curve))
    s.width
    (members s v).width)
    s.ei
    (members s v).ei
