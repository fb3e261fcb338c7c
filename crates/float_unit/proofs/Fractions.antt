-- The reading of a float depends on its value alone: of the float n / d, or minus it, it is `read_at`.
-- Assumes nothing.
use Rattle.std.specs.Prelude.{Err, Ok}
use Rattle.rules.specs.declared.Scene.{Scene}
use mathlib.Core.Bool.{Bool, true, false}
use mathlib.Core.Path.{◌≡◌, refl, sym, ap, ◌∙◌}
use Prim.Native.Nat.{ℕ, ◌+◌, ◌-◌, ◌*◌, ◌/◌, ◌%◌, ◌^◌, ◌≤◌, ◌<◌}
use native.Mathlib.Nat.{mul-le-mul_right, le_of_mul-le-mul_right, div-add-mod', mod-lt}
use native.Mathlib.Omega.{arith}
use borrow.Author.Tests.{le-leb, lt-leb}
use lib.Dec.{T, leb, leb→le, le→leb}
use lib.IntN.{ℤ, pos, ◌-ℤ◌}
use lib.Ieee.{Float, nan, inf, fin, up, down}
use lib.Ieee.Fits.{down_pos}
use lib.Ieee.Exact.{HasValue}
use Rattle.whole.proofs.Reflect.{at, sub, dif}
use Rattle.rules.specs.declared.Refusal.TheVariants.{FloatOutOfRange}
use Rattle.rules.specs.Choice.{choose}
use Rattle.rules.specs.Fraction.{whole, ◌*ℚ◌, nearest}
use Rattle.rules.specs.Float.{signed, in_range, value_of, float_check, units_of}
use Rattle.rules.proofs.Nearest.{nearest_is, nearest_same}
use Rattle.rules.specs.Refusal.{OrRefusal, refuse_unless}
use Rattle.float_unit.specs.Reading.{units_after, read_answer}

-- the nearest unit of n / d, or of minus it
abbrev pub units_at : Bool → (n d : ℕ) → ℤ
units_at s n d = nearest (signed s n d *ℚ whole (2 ^ 24))

abbrev pub read_at : Bool → (n d : ℕ) → OrRefusal Scene
read_at s n d = units_after (refuse_unless (in_range (signed s n d)) FloatOutOfRange) (record { 0 = units_at s n d })

-- ---- the range
both : (b : Bool) → choose b true false ≡ b
both true = refl
both false = refl

pub range_is : (s : Bool) (n d : ℕ) → in_range (signed s n d) ≡ leb n (65536 * d)
range_is false n d = λ i. choose (low i) (leb (left i) (right i)) false
  where
    low : leb (0 * d + 0 * 1) (n * 1 + 65536 * d) ≡ true
    low = le-leb (0 * d + 0 * 1) (n * 1 + 65536 * d) (omega arith)

    left : n * 1 + 0 * d ≡ n
    left = omega arith

    right : 65536 * d + 0 * 1 ≡ 65536 * d
    right = omega arith
range_is true n d = (λ i. choose (leb (left i) (right i)) (high i) false) ∙ both (leb n (65536 * d))
  where
    high : leb (0 * 1 + 0 * d) (65536 * d + n * 1) ≡ true
    high = le-leb (0 * 1 + 0 * d) (65536 * d + n * 1) (omega arith)

    left : 0 * d + n * 1 ≡ n
    left = omega arith

    right : 0 * 1 + 65536 * d ≡ 65536 * d
    right = omega arith

pub same_test : (a b : Bool) → (T a → T b) → (T b → T a) → a ≡ b
same_test true true p q = refl
same_test true false p q = absurd (p tt)
same_test false true p q = absurd (q tt)
same_test false false p q = refl

-- n / d and n' / d' are equal
module _ (n d n' d' : ℕ) (pos : 0 < d) (pos' : 0 < d') (e : n * d' ≡ n' * d) where
  within : (k : ℕ) → n ≤ k * d → n' ≤ k * d'
  within k h = let w : n * d' ≤ k * d * d' = mul-le-mul_right d' h in le_of_mul-le-mul_right (omega arith) pos

pub range_same : (s : Bool) (n d n' d' : ℕ) → 0 < d → 0 < d' → n * d' ≡ n' * d → in_range (signed s n d) ≡ in_range (signed s n' d')
range_same s n d n' d' p p' e =
    range_is s n d
    ∙ same_test (leb n (65536 * d)) (leb n' (65536 * d'))
    (λ t. le→leb n' (65536 * d') (within n d n' d' p p' e 65536 (leb→le n (65536 * d) t)))
    (λ t. le→leb n (65536 * d) (within n' d' n d p' p (sym e) 65536 (leb→le n' (65536 * d') t)))
    ∙ sym (range_is s n' d')

-- ---- the nearest unit
pub units_same : (s : Bool) (n d n' d' : ℕ) → 0 < d → 0 < d' → n * d' ≡ n' * d → units_at s n d ≡ units_at s n' d'
units_same false n d n' d' p p' e = nearest_same (signed false n d *ℚ whole (2 ^ 24)) (signed false n' d' *ℚ whole (2 ^ 24)) (omega arith) (omega arith) (omega arith)
units_same true n d n' d' p p' e = nearest_same (signed true n d *ℚ whole (2 ^ 24)) (signed true n' d' *ℚ whole (2 ^ 24)) (omega arith) (omega arith) (omega arith)

pub read_same : (s : Bool) (n d n' d' : ℕ) → 0 < d → 0 < d' → n * d' ≡ n' * d → read_at s n d ≡ read_at s n' d'
read_same s n d n' d' p p' e =
    let r = range_same s n d n' d' p p' e in
    let u = units_same s n d n' d' p p' e in
    λ i. units_after (refuse_unless (r i) FloatOutOfRange) (record { 0 = u i })

pub read_at_lem : (x : Float) (s : Bool) (n d : ℕ) → 0 < d → HasValue x s n d → read_answer x ≡ read_at s n d
unfolding read_answer float_check units_of value_of
read_at_lem nan s n d p v = elim v [ ]
read_at_lem (inf t) s n d p v = elim v [ ]
read_at_lem (fin t m e) s n d p v = read_same t (m * up e) (down e) n d (down_pos e) p v.1 ∙ ap (λ (b : Bool). read_at b n d) v.0

-- ---- what `read_at` is
pub read_outside : (s : Bool) (n d : ℕ) → 65536 * d < n → read_at s n d ≡ Err FloatOutOfRange
read_outside s n d h = rw (range_is s n d, lt-leb n (65536 * d) h)

pub read_inside : (s : Bool) (n d : ℕ) (y : ℤ) → n ≤ 65536 * d → units_at s n d ≡ y → read_at s n d ≡ Ok (record { 0 = y })
read_inside s n d y h e = rw (range_is s n d, le-leb n (65536 * d) h) (ap (λ (z : ℤ). Ok (record { 0 = z })) e)

-- less than half a unit
pub read_small : (s : Bool) (n d : ℕ) → n * 33554432 < d → read_at s n d ≡ Ok (record { 0 = pos 0 })
read_small s n d h = read_inside s n d (pos 0) (omega arith) (go s)
  where
    go : (s : Bool) → units_at s n d ≡ pos 0
    go false = nearest_is (signed false n d *ℚ whole (2 ^ 24)) (pos 0) 0 0 refl (omega arith) (omega arith)
    go true = nearest_is (signed true n d *ℚ whole (2 ^ 24)) (pos 0) 0 0 refl (omega arith) (omega arith)

-- n / 2h units: a half goes up, so away from 0 above it
pub read_plus : (n h : ℕ) → 0 < h → n ≤ 2199023255552 * h → read_at false n (16777216 * (2 * h)) ≡ Ok (record { 0 = pos ((n + h) / (2 * h)) })
read_plus n h p l =
    let k = (n + h) / (2 * h) in
    let r = (n + h) % (2 * h) in
    let e : k * (2 * h) + r ≡ n + h = div-add-mod' (n + h) (2 * h) in
    let u : r < 2 * h = mod-lt (n + h) (omega arith) in
    read_inside false n (16777216 * (2 * h)) (pos k) (omega arith)
    (nearest_is (signed false n (16777216 * (2 * h)) *ℚ whole (2 ^ 24)) (pos k) k 0 refl (omega arith) (omega arith))

-- and towards 0 below it
pub read_minus : (n h : ℕ) → 0 < h → 0 < n → n ≤ 2199023255552 * h → read_at true n (16777216 * (2 * h)) ≡ Ok (record { 0 = pos 0 -ℤ pos ((n + h - 1) / (2 * h)) })
read_minus n h p q l =
    let k = (n + h - 1) / (2 * h) in
    let r = (n + h - 1) % (2 * h) in
    let e : k * (2 * h) + r ≡ n + h - 1 = div-add-mod' (n + h - 1) (2 * h) in
    let u : r < 2 * h = mod-lt (n + h - 1) (omega arith) in
    read_inside true n (16777216 * (2 * h)) (pos 0 -ℤ pos k) (omega arith)
    (nearest_is (signed true n (16777216 * (2 * h)) *ℚ whole (2 ^ 24)) (pos 0 -ℤ pos k) 0 k (omega (arith, dif (sub (at (pos 0)) (at (pos k))))) (omega arith) (omega arith))
