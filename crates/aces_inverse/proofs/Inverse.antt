-- A matrix and its inverse: from three numbers at most e from the ACES numbers of three scene numbers the inverse leads to within 2 e + 1
-- units of these. And from the scene numbers that the inverse makes of three numbers the matrix leads to within one unit of these.
-- Assumes nothing.
use Rattle.std.specs.Prelude.{Ok}
use mathlib.Core.Bool.{Bool}
use mathlib.Core.List.{List, [], ◌∷◌}
use mathlib.Core.Path.{◌≡◌, refl, sym, subst}
use Prim.Native.Nat.{ℕ, zero, suc, ◌+◌, ◌-◌, ◌*◌, ◌^◌, ◌<◌, ◌≤◌}
use native.Mathlib.Nat.{mul-le-mul_right}
use native.Mathlib.Omega.{arith}
use lib.Dec.{T, leb, ltb, lit<, lit≤, leb→le, ltb→lt}
use lib.IntN.{ℤ, pos, nat_abs, ◌-ℤ◌, ◌*ℤ◌}
use Rattle.whole.specs.Parts.{up, dn}
use Rattle.whole.proofs.Floor.{half_bounds}
use Rattle.whole.proofs.Reflect.{at, add, mul, eq_z}
use Rattle.whole.proofs.Near.{Near, same_near, near_of, of_near, near_join, near_more, near_mul, near_cancel, near_test, abs_near, near_abs}
use Rattle.rules.specs.declared.Setting.{Setting}
use Rattle.rules.specs.Triples.{Triple}
use Rattle.rules.specs.declared.CurveName.{CurveName}
use Rattle.rules.specs.declared.CurveName.TheVariants.{LogC2, LogC3, LogC4, Unknown}
use Rattle.rules.specs.Encoding.{scene_check}
use Rattle.rules.specs.Setting.{named, ValidForAces}
use Rattle.rules.proofs.Between.{scene_passes}
use Rattle.rules.proofs.Settings.{for_aces}
use Rattle.rules.specs.Matrix.{matrix_for, matrix_of, aces_number, IsAces}
use Rattle.rules.specs.Pixels.{triple, Small3}
use Rattle.rules.proofs.Within.{NearTriple}
use Rattle.whole.proofs.Tests.{every, nth, passes, each_of_three}
use Rattle.row_product.specs.Row.{over}
use Rattle.row_product.proofs.Nearest.{nearest_of}
use Rattle.aces_inverse.specs.Reach.{reach, InReach}
use Rattle.aces_inverse.specs.Farthest.{farthest}
use Rattle.aces_inverse.specs.Inverse.{inverse_for, inverse_rows, candidate}
use Rattle.aces_inverse.proofs.Dot.{Three, three, dot, weight, Near3, dot_near, row_at, times, before, times_before, scaled, dot_scaled}

-- ---- a rounded row, over a scale that is twice half
module _ (m : List (List ℤ)) (half : ℕ) (p : 0 < half) where
  abbrev scale : ℕ
  scale = 2 * half

  abbrev rounded : ℕ → Three → ℤ
  rounded i u = aces_number (over scale m) i u.red u.green u.blue

  -- is within a half of the row
  pub row_near : (i : ℕ) (u : Three) → Near (pos scale *ℤ rounded i u) (dot (row_at m i) u) half
  unfolding aces_number
  row_near i u =
      let S = dot (row_at m i) u in
      let A = rounded i u in
      let b = half_bounds (up S) (dn S) scale (omega arith) A (nearest_of S scale) in
      near_of (mul (at (pos scale)) (at A)) (at S) half (omega (arith, b)) (omega (arith, b))

  -- what it makes of three numbers
  abbrev pub apply : Three → Three
  apply u = three (rounded 0 u) (rounded 1 u) (rounded 2 u)

  -- the size of what it makes
  pub row_size : (i ρ k c : ℕ) (u : Three) → weight (row_at m i) ≤ ρ → Near3 u (three (pos 0) (pos 0) (pos 0)) k → ρ * k + half < scale * suc c → nat_abs (rounded i u) ≤ c
  row_size i ρ k c u l h g =
      let A = rounded i u in
      let q = near_join (row_near i u) (subst (λ (z : ℤ). Near (dot (row_at m i) u) z (weight (row_at m i) * k)) zeros (dot_near (row_at m i) h)) in
      let f = of_near (mul (at (pos scale)) (at A)) (at (pos 0)) q in
      near_abs {z = A}
      (near_cancel scale
      (near_of (mul (at (pos scale)) (at A)) (mul (at (pos scale)) (at (pos 0))) (half + weight (row_at m i) * k) (omega (arith, f)) (omega (arith, f)))
      (omega (arith, mul-le-mul_right k l)))
    where
      zeros : dot (row_at m i) (three (pos 0) (pos 0) (pos 0)) ≡ pos 0
      zeros =
          eq_z (add (add (mul (at (row_at m i).red) (at (pos 0))) (mul (at (row_at m i).green) (at (pos 0)))) (mul (at (row_at m i).blue) (at (pos 0)))) (at (pos 0)) (omega arith)

-- ---- n takes back what m does

-- a row of a unit matrix whose ones are `one`
abbrev unit_row : (one : ℕ) → ℕ → Three
unit_row one zero = three (pos one) (pos 0) (pos 0)
unit_row one (suc zero) = three (pos 0) (pos one) (pos 0)
unit_row one (suc (suc k)) = three (pos 0) (pos 0) (pos one)

abbrev pub channel : Three → ℕ → ℤ
channel u zero = u.red
channel u (suc zero) = u.green
channel u (suc (suc k)) = u.blue

picked : (one k : ℕ) (u : Three) → dot u (unit_row one k) ≡ pos one *ℤ channel u k
picked one zero u = eq_z (add (add (mul (at u.red) (at (pos one))) (mul (at u.green) (at (pos 0)))) (mul (at u.blue) (at (pos 0)))) (mul (at (pos one)) (at u.red)) (omega arith)
picked one (suc zero) u = eq_z (add (add (mul (at u.red) (at (pos 0))) (mul (at u.green) (at (pos one)))) (mul (at u.blue) (at (pos 0)))) (mul (at (pos one)) (at u.green)) (omega arith)
picked one (suc (suc k)) u = eq_z (add (add (mul (at u.red) (at (pos 0))) (mul (at u.green) (at (pos 0)))) (mul (at u.blue) (at (pos one)))) (mul (at (pos one)) (at u.blue)) (omega arith)

-- the errors of a row that weighs at most ρ: of its rounding, of numbers e away that were rounded, and w of its slack
abbrev errors : (half halfBack ρ w e : ℕ) → ℕ
errors half halfBack ρ w e = 2 * half * halfBack + (ρ * (2 * half * e + half) + w)

-- the tests, which compute: the row k of n before m is that row of the unit matrix, but for a slack, and it weighs at most ρ; then its errors
-- are less than 2 e + 2 units, with numbers whose sizes together are at most so much. As ρ is 2 or more over its scale, a unit more of e adds 2
-- units or more to them: so less of e passes too
abbrev undoes : (n m : List (List ℤ)) (half halfBack slack together ρ e k : ℕ) → List Bool
undoes n m half halfBack slack together ρ e k =
    leb (nat_abs ((before (row_at n k) m).red -ℤ (unit_row (2 * half * (2 * halfBack)) k).red)) slack
    ∷ leb (nat_abs ((before (row_at n k) m).green -ℤ (unit_row (2 * half * (2 * halfBack)) k).green)) slack
    ∷ leb (nat_abs ((before (row_at n k) m).blue -ℤ (unit_row (2 * half * (2 * halfBack)) k).blue)) slack
    ∷ leb (weight (row_at n k)) ρ
    ∷ leb (2 * (2 * halfBack)) ρ
    ∷ ltb (errors half halfBack ρ (together * slack) e) (2 * half * (2 * halfBack) * (2 * e + 2))
    ∷ []

easier : (half halfBack ρ w e d : ℕ) → 2 * (2 * halfBack) ≤ ρ → errors half halfBack ρ w (e + d) < 2 * half * (2 * halfBack) * (2 * (e + d) + 2) → errors half halfBack ρ w e < 2 * half * (2 * halfBack) * (2 * e + 2)
easier half halfBack ρ w e d h l = omega (arith, mul-le-mul_right (2 * half * d) h)

module _ (n m : List (List ℤ)) (half halfBack slack together ρ most k : ℕ) (t : T (every (undoes n m half halfBack slack together ρ most k))) where
  abbrev one : ℕ
  one = 2 * half * (2 * halfBack)

  close : Near3 (before (row_at n k) m) (unit_row one k) slack
  unfolding nth
  close =
      record {
        red = near_test (before (row_at n k) m).red (unit_row one k).red slack (passes (undoes n m half halfBack slack together ρ most k) t 0);
        green = near_test (before (row_at n k) m).green (unit_row one k).green slack (passes (undoes n m half halfBack slack together ρ most k) t 1);
        blue = near_test (before (row_at n k) m).blue (unit_row one k).blue slack (passes (undoes n m half halfBack slack together ρ most k) t 2);
      }

  light : weight (row_at n k) ≤ ρ
  unfolding nth
  light = leb→le (weight (row_at n k)) ρ (passes (undoes n m half halfBack slack together ρ most k) t 3)

  less : (e : ℕ) → e ≤ most → errors half halfBack ρ (together * slack) e < one * (2 * e + 2)
  unfolding nth
  less e l =
      easier half halfBack ρ (together * slack) e (most - e) (leb→le (2 * (2 * halfBack)) ρ (passes (undoes n m half halfBack slack together ρ most k) t 4))
      (subst (λ (j : ℕ). errors half halfBack ρ (together * slack) j < one * (2 * j + 2)) (let z : most ≡ e + (most - e) = omega arith in z)
      (ltb→lt (errors half halfBack ρ (together * slack) most) (one * (2 * most + 2)) (passes (undoes n m half halfBack slack together ρ most k) t 5)))

  -- numbers a at most e from what m makes of u
  module _ (p : 0 < half) (p' : 0 < halfBack) (u : Three) (w : weight u ≤ together) (e : ℕ) (l : e ≤ most) (a : Three) (i : Near3 a (apply m half p u) e) where
    rows_near : Near3 (scaled (2 * half) a) (times m u) (2 * half * e + half)
    rows_near =
        record {
          red = near_join (near_mul (pos (2 * half)) i.red) (row_near m half p 0 u);
          green = near_join (near_mul (pos (2 * half)) i.green) (row_near m half p 1 u);
          blue = near_join (near_mul (pos (2 * half)) i.blue) (row_near m half p 2 u);
        }

    -- the scale times what n makes of them, and u
    lead : Near (pos (2 * half) *ℤ dot (row_at n k) a) (pos one *ℤ channel u k) (weight (row_at n k) * (2 * half * e + half) + weight u * slack)
    lead =
        near_join
        (subst (λ (z : ℤ). Near z (dot (row_at n k) (times m u)) (weight (row_at n k) * (2 * half * e + half))) (dot_scaled (2 * half) (row_at n k) a) (dot_near (row_at n k) rows_near))
        (subst (λ (z : ℤ). Near (dot (row_at n k) (times m u)) z (weight u * slack)) (picked one k u)
        (subst (λ (z : ℤ). Near z (dot u (unit_row one k)) (weight u * slack)) (sym (times_before (row_at n k) u m)) (dot_near u close)))

    abbrev X : ℤ
    X = aces_number (over (2 * halfBack) n) k a.red a.green a.blue

    joined : pos (2 * half) *ℤ (pos (2 * halfBack) *ℤ X) ≡ pos one *ℤ X
    joined = eq_z (mul (at (pos (2 * half))) (mul (at (pos (2 * halfBack))) (at X))) (mul (at (pos one)) (at X)) (omega arith)

    -- THEY LEAD BACK to within 2 e + 1 units
    pub undone : Near X (channel u k) (2 * e + 1)
    undone =
        near_cancel one
        (subst (λ (z : ℤ). Near z (pos one *ℤ channel u k) (2 * half * halfBack + (weight (row_at n k) * (2 * half * e + half) + weight u * slack))) joined
        (near_join (near_mul (pos (2 * half)) (row_near n halfBack p' k a)) lead))
        (omega (arith, less e l, mul-le-mul_right (2 * half * e + half) light, mul-le-mul_right slack w))

-- ---- the published matrices
abbrev half_scale : CurveName → ℕ
half_scale LogC2 = 1
half_scale LogC3 = 500000
half_scale LogC4 = 500000000000000000
half_scale Unknown = 1

-- for both orders: the matrix before its inverse, and the inverse before its matrix
abbrev slack_of : CurveName → ℕ
slack_of LogC2 = 0
slack_of LogC3 = 522454
slack_of LogC4 = 475828786185448968
slack_of Unknown = 0

-- no row of a matrix weighs more than 1.21, and none of an inverse more than 2.032
abbrev heavy : CurveName → ℕ
heavy LogC2 = 0
heavy LogC3 = 1210000
heavy LogC4 = 1210000000000000000
heavy Unknown = 0

abbrev heavy_back : ℕ
heavy_back = 2234207627641

-- what numbers a pixel may have, at most
abbrev largest : ℕ
largest = 2 ^ 33

-- the tests of a row, computed for each curve
abbrev weight_test : CurveName → (k : ℕ) → Bool
weight_test n k = leb (weight (row_at (matrix_for n).rows k)) (heavy n)

abbrev back_test : CurveName → (k : ℕ) → Bool
back_test n k = every (undoes (inverse_for n) (matrix_for n).rows (half_scale n) (2 ^ 39) (slack_of n) (3 * largest) heavy_back farthest k)

-- of the other order: at distance 0, with a row that may weigh up to 2
abbrev there_test : CurveName → (k : ℕ) → Bool
there_test n k = every (undoes (matrix_for n).rows (inverse_for n) (2 ^ 39) (half_scale n) (slack_of n) (3 * reach) (2 * (2 * half_scale n)) 0 k)

-- ---- of a setting
near_zero : {k : ℕ} {x y z : ℤ} → Small3 k x y z → Near3 (three x y z) (three (pos 0) (pos 0) (pos 0)) k
near_zero h = record { red = abs_near h.red; green = abs_near h.green; blue = abs_near h.blue }

positive : (c : CurveName) → 0 < half_scale c
positive LogC2 = lit< tt
positive LogC3 = lit< tt
positive LogC4 = lit< tt
positive Unknown = lit< tt

module _ (s : Setting) (v : ValidForAces s) where
  abbrev c : CurveName
  c = named s.curve

  weighs : (k : ℕ) → k < 3 → T (leb (weight (row_at (matrix_of s).rows k)) (heavy c))
  weighs k h = for_aces (λ n. T (weight_test n k)) (each_of_three (λ i. T (weight_test LogC3 i)) tt tt tt k h) (each_of_three (λ i. T (weight_test LogC4 i)) tt tt tt k h) s v

  takes_back : (k : ℕ) → k < 3 → T (every (undoes (inverse_rows s) (matrix_of s).rows (half_scale c) (2 ^ 39) (slack_of c) (3 * largest) heavy_back farthest k))
  takes_back k h = for_aces (λ n. T (back_test n k)) (each_of_three (λ i. T (back_test LogC3 i)) tt tt tt k h) (each_of_three (λ i. T (back_test LogC4 i)) tt tt tt k h) s v

  -- of given ACES numbers a candidate may be encoded
  candidate_small : (x y z : ℤ) → InReach x y z → (k : ℕ) → k < 3 → nat_abs (candidate s k x y z) ≤ 2 ^ 40
  candidate_small x y z h k l =
      row_size (inverse_rows s) (2 ^ 39) (lit< tt) k heavy_back reach (2 ^ 40) (three x y z)
      (light (inverse_rows s) (matrix_of s).rows (half_scale c) (2 ^ 39) (slack_of c) (3 * largest) heavy_back farthest k (takes_back k l))
      (near_zero h) (lit< tt)

  pub candidate_encodes : (x y z : ℤ) → InReach x y z → (k : ℕ) → k < 3 → scene_check (candidate s k x y z) ≡ Ok tt
  candidate_encodes x y z h k l = scene_passes (candidate s k x y z) (candidate_small x y z h k l)

  -- the matrix, with its scale
  same : (i : ℕ) (x y z : ℤ) → aces_number (matrix_of s) i x y z ≡ aces_number (over (2 * half_scale c) (matrix_of s).rows) i x y z
  same i x y z = for_aces (λ n. aces_number (matrix_for n) i x y z ≡ aces_number (over (2 * half_scale n) (matrix_for n).rows) i x y z) refl refl s v

  there_and_back : (k : ℕ) → k < 3 → T (every (undoes (matrix_of s).rows (inverse_rows s) (2 ^ 39) (half_scale c) (slack_of c) (3 * reach) (2 * (2 * half_scale c)) 0 k))
  there_and_back k h = for_aces (λ n. T (there_test n k)) (each_of_three (λ i. T (there_test LogC3 i)) tt tt tt k h) (each_of_three (λ i. T (there_test LogC4 i)) tt tt tt k h) s v

  -- THE ACES NUMBERS OF CANDIDATES are at most one unit from the numbers that these are for
  pub candidates_near : (x y z : ℤ) → InReach x y z → (k : ℕ) → k < 3 → Near (aces_number (matrix_of s) k (candidate s 0 x y z) (candidate s 1 x y z) (candidate s 2 x y z)) (channel (three x y z) k) 1
  candidates_near x y z h k l =
      rw (same k (candidate s 0 x y z) (candidate s 1 x y z) (candidate s 2 x y z))
      (undone (matrix_of s).rows (inverse_rows s) (2 ^ 39) (half_scale c) (slack_of c) (3 * reach) (2 * (2 * half_scale c)) 0 k (there_and_back k l) (lit< tt) (positive c) (three x y z)
      (omega (arith, h.red, h.green, h.blue)) 0 (lit≤ tt) (three (candidate s 0 x y z) (candidate s 1 x y z) (candidate s 2 x y z))
      (record { red = same_near refl; green = same_near refl; blue = same_near refl }))

  -- the ACES numbers of scene numbers up to 2 ^ 33 are in reach, with room for a distance
  made_small : (x y z : ℤ) → Small3 largest x y z → (k : ℕ) → k < 3 → nat_abs (aces_number (matrix_of s) k x y z) ≤ reach - farthest
  made_small x y z h k l =
      rw (same k x y z)
      (row_size (matrix_of s).rows (half_scale c) (positive c) k (heavy c) largest (reach - farthest) (three x y z) (leb→le (weight (row_at (matrix_of s).rows k)) (heavy c) (weighs k l)) (near_zero h) fits)
    where
      fits : heavy (named s.curve) * largest + half_scale (named s.curve) < 2 * half_scale (named s.curve) * suc (reach - farthest)
      fits = for_aces (λ n. heavy n * largest + half_scale n < 2 * half_scale n * suc (reach - farthest)) (lit< tt) (lit< tt) s v

  -- numbers at most e from the ACES numbers of such scene numbers
  module _ (x y z : ℤ) (h : Small3 largest x y z) (e : ℕ) (l : e ≤ farthest) (a : Triple)
      (i : NearTriple a (triple (aces_number (matrix_of s) 0 x y z) (aces_number (matrix_of s) 1 x y z) (aces_number (matrix_of s) 2 x y z)) e) where
    -- are numbers that the way back tries
    pub near_aces_small : InReach a.red.0 a.green.0 a.blue.0
    near_aces_small =
        record {
          red = small i.red (made_small x y z h 0 (lit< tt));
          green = small i.green (made_small x y z h 1 (lit< tt));
          blue = small i.blue (made_small x y z h 2 (lit< tt));
        }
      where
        small : {p q : ℤ} → Near p q e → nat_abs q ≤ reach - farthest → nat_abs p ≤ reach
        small n g = near_abs (near_more (omega arith) (near_join n (abs_near g)))

    near_made : Near3 (three a.red.0 a.green.0 a.blue.0) (apply (matrix_of s).rows (half_scale c) (positive c) (three x y z)) e
    near_made =
        record {
          red = subst (λ (w : ℤ). Near a.red.0 w e) (same 0 x y z) i.red;
          green = subst (λ (w : ℤ). Near a.green.0 w e) (same 1 x y z) i.green;
          blue = subst (λ (w : ℤ). Near a.blue.0 w e) (same 2 x y z) i.blue;
        }

    -- and lead to within 2 e + 1 units of the scene numbers
    pub candidate_near : (k : ℕ) → k < 3 → Near (candidate s k a.red.0 a.green.0 a.blue.0) (channel (three x y z) k) (2 * e + 1)
    candidate_near k g =
        undone (inverse_rows s) (matrix_of s).rows (half_scale c) (2 ^ 39) (slack_of c) (3 * largest) heavy_back farthest k (takes_back k g) (positive c) (lit< tt) (three x y z)
        (omega (arith, h.red, h.green, h.blue)) e l (three a.red.0 a.green.0 a.blue.0) near_made

  -- at distance 0
  pub aces_small : (x y z : ℤ) → Small3 largest x y z → {p q r : ℤ} → IsAces (matrix_of s) x y z p q r → InReach p q r
  aces_small x y z h {p} {q} {r} i =
      near_aces_small x y z h 0 (lit≤ tt) (triple p q r)
      (record { red = same_near i.red_is; green = same_near i.green_is; blue = same_near i.blue_is })
