-- What a search over all pixels finds: a pixel that gives numbers at most e from those given; the only one there is, where there is one; and
-- the same by any numbers of the codes that agree.
-- Assumes nothing.
use Rattle.std.specs.Prelude.{None, Ok, Option, Some}
use mathlib.Core.Bool.{Bool, true, false}
use mathlib.Core.Path.{◌≡◌, refl, sym, ap, ap₂, ◌∙◌, subst}
use Prim.Native.Nat.{ℕ, zero, suc, ◌≤◌}
use native.Mathlib.Nat.{le_refl}
use native.Mathlib.Omega.{arith}
use borrow.Author.Tests.{leb-true, leb-false}
use lib.Dec.{leb}
use lib.IntN.{ℤ}
use Rattle.rules.specs.declared.Setting.{Setting}
use Rattle.rules.specs.Triples.{Pixel}
use Rattle.rules.specs.Triples.{Triple}
use Rattle.rules.specs.Choice.{choose}
use Rattle.rules.specs.Setting.{code_at, step_of, last_of, code_check}
use Rattle.rules.specs.Matrix.{Matrix, matrix_of, aces_number}
use Rattle.rules.specs.WayBack.{within3, or_else, first_found, tried, pixel_with, pixel_by, exact}
use Rattle.rules.specs.Pixels.{pixel, triple, aces_of, aces_by}
use Rattle.rules.proofs.Within.{NearTriple, within3_near, near_within3, triple_same}
use Rattle.rules.proofs.Codes.{code_of_step, code_passed, code_passes}

-- ---- what is found
abbrev IsPixelOrNot : Option Pixel → Type 0
IsPixelOrNot (Some p) = Unit {0}
IsPixelOrNot None = ⊥

pub not_nothing : {A : Type 0} {p : Pixel} → None ≡ Some p → A
not_nothing e = absurd (subst IsPixelOrNot (sym e) tt)

abbrev pixel_or : Pixel → Option Pixel → Pixel
pixel_or p (Some q) = q
pixel_or p None = p

pub same_pixel : {p q : Pixel} → Some p ≡ Some q → p ≡ q
same_pixel {p} e = ap (pixel_or p) e

module _ (f : ℕ → Option Pixel) where
  -- what holds of all that is found step by step holds of what is found first
  pub first_all : (P : Pixel → Type 0) (last : ℕ) → ((j : ℕ) → j ≤ last → (q : Pixel) → f j ≡ Some q → P q) → (q : Pixel) → first_found f last ≡ Some q → P q
  unfolding first_found
  first_all P zero h q e = h 0 (le_refl 0) q e
  first_all P (suc k) h q e = go (first_found f k) refl e (λ g. first_all P k (λ j l. h j (omega arith)) q g)
    where
      go : (x : Option Pixel) → first_found f k ≡ x → or_else x (f (suc k)) ≡ Some q → (first_found f k ≡ Some q → P q) → P q
      go (Some p) g e before = before (g ∙ e)
      go None g e before = h (suc k) (le_refl (suc k)) q e

  -- and where only one pixel can be found, it is found
  pub first_only : (p : Pixel) (last : ℕ) → ((j : ℕ) → j ≤ last → (q : Pixel) → f j ≡ Some q → q ≡ p)
      → (i : ℕ) → i ≤ last → f i ≡ Some p → first_found f last ≡ Some p
  unfolding first_found
  first_only p zero h i l e = subst (λ (j : ℕ). f j ≡ Some p) (let z : i ≡ 0 = omega arith in z) e
  first_only p (suc k) h i l e = go (first_found f k) refl (leb i k) refl (λ m. first_only p k (λ j m. h j (omega arith)) i m e)
    where
      go : (x : Option Pixel) → first_found f k ≡ x → (b : Bool) → leb i k ≡ b → (i ≤ k → first_found f k ≡ Some p) → or_else x (f (suc k)) ≡ Some p
      go (Some q) g b t before = ap Some (first_all (λ r. r ≡ p) k (λ j m. h j (omega arith)) q g)
      go None g true t before = not_nothing (sym g ∙ before (leb-true i k t))
      go None g false t before = subst (λ (j : ℕ). f j ≡ Some p) (let u = leb-false i k t in let z : i ≡ suc k = omega arith in z) e

-- ---- all pixels

-- the code of a step
pub record IsCode (code : ℕ → ℕ) (last n : ℕ) : Type 0 where
  pub step : ℕ
  pub in_range : step ≤ last
  pub code_is : code step ≡ n

-- of a setting: the codes that pass their check
pub own_code : (s : Setting) (n : ℕ) → code_check s n ≡ Ok tt → IsCode (code_at s) (last_of s) n
own_code s n e = record { step = step_of s n; in_range = code_passed s n e; code_is = code_of_step s n e }

pub code_checked : (s : Setting) (n : ℕ) → IsCode (code_at s) (last_of s) n → code_check s n ≡ Ok tt
code_checked s n c = subst (λ (n : ℕ). code_check s n ≡ Ok tt) c.code_is (code_passes s c.step c.in_range)

module _ (e : ℕ) (number : ℕ → ℤ) (m : Matrix) (code : ℕ → ℕ) (last : ℕ) (a : Triple) where
  -- codes that give numbers at most e from those given
  pub record Gives (p : Pixel) : Type 0 where
    pub red : IsCode code last p.red.0
    pub green : IsCode code last p.green.0
    pub blue : IsCode code last p.blue.0
    pub numbers : NearTriple a (aces_of number m p) e

  -- the pixel of three steps
  abbrev at_steps : (r g b : ℕ) → Pixel
  at_steps r g b = pixel (code r) (code g) (code b)

  tried_gives : (r g b : ℕ) → r ≤ last → g ≤ last → b ≤ last → (q : Pixel) → tried e number m a (at_steps r g b) ≡ Some q → Gives q
  tried_gives r g b hr hg hb q f = go (within3 e a (aces_of number m (at_steps r g b))) refl f
    where
      here : within3 e a (aces_of number m (at_steps r g b)) ≡ true → Gives (at_steps r g b)
      here t =
          record {
            red = record { step = r; in_range = hr; code_is = refl };
            green = record { step = g; in_range = hg; code_is = refl };
            blue = record { step = b; in_range = hb; code_is = refl };
            numbers = within3_near e a (aces_of number m (at_steps r g b)) t;
          }

      go : (t : Bool) → within3 e a (aces_of number m (at_steps r g b)) ≡ t → choose t (Some (at_steps r g b)) None ≡ Some q → Gives q
      go true t f = subst Gives (same_pixel f) (here t)
      go false t f = not_nothing f

  abbrev greens : (r : ℕ) → ℕ → Option Pixel
  greens r g = first_found (λ b. tried e number m a (at_steps r g b)) last

  abbrev reds : ℕ → Option Pixel
  reds r = first_found (greens r) last

  green_gives : (r g : ℕ) → r ≤ last → g ≤ last → (q : Pixel) → greens r g ≡ Some q → Gives q
  green_gives r g hr hg = first_all (λ b. tried e number m a (at_steps r g b)) Gives last (λ b hb. tried_gives r g b hr hg hb)

  red_gives : (r : ℕ) → r ≤ last → (q : Pixel) → reds r ≡ Some q → Gives q
  red_gives r hr = first_all (greens r) Gives last (λ g hg. green_gives r g hr hg)

  -- WHAT IS FOUND gives such numbers
  pub found_gives : (q : Pixel) → pixel_with e number m code last a ≡ Some q → Gives q
  unfolding pixel_with
  found_gives = first_all reds Gives last (λ r hr. red_gives r hr)

  -- WHAT GIVES SUCH NUMBERS is found, where nothing else gives them
  pub gives_found : (p : Pixel) → ((q : Pixel) → Gives q → q ≡ p) → Gives p → pixel_with e number m code last a ≡ Some p
  unfolding pixel_with
  gives_found p only h =
      let r = h.red.step in
      let g = h.green.step in
      first_only reds p last (λ r hr q f. only q (red_gives r hr q f)) r h.red.in_range
      (first_only (greens r) p last (λ g hg q f. only q (green_gives r g h.red.in_range hg q f)) g h.green.in_range
      (first_only (λ b. tried e number m a (at_steps r g b)) p last (λ b hb q f. only q (tried_gives r g b h.red.in_range h.green.in_range hb q f)) h.blue.step h.blue.in_range
      (ap (tried e number m a) is_p ∙ here)))
    where
      is_p : at_steps h.red.step h.green.step h.blue.step ≡ p
      is_p = λ i. pixel (h.red.code_is i) (h.green.code_is i) (h.blue.code_is i)

      here : tried e number m a p ≡ Some p
      here = ap (λ (t : Bool). choose t (Some p) None) (near_within3 e a (aces_of number m p) h.numbers)

  -- and NOTHING is found where nothing gives them
  pub none_found : ((q : Pixel) → Gives q → ⊥) → pixel_with e number m code last a ≡ None
  none_found never = go (pixel_with e number m code last a) refl
    where
      go : (x : Option Pixel) → pixel_with e number m code last a ≡ x → x ≡ None
      go (Some q) f = absurd (never q (found_gives q f))
      go None f = refl

-- A WAY BACK finds a pixel whose triple is at most so far from the given one in every channel, and THE EXACT one a pixel with exactly that triple,
-- whatever numbers the codes have
pub near_found : (e : ℕ) (number : Setting → ℕ → ℤ) (s : Setting) (a : Triple) (p : Pixel) → pixel_by e number s a ≡ Some p → NearTriple a (aces_by number s p) e
unfolding pixel_by
near_found e number s a p f = (found_gives e (number s) (matrix_of s) (code_at s) (last_of s) a p f).numbers

pub exact_found : (number : Setting → ℕ → ℤ) (s : Setting) (a : Triple) (p : Pixel) → pixel_by exact number s a ≡ Some p → aces_by number s p ≡ a
exact_found number s a p f = sym (triple_same (near_found exact number s a p f))

-- ---- numbers that agree on the codes give the same ACES numbers, and the same pixel is found
pub same_aces : (number other : ℕ → ℤ) (m : Matrix) (p : Pixel) → number p.red.0 ≡ other p.red.0 → number p.green.0 ≡ other p.green.0 → number p.blue.0 ≡ other p.blue.0
    → aces_of number m p ≡ aces_of other m p
same_aces number other m p er eg eb = λ i. triple (aces_number m 0 (er i) (eg i) (eb i)) (aces_number m 1 (er i) (eg i) (eb i)) (aces_number m 2 (er i) (eg i) (eb i))

same_first : (f g : ℕ → Option Pixel) (last : ℕ) → ((n : ℕ) → n ≤ last → f n ≡ g n) → first_found f last ≡ first_found g last
unfolding first_found
same_first f g zero h = h 0 (le_refl 0)
same_first f g (suc k) h = ap₂ or_else (same_first f g k (λ n l. h n (omega arith))) (h (suc k) (le_refl (suc k)))

pub same_found : (e : ℕ) (number other : ℕ → ℤ) (m : Matrix) (code : ℕ → ℕ) (last : ℕ) (a : Triple) → ((i : ℕ) → i ≤ last → number (code i) ≡ other (code i))
    → pixel_with e number m code last a ≡ pixel_with e other m code last a
unfolding pixel_with
same_found e number other m code last a h =
    same_first _ _ last
    (λ r lr.
    same_first _ _ last
    (λ g lg.
    same_first _ _ last
    (λ b lb.
    let p = pixel (code r) (code g) (code b) in
    ap (λ (x : Triple). choose (within3 e a x) (Some p) None) (same_aces number other m p (h r lr) (h g lg) (h b lb)))))
