-- The candidate is the only pixel that can give three ACES numbers, or numbers at most e from them; so trying it says what gives them. And so two
-- pixels whose numbers are at most 2 e apart are one.
-- Assumes nothing.
use Rattle.std.specs.Prelude.{None, Ok, Option, Some}
use Rattle.std.specs.Bool.{then_some}
use mathlib.Core.Bool.{Bool, true, false}
use mathlib.Core.Path.{◌≡◌, refl, sym, ap, ◌∙◌, subst}
use Prim.Native.Nat.{ℕ, ◌+◌, ◌*◌, ◌^◌, ◌<◌, ◌≤◌}
use lib.Dec.{T, leb, ltb, leb→le, ltb→lt, lit<}
use lib.IntN.{ℤ, nat_abs}
use Rattle.whole.proofs.Near.{Near, near_join}
use Rattle.rules.specs.Triples.{Pixel, Triple}
use Rattle.rules.specs.declared.CurveName.{CurveName}
use Rattle.rules.specs.declared.CurveName.TheVariants.{LogC3, LogC4}
use Rattle.rules.specs.declared.Distance.{Distance}
use Rattle.rules.specs.declared.Distance.TheVariants.{Exact, Tolerant}
use Rattle.rules.specs.declared.Setting.{Setting}
use Rattle.rules.specs.Setting.{code_at, last_of, code_check, ValidForAces}
use Rattle.rules.specs.Decoding.{DecodesCode}
use Rattle.rules.specs.Matrix.{matrix_of}
use Rattle.rules.specs.WayBack.{within3, pixel_with, found_check, exact, tolerated, distance_of}
use Rattle.rules.proofs.Settings.{for_aces, aces_valid, refused_never}
use Rattle.rules.proofs.Bounds.{allowed_apart}
use Rattle.rules.proofs.Within.{NearTriple, within3_near, near_within3, middle_triple, middle_triple_lem}
use Rattle.rules.proofs.Search as search
use Rattle.decode.specs.Decoded.{decoded}
use Rattle.decode.specs.Gap as decode
use Rattle.curves.specs.Gap.{gap_of}
use Rattle.decode.proofs.Distance.{decodes_near, decodes_small}
use Rattle.decode.proofs.Theorems.{decoding}
use Rattle.encode.proofs.Theorems.{encoded_passes, encode_near}
use Rattle.aces_inverse.specs.Reach.{InReach}
use Rattle.aces_inverse.specs.Farthest.{farthest}
use Rattle.aces_inverse.specs.Inverse.{candidate}
use Rattle.aces_inverse.proofs.Inverse.{near_aces_small, candidate_near}
use Rattle.way_back.specs.Candidate.{code_for, candidate_pixel, all_in_reach}
use Rattle.way_back.proofs.Reach.{given_reached, reached_given}
use Rattle.rules.specs.Pixels.{IsPixel, Small3, aces_of}
use Rattle.aces.specs.OfPixel.{pixel_aces}

-- a distance e at which numbers still tell the pixel. The inverse leads to within 2 e + 1 units of the number of a code, and that is at most
-- `allowed_apart` from its decoded number. What is less than half the gap of the curve from a decoded number is nearer to it than to any other
abbrev pub NearEnough : (e : ℕ) → Setting → Type 0
NearEnough e s = (2 * (2 * e + 1 + allowed_apart) < decode.gap_of s) × (e ≤ farthest)

-- the test of a distance, which computes for each curve
abbrev enough : (e : ℕ) → CurveName → Bool
enough e c = ltb (2 * (2 * e + 1 + allowed_apart)) (gap_of c)

pub enough_for : (e : ℕ) → T (enough e LogC3) → T (enough e LogC4) → T (leb e farthest) → (s : Setting) → ValidForAces s → NearEnough e s
enough_for e three four near s v =
    (ltb→lt (2 * (2 * e + 1 + allowed_apart)) (decode.gap_of s) (for_aces (λ c. T (enough e c)) three four s v), leb→le e farthest near)

-- both ways back are at such a distance
pub near_enough : (k : Distance) (s : Setting) → ValidForAces s → NearEnough (distance_of k) s
near_enough Exact = enough_for exact tt tt tt
near_enough Tolerant = enough_for tolerated tt tt tt

-- ---- by any numbers that the rules allow for the codes of the setting
abbrev pub GivesBy : (e : ℕ) (number : ℕ → ℤ) → Setting → Triple → Pixel → Type 0
GivesBy e number s a q = search.Gives e number (matrix_of s) (code_at s) (last_of s) a q

module _ (s : Setting) (v : ValidForAces s) (number : ℕ → ℤ) (allowed : (n : ℕ) → code_check s n ≡ Ok tt → DecodesCode s n (number n)) (e : ℕ) (t : NearEnough e s) (a : Triple) (q : Pixel) (g : GivesBy e number s a q) where
  small : (n : ℕ) → code_check s n ≡ Ok tt → nat_abs (number n) ≤ 2 ^ 33
  small n h = decodes_small s (aces_valid s v) n h (number n) (allowed n h)

  scenes_small : Small3 (2 ^ 33) (number q.red.0) (number q.green.0) (number q.blue.0)
  scenes_small =
      record {
        red = small q.red.0 (search.code_checked s q.red.0 g.red);
        green = small q.green.0 (search.code_checked s q.green.0 g.green);
        blue = small q.blue.0 (search.code_checked s q.blue.0 g.blue);
      }

  -- the numbers that the pixel gives are in reach
  reached_by : all_in_reach a ≡ true
  reached_by = given_reached a (near_aces_small s v _ _ _ scenes_small e t.1 a g.numbers)

  code_by : (i n : ℕ) → code_check s n ≡ Ok tt → Near (candidate s i a.red.0 a.green.0 a.blue.0) (number n) (2 * e + 1) → code_for s i a ≡ n
  code_by i n h c =
      encode_near s (aces_valid s v) (2 * e + 1 + allowed_apart) t.0 (candidate s i a.red.0 a.green.0 a.blue.0) n h (near_join c (decodes_near s (aces_valid s v) n h (number n) (allowed n h)))

  -- THE ONLY PIXEL: what gives the numbers is the candidate
  pub only_candidate_by : q ≡ candidate_pixel s a
  only_candidate_by =
      let r = code_by 0 q.red.0 (search.code_checked s q.red.0 g.red) (candidate_near s v _ _ _ scenes_small e t.1 a g.numbers 0 (lit< tt)) in
      let u = code_by 1 q.green.0 (search.code_checked s q.green.0 g.green) (candidate_near s v _ _ _ scenes_small e t.1 a g.numbers 1 (lit< tt)) in
      let b = code_by 2 q.blue.0 (search.code_checked s q.blue.0 g.blue) (candidate_near s v _ _ _ scenes_small e t.1 a g.numbers 2 (lit< tt)) in
      λ i. record { red = record { 0 = sym r i }; green = record { 0 = sym u i }; blue = record { 0 = sym b i } }

-- a pixel of the setting that gives such numbers, as a search finds it
gives_by : (s : Setting) (number : ℕ → ℤ) (e : ℕ) (a : Triple) (p : Pixel) → IsPixel s p → NearTriple a (aces_of number (matrix_of s) p) e → GivesBy e number s a p
gives_by s number e a p i n =
    record {
      red = search.own_code s p.red.0 i.red;
      green = search.own_code s p.green.0 i.green;
      blue = search.own_code s p.blue.0 i.blue;
      numbers = n;
    }

-- TWO PIXELS whose numbers are at most 2 e apart in every channel are one: the triple in the middle is at most e from both
pub one_by : (s : Setting) → ValidForAces s → (number : ℕ → ℤ) → ((n : ℕ) → code_check s n ≡ Ok tt → DecodesCode s n (number n)) → (e : ℕ) → NearEnough e s
    → (p q : Pixel) → IsPixel s p → IsPixel s q → NearTriple (aces_of number (matrix_of s) p) (aces_of number (matrix_of s) q) (2 * e) → p ≡ q
one_by s v number allowed e t p q i j n =
    let a = aces_of number (matrix_of s) p in
    let b = aces_of number (matrix_of s) q in
    let m = middle_triple_lem e n in
    only_candidate_by s v number allowed e t (middle_triple a b) p (gives_by s number e (middle_triple a b) p i m.0)
    ∙ sym (only_candidate_by s v number allowed e t (middle_triple a b) q (gives_by s number e (middle_triple a b) q j m.1))

-- ---- by the decoded numbers

-- a pixel of the setting that gives numbers at most e from those given, and the first one
abbrev pub PixelGives : (e : ℕ) → Setting → Triple → Pixel → Type 0
PixelGives e s a q = GivesBy e (decoded s) s a q

pub pixel_gives : (e : ℕ) (s : Setting) (a : Triple) (p : Pixel) → IsPixel s p → within3 e a (pixel_aces s p) ≡ true → PixelGives e s a p
pixel_gives e s a p i h = gives_by s (decoded s) e a p i (within3_near e a (pixel_aces s p) h)

abbrev pub pixel_near : (e : ℕ) → Setting → Triple → Option Pixel
pixel_near e s a = pixel_with e (decoded s) (matrix_of s) (code_at s) (last_of s) a

-- the candidate is a pixel of the setting
candidate_passes : (s : Setting) (a : Triple) (i : ℕ) → code_check s (code_for s i a) ≡ Ok tt
candidate_passes s a i = encoded_passes s (candidate s i a.red.0 a.green.0 a.blue.0)

pub candidate_is_pixel : (s : Setting) (a : Triple) → IsPixel s (candidate_pixel s a)
candidate_is_pixel s a = record { red = candidate_passes s a 0; green = candidate_passes s a 1; blue = candidate_passes s a 2 }

module _ (e : ℕ) (s : Setting) (v : ValidForAces s) (t : NearEnough e s) (a : Triple) where
  pub reached : (q : Pixel) → PixelGives e s a q → all_in_reach a ≡ true
  reached q g = reached_by s v (decoded s) (decoding s (aces_valid s v)) e t a q g

  pub only_candidate : (q : Pixel) → PixelGives e s a q → q ≡ candidate_pixel s a
  only_candidate q g = only_candidate_by s v (decoded s) (decoding s (aces_valid s v)) e t a q g

  candidate_gives : within3 e a (pixel_aces s (candidate_pixel s a)) ≡ true → PixelGives e s a (candidate_pixel s a)
  candidate_gives h = pixel_gives e s a (candidate_pixel s a) (candidate_is_pixel s a) h

  -- ---- what the way back finds
  unlike : {x : Bool} {A : Type 0} → x ≡ true → x ≡ false → A
  unlike h f = absurd (subst T (sym h ∙ f) tt)

  pub out_of_reach : all_in_reach a ≡ false → None ≡ pixel_near e s a
  out_of_reach h = sym (search.none_found e (decoded s) (matrix_of s) (code_at s) (last_of s) a (λ q g. unlike (reached q g) h))

  -- the candidate, where it gives such numbers, and else nothing
  pub candidate_found : within3 e a (pixel_aces s (candidate_pixel s a)) ≡ true → Some (candidate_pixel s a) ≡ pixel_near e s a
  candidate_found h = sym (search.gives_found e (decoded s) (matrix_of s) (code_at s) (last_of s) a (candidate_pixel s a) only_candidate (candidate_gives h))

  pub none_else : within3 e a (pixel_aces s (candidate_pixel s a)) ≡ false → None ≡ pixel_near e s a
  none_else h =
      sym
      (search.none_found e (decoded s) (matrix_of s) (code_at s) (last_of s) a
      (λ q g.
      unlike (near_within3 e a (pixel_aces s (candidate_pixel s a)) (subst (λ (p : Pixel). NearTriple a (pixel_aces s p) e) (only_candidate q g) g.numbers)) h))

  pub candidate_tried : (b : Bool) → b ≡ within3 e a (pixel_aces s (candidate_pixel s a)) → then_some b (candidate_pixel s a) ≡ pixel_near e s a
  candidate_tried true h = candidate_found (sym h)
  candidate_tried false h = none_else (sym h)

  -- and what it finds is the candidate
  abbrev Found : Option Pixel → Type 0
  Found f = (InReach a.red.0 a.green.0 a.blue.0) × (Some (candidate_pixel s a) ≡ f)

  pub passed_found : found_check (pixel_near e s a) ≡ Ok tt → Found (pixel_near e s a)
  passed_found h = go (pixel_near e s a) refl h
    where
      go : (f : Option Pixel) → pixel_near e s a ≡ f → found_check f ≡ Ok tt → Found f
      go (Some p) g h =
          let k = search.found_gives e (decoded s) (matrix_of s) (code_at s) (last_of s) a p g in
          (reached_given a (reached p k), ap Some (sym (only_candidate p k)))
      go None g h = refused_never h
