-- DEMAND 3 AND 02, ITEM 8, of one record: a way back finds a pixel of the setting exactly where one gives the numbers, or numbers at most its
-- distance from them, and it is the only one; and the ACES numbers of two pixels are apart.
-- Assumes nothing.
use Rattle.std.specs.Prelude.{None, Ok, Option, Some}
use mathlib.Core.Bool.{true}
use mathlib.Core.Logic.{◌⊎◌, inl, inr}
use mathlib.Core.Path.{◌≡◌, refl, sym, ◌∙◌}
use Prim.Native.Nat.{ℕ, suc, ◌*◌, ◌/◌}
use lib.Dec.{lit≤}
use lib.IntN.{ℤ}
use Rattle.rules.specs.declared.Distance.{Distance}
use Rattle.rules.specs.Triples.{Pixel, Triple}
use Rattle.rules.specs.declared.Setting.{Setting}
use Rattle.rules.specs.Decoding.{DecodesCode}
use Rattle.rules.specs.Setting.{code_at, last_of, code_check, ValidForAces}
use Rattle.rules.specs.Matrix.{matrix_of}
use Rattle.rules.specs.WayBack.{within3, pixel_by, exact, distance_of, apart, Differ}
use Rattle.rules.proofs.Search as search
use Rattle.rules.proofs.Settings.{aces_valid}
use Rattle.rules.proofs.Within.{NearTriple, near_within3, triple_more, same_triple, near_or_differ, differ_less}
use Rattle.decode.specs.Decoded.{decoded}
use Rattle.decode.proofs.Theorems.{decoding}
use Rattle.way_back.specs.Back.{pixel_for, AllApart}
use Rattle.way_back.proofs.Only.{enough_for, near_enough, one_by, PixelGives, pixel_gives, only_candidate}
use Rattle.rules.specs.Pixels.{IsPixel, aces_of}
use Rattle.aces.specs.OfPixel.{pixel_aces}

-- what is found is a pixel of the setting that gives numbers at most e from the given ones in every channel
pub found_gives : (e : ℕ) (s : Setting) (a : Triple) (p : Pixel) → pixel_for e s a ≡ Some p → IsPixel s p × (within3 e a (pixel_aces s p) ≡ true)
unfolding pixel_by
found_gives e s a p f =
    let g = search.found_gives e (decoded s) (matrix_of s) (code_at s) (last_of s) a p f in (
      record {
        red = search.code_checked s p.red.0 g.red;
        green = search.code_checked s p.green.0 g.green;
        blue = search.code_checked s p.blue.0 g.blue;
      },
      near_within3 e a (pixel_aces s p) g.numbers,
    )

-- by the distance of either way back
module _ (k : Distance) (s : Setting) (v : ValidForAces s) where
  abbrev e : ℕ
  e = distance_of k

  only : (a : Triple) (p q : Pixel) → PixelGives (distance_of k) s a p → PixelGives (distance_of k) s a q → p ≡ q
  only a p q g h = only_candidate e s v (near_enough k s v) a p g ∙ sym (only_candidate e s v (near_enough k s v) a q h)

  -- two pixels that give such numbers are one
  pub one_pixel : (a : Triple) (p q : Pixel) → IsPixel s p → IsPixel s q → within3 (distance_of k) a (pixel_aces s p) ≡ true → within3 (distance_of k) a (pixel_aces s q) ≡ true → p ≡ q
  one_pixel a p q i j g h = only a p q (pixel_gives e s a p i g) (pixel_gives e s a q j h)

  -- a pixel that gives such numbers is found
  pub given_found : (a : Triple) (p : Pixel) → IsPixel s p → within3 (distance_of k) a (pixel_aces s p) ≡ true → pixel_for (distance_of k) s a ≡ Some p
  unfolding pixel_by
  given_found a p i h =
      let g = pixel_gives e s a p i h in
      search.gives_found e (decoded s) (matrix_of s) (code_at s) (last_of s) a p (λ q f. only a q p f g) g

  -- and so from its own ACES numbers, by either way back
  pub own_found : (p : Pixel) → IsPixel s p → pixel_for (distance_of k) s (pixel_aces s p) ≡ Some p
  own_found p i = given_found (pixel_aces s p) p i (near_within3 e (pixel_aces s p) (pixel_aces s p) (triple_more e (same_triple refl)))

  -- nothing is found exactly where no pixel gives such numbers
  pub nothing_gives : (a : Triple) → pixel_for (distance_of k) s a ≡ None → (p : Pixel) → IsPixel s p → within3 (distance_of k) a (pixel_aces s p) ≡ true → ⊥
  nothing_gives a f p i h = search.not_nothing (sym f ∙ given_found a p i h)

  pub nothing_found : (a : Triple) → ((p : Pixel) → IsPixel s p → within3 (distance_of k) a (pixel_aces s p) ≡ true → ⊥) → pixel_for (distance_of k) s a ≡ None
  nothing_found a never = go (pixel_for (distance_of k) s a) refl
    where
      go : (f : Option Pixel) → pixel_for (distance_of k) s a ≡ f → f ≡ None
      go (Some p) h = let g = found_gives (distance_of k) s a p h in absurd (never p g.0 g.1)
      go None h = refl

  -- what the exact way back finds, either finds
  pub exact_then_either : (a : Triple) (p : Pixel) → pixel_for exact s a ≡ Some p → pixel_for (distance_of k) s a ≡ Some p
  exact_then_either a p f =
      given_found a p (found_gives exact s a p f).0 (near_within3 e a (pixel_aces s p) (triple_more e (search.near_found exact decoded s a p f)))

-- ---- "two different pixels of one setting always differ by at least 12 units in some ACES channel": by any numbers that the rules allow for the
-- codes, and so by the decoded numbers
pub allowed_apart : (s : Setting) → ValidForAces s → (number : ℕ → ℤ) → ((n : ℕ) → code_check s n ≡ Ok tt → DecodesCode s n (number n)) → AllApart number s
allowed_apart s v number allowed p q i j differ = go (near_or_differ (2 * (apart / 2)) (aces_of number (matrix_of s) p) (aces_of number (matrix_of s) q))
  where
    go : NearTriple (aces_of number (matrix_of s) p) (aces_of number (matrix_of s) q) (2 * (apart / 2)) ⊎ Differ (suc (2 * (apart / 2))) (aces_of number (matrix_of s) p) (aces_of number (matrix_of s) q)
        → Differ apart (aces_of number (matrix_of s) p) (aces_of number (matrix_of s) q)
    go (inl n) = absurd (differ (one_by s v number allowed (apart / 2) (enough_for (apart / 2) tt tt tt s v) p q i j n))
    go (inr d) = differ_less (lit≤ tt) d

pub pixels_apart : (s : Setting) → ValidForAces s → AllApart (decoded s) s
pixels_apart s v = allowed_apart s v (decoded s) (decoding s (aces_valid s v))
