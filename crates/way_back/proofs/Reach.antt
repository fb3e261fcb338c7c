-- Three numbers in reach, as the rules' words and as the program's test say it; and those of a pixel are so.
-- Assumes nothing.
use mathlib.Core.Bool.{Bool, true, false}
use mathlib.Core.Path.{◌≡◌, refl, sym, subst}
use lib.Dec.{T}
use Rattle.rules.specs.Triples.{Pixel, Triple}
use Rattle.rules.specs.declared.Setting.{Setting}
use Rattle.rules.specs.Choice.{choose, between}
use Rattle.rules.specs.Pixels.{IsPixel}
use Rattle.rules.specs.Setting.{ValidForAces}
use Rattle.rules.proofs.Between.{small_between, between_small}
use Rattle.rules.proofs.Settings.{aces_valid}
use Rattle.decode.specs.Decoded.{decoded}
use Rattle.decode.proofs.Distance.{decoded_small}
use Rattle.aces.specs.OfPixel.{pixel_aces}
use Rattle.aces_inverse.specs.Reach.{reach, InReach}
use Rattle.aces_inverse.proofs.Inverse.{aces_small}
use Rattle.way_back.specs.Candidate.{in_reach, all_in_reach}

-- numbers that a pixel may have
pub given_reached : (a : Triple) → InReach a.red.0 a.green.0 a.blue.0 → all_in_reach a ≡ true
unfolding all_in_reach in_reach
given_reached a g =
    let r : between reach a.red.0 ≡ true = small_between reach a.red.0 g.red in
    let e : between reach a.green.0 ≡ true = small_between reach a.green.0 g.green in
    let b : between reach a.blue.0 ≡ true = small_between reach a.blue.0 g.blue in
    rw (r, e, b)

pub reached_given : (a : Triple) → all_in_reach a ≡ true → InReach a.red.0 a.green.0 a.blue.0
unfolding all_in_reach in_reach
reached_given a e = go (between reach a.red.0) (between reach a.green.0) (between reach a.blue.0) refl refl refl e
  where
    go : (r g b : Bool) → between reach a.red.0 ≡ r → between reach a.green.0 ≡ g → between reach a.blue.0 ≡ b
        → choose r (choose g b false) false ≡ true → InReach a.red.0 a.green.0 a.blue.0
    go true true true p q r e =
        record { red = between_small reach a.red.0 p; green = between_small reach a.green.0 q; blue = between_small reach a.blue.0 r }
    go true true false p q r e = absurd (subst T (sym e) tt)
    go true false b p q r e = absurd (subst T (sym e) tt)
    go false g b p q r e = absurd (subst T (sym e) tt)

-- the numbers of a pixel are in reach
pub pixel_reached : (s : Setting) → ValidForAces s → (p : Pixel) → IsPixel s p → InReach (pixel_aces s p).red.0 (pixel_aces s p).green.0 (pixel_aces s p).blue.0
pixel_reached s v p i =
    aces_small s v (decoded s p.red.0) (decoded s p.green.0) (decoded s p.blue.0)
    (record {
      red = decoded_small s (aces_valid s v) p.red.0 i.red;
      green = decoded_small s (aces_valid s v) p.green.0 i.green;
      blue = decoded_small s (aces_valid s v) p.blue.0 i.blue;
    })
    (record { red_is = refl; green_is = refl; blue_is = refl })
