-- ONE RECORD, BY EITHER WAY BACK: it is refused where no pixel gives it, and else the only pixel that gives it is found.
-- Assumes nothing.
use Rattle.std.specs.Prelude.{Err, None, Ok, Option, Some}
use mathlib.Core.Bool.{true}
use mathlib.Core.Logic.{◌↔◌}
use mathlib.Core.Path.{◌≡◌, refl, ap, sym, ◌∙◌, subst}
use Prim.Native.Nat.{ℕ, ◌<◌}
use native.Mathlib.Omega.{arith}
use lib.Dec.{lit<}
use Rattle.rules.specs.Refusal.{Check, then, number_of, number_of_check}
use Rattle.rules.specs.declared.Distance.{Distance}
use Rattle.rules.specs.Triples.{Pixel, Triple}
use Rattle.rules.specs.declared.Refusal.{Refusal}
use Rattle.rules.specs.declared.Refusal.TheVariants.{NoPixel}
use Rattle.rules.specs.declared.Setting.{Setting}
use Rattle.rules.specs.Pixels.{IsPixel}
use Rattle.rules.specs.Result.{Result, refused_by, single}
use Rattle.rules.specs.Setting.{aces_check, ValidForAces}
use Rattle.rules.specs.WayBack.{within3, codes_found, found_check, distance_of}
use Rattle.rules.proofs.Never.{aces_never}
use Rattle.rules.proofs.Results.{number_bounds}
use Rattle.rules.proofs.Settings.{refused_never}
use Rattle.aces.specs.OfPixel.{pixel_aces}
use Rattle.way_back.specs.Back.{pixel_for, way_back_result}
use Rattle.way_back.proofs.Theorems.{found_gives, one_pixel, nothing_gives, nothing_found}
use Rattle.promise.specs.Words.{refusal_of, WithoutPixel, IsOnlyPixel, GivesOnly}

pub refusal_positive : (s : Setting) → 0 < refusal_of s
refusal_positive s = go (aces_check s)
  where
    go : (x : Check) → 0 < number_of_check (then x (Err NoPixel))
    go (Ok tt) = (number_bounds NoPixel).0
    go (Err why) = (number_bounds why).0

-- G says of the pixels of a valid setting that their ACES numbers are at most the distance from a in every channel
abbrev pub Reads : Distance → Setting → Triple → (Pixel → Type 0) → Type 0
Reads k s a G = ValidForAces s → (p : Pixel) → IsPixel s p → G p ↔ (within3 (distance_of k) a (pixel_aces s p) ≡ true)

-- the checks of a record pass, and the only pixel that gives it is found; or they refuse it, and it is without a pixel
pub data Judged (s : Setting) (G : Pixel → Type 0) : Check → Option Pixel → Type 0 where
  returned : (p : Pixel) → IsOnlyPixel s G p → Judged s G (Ok tt) (Some p)
  refused : (why : Refusal) (f : Option Pixel) → WithoutPixel s G → number_of why ≡ refusal_of s → Judged s G (Err why) f

-- a record with a pixel is not without one
pub not_both : {s : Setting} {G : Pixel → Type 0} {p : Pixel} → WithoutPixel s G → IsOnlyPixel s G p → ⊥
not_both (WithoutPixel.no_setting n) o = n o.valid
not_both {p = p} (WithoutPixel.no_pixel n) o = n p o.is_pixel o.gives

module _ (k : Distance) (s : Setting) (a : Triple) (G : Pixel → Type 0) (reads : Reads k s a G) where
  abbrev e : ℕ
  e = distance_of k

  found_only : ValidForAces s → (p : Pixel) → pixel_for (distance_of k) s a ≡ Some p → IsOnlyPixel s G p
  found_only v p f =
      let g = found_gives e s a p f in
      record {
        valid = v;
        is_pixel = g.0;
        gives = (reads v p g.0).1 g.1;
        only = λ q i h. one_pixel k s v a q p i g.0 ((reads v q i).0 h) g.1;
      }

  -- EVERY RECORD is one or the other
  pub judged : Judged s G (then (aces_check s) (found_check (pixel_for (distance_of k) s a))) (pixel_for (distance_of k) s a)
  judged = go (aces_check s) refl (pixel_for (distance_of k) s a) refl
    where
      numbered : (x : Check) → aces_check s ≡ x → number_of_check (then x (Err NoPixel)) ≡ refusal_of s
      numbered x h = ap (λ (y : Check). number_of_check (then y (Err NoPixel))) (sym h)

      go : (x : Check) → aces_check s ≡ x → (f : Option Pixel) → pixel_for (distance_of k) s a ≡ f → Judged s G (then x (found_check f)) f
      go (Err why) h f g = Judged.refused why f (WithoutPixel.no_setting (λ v. refused_never (sym h ∙ v))) (numbered (Err why) h)
      go (Ok tt) v (Some p) g = Judged.returned p (found_only v p g)
      go (Ok tt) v None g =
          Judged.refused NoPixel None (WithoutPixel.no_pixel (λ p i h. nothing_gives k s v a g p i ((reads v p i).0 h))) (numbered (Ok tt) v)

  -- 4 and 5 of one record: what the way back gives is a refusal of a record without a pixel, or the only pixel that gives it
  pub one_record : GivesOnly s G (way_back_result (distance_of k) s a)
  unfolding way_back_result
  one_record = go (then (aces_check s) (found_check (pixel_for e s a))) (pixel_for e s a) judged
    where
      go : (x : Check) (f : Option Pixel) → Judged s G x f → GivesOnly s G (single x (codes_found f))
      go _ _ (Judged.returned p o) = GivesOnly.returns p o
      go _ _ (Judged.refused why f w n) = subst (λ (m : ℕ). GivesOnly s G (refused_by m 0)) (sym n) (GivesOnly.refuses w)

  -- by 10 exactly when the setting is valid and no pixel of it gives the numbers
  pub ten_exactly : ((way_back_result (distance_of k) s a).number ≡ 10) ↔ (ValidForAces s × ((p : Pixel) → IsPixel s p → G p → ⊥))
  unfolding way_back_result
  ten_exactly = (go (aces_check s) refl (pixel_for e s a) refl, λ n. rw (n.0, none n.0 n.1))
    where
      none : ValidForAces s → ((p : Pixel) → IsPixel s p → G p → ⊥) → pixel_for (distance_of k) s a ≡ None
      none v n = nothing_found k s v a (λ p i h. n p i ((reads v p i).1 h))

      go : (x : Check) → aces_check s ≡ x → (f : Option Pixel) → pixel_for (distance_of k) s a ≡ f → (single (then x (found_check f)) (codes_found f)).number ≡ 10 → ValidForAces s × ((p : Pixel) → IsPixel s p → G p → ⊥)
      go (Err why) h f g t = absurd (aces_never 10 (lit< tt) (λ d. omega arith) s (ap number_of_check h ∙ t))
      go (Ok tt) v (Some p) g t = absurd (omega arith)
      go (Ok tt) v None g t = (v, λ p i h. nothing_gives k s v a g p i ((reads v p i).0 h))

  -- so it refuses exactly when the setting is not valid or no pixel of it gives the numbers
  pub one_refuses : (0 < (way_back_result (distance_of k) s a).number) ↔ WithoutPixel s G
  one_refuses = (forth (way_back_result e s a) one_record, back_again (way_back_result e s a) one_record)
    where
      forth : (r : Result ℕ) → GivesOnly s G r → 0 < r.number → WithoutPixel s G
      forth _ (GivesOnly.refuses w) p = w
      forth _ (GivesOnly.returns q o) p = absurd (omega arith)

      back_again : (r : Result ℕ) → GivesOnly s G r → WithoutPixel s G → 0 < r.number
      back_again _ (GivesOnly.refuses w) n = refusal_positive s
      back_again _ (GivesOnly.returns q o) n = absurd (not_both n o)
