-- The record of the candidate is written where it gives the numbers, and else nothing is.
use Rattle.std.specs.Prelude.{None, Some}
use Rattle.std.proofs.Common.{◌≡◌, Bool, true, false, ap, sym, subst, ◌∙◌}
use Rattle.rules.specs.declared.Distance.{Distance}
use Rattle.rules.specs.Triples.{Pixel}
use Rattle.rules.specs.declared.Setting.{Setting}
use Rattle.rules.specs.Triples.{Triple}
use Rattle.rules.specs.Pixels.{IsPixel}
use Rattle.rules.specs.Setting.{ValidForAces}
use Rattle.rules.specs.WayBack.{within3, pixel_by, distance_of}
use Rattle.aces.specs.OfPixel.{pixel_aces}
use Rattle.way_back.specs.Back.{pixel_for}
use Rattle.way_back.specs.Candidate.{candidate_pixel, all_in_reach}
use Rattle.way_back.proofs.Only.{near_enough, candidate_is_pixel, out_of_reach, candidate_found, none_else}
use Rattle.way_back.proofs.Reach.{reached_given}
use Rattle.record_conversion.proofs.convert_aces.Goals as goal

-- what is found for the setting and the numbers of the record (s' and a'), by those that were read
module _ (k : Distance) (s s' : Setting) (a a' : Triple) (v : ValidForAces s) (es : s ≡ s') (ea : a ≡ a') where
  read : pixel_for (distance_of k) s a ≡ pixel_for (distance_of k) s' a'
  read = ap (λ (x : Setting). pixel_for (distance_of k) x a) es ∙ ap (pixel_for (distance_of k) s') ea

  -- numbers out of reach
  beyond : (x : Bool) → x ≡ all_in_reach a → x ≡ false → None ≡ pixel_for (distance_of k) s' a'
  unfolding pixel_by
  beyond x e h = out_of_reach (distance_of k) s v (near_enough k s v) a (sym e ∙ h) ∙ read

  -- what is tried is the candidate
  module _ (p : Pixel) (ep : p ≡ candidate_pixel s a) (x : Bool) (e : x ≡ within3 (distance_of k) a (pixel_aces s p)) where
    tried : x ≡ within3 (distance_of k) a (pixel_aces s (candidate_pixel s a))
    tried = e ∙ ap (λ (q : Pixel). within3 (distance_of k) a (pixel_aces s q)) ep

    other : x ≡ false → None ≡ pixel_for (distance_of k) s' a'
    unfolding pixel_by
    other h = none_else (distance_of k) s v (near_enough k s v) a (sym tried ∙ h) ∙ read

    same : x ≡ true → Some p ≡ pixel_for (distance_of k) s' a'
    unfolding pixel_by
    same h = ap Some ep ∙ candidate_found (distance_of k) s v (near_enough k s v) a (sym tried ∙ h) ∙ read

pub returns-then-not-all_in_reach-clause-value : goal.returns-then-not-all_in_reach-clause-value
returns-then-not-all_in_reach-clause-value c =
    rw (← beyond c.args.k c.args.d.now.setting _ _ _ c.requires.s_value.2 c.requires.s_value.0 c.channels_in-a.ensures _ c.all_in_reach.ensures c.if-not-all_in_reach.true)

pub candidate-p-requires-clause-in_reach : goal.candidate-p-requires-clause-in_reach
candidate-p-requires-clause-in_reach c = reached_given c.channels_in-a.result (sym c.all_in_reach.ensures ∙ c.if-not-all_in_reach.false)

pub gives-requires-clause-pixel : goal.gives-requires-clause-pixel
gives-requires-clause-pixel c = subst (IsPixel c.args.d.now.setting) (sym c.candidate-p.ensures) (candidate_is_pixel c.args.d.now.setting c.channels_in-a.result)

pub gives-requires-clause-in_reach : goal.gives-requires-clause-in_reach
gives-requires-clause-in_reach c = reached_given c.channels_in-a.result (sym c.all_in_reach.ensures ∙ c.if-not-all_in_reach.false)

pub returns-then-not-gives-clause-value : goal.returns-then-not-gives-clause-value
returns-then-not-gives-clause-value c =
    rw (← other c.args.k c.args.d.now.setting _ _ _ c.requires.s_value.2 c.requires.s_value.0 c.channels_in-a.ensures _ c.candidate-p.ensures _ c.gives.ensures c.if-not-gives.true)

pub returns-clause-value : goal.returns-clause-value
returns-clause-value c =
    rw (← same c.args.k c.args.d.now.setting _ _ _ c.requires.s_value.2 c.requires.s_value.0 c.channels_in-a.ensures _ c.candidate-p.ensures _ c.gives.ensures c.if-not-gives.false)

pub returns-clause-out_after : goal.returns-clause-out_after
returns-clause-out_after c =
    rw (← same c.args.k c.args.d.now.setting _ _ _ c.requires.s_value.2 c.requires.s_value.0 c.channels_in-a.ensures _ c.candidate-p.ensures _ c.gives.ensures c.if-not-gives.false, ← c.requires.s_value.0)
    c.put.ensures
