-- `find` meets its contract: no pixel gives numbers out of reach, or nearly, and the candidate is the only one that can give the others.
use Rattle.std.specs.Bool.{then_some}
use Rattle.std.proofs.Common.{Bool, ◌≡◌, sym, ap, ◌∙◌, subst}
use Rattle.rules.specs.declared.Distance.{Distance}
use Rattle.rules.specs.Triples.{Pixel, Triple}
use Rattle.rules.specs.declared.Setting.{Setting}
use Rattle.rules.specs.Pixels.{IsPixel}
use Rattle.rules.specs.Setting.{ValidForAces}
use Rattle.rules.specs.WayBack.{within3, pixel_by, distance_of}
use Rattle.aces.specs.OfPixel.{pixel_aces}
use Rattle.way_back.specs.Candidate.{candidate_pixel}
use Rattle.way_back.proofs.Reach.{reached_given}
use Rattle.way_back.proofs.Only.{near_enough, candidate_is_pixel, pixel_near, out_of_reach, candidate_tried}
use Rattle.way_back.proofs.find.Goals as goal

pub candidate-p-requires-clause-in_reach : goal.candidate-p-requires-clause-in_reach
candidate-p-requires-clause-in_reach c = reached_given c.args.a (sym c.all_in_reach.ensures ∙ c.if-not-all_in_reach.false)

pub gives-requires-clause-in_reach : goal.gives-requires-clause-in_reach
gives-requires-clause-in_reach c = reached_given c.args.a (sym c.all_in_reach.ensures ∙ c.if-not-all_in_reach.false)

pub gives-requires-clause-pixel : goal.gives-requires-clause-pixel
gives-requires-clause-pixel c = subst (IsPixel c.args.d.now.setting) (sym c.candidate-p.ensures) (candidate_is_pixel c.args.d.now.setting c.args.a)

pub returns-then-not-all_in_reach : goal.returns-then-not-all_in_reach
unfolding pixel_by
returns-then-not-all_in_reach c =
    let k = c.args.k in
    let s = c.args.d.now.setting in
    let v = c.requires.valid_for_aces in
    out_of_reach (distance_of k) s v (near_enough k s v) c.args.a (sym c.all_in_reach.ensures ∙ c.if-not-all_in_reach.true)

-- what is tried is the candidate
tried : (k : Distance) (s : Setting) (v : ValidForAces s) (a : Triple) {p : Pixel} {b : Bool}
    → p ≡ candidate_pixel s a → b ≡ within3 (distance_of k) a (pixel_aces s p) → then_some b p ≡ pixel_near (distance_of k) s a
tried k s v a {p} {b} e h =
    ap (then_some b) e ∙ candidate_tried (distance_of k) s v (near_enough k s v) a b (h ∙ ap (λ (q : Pixel). within3 (distance_of k) a (pixel_aces s q)) e)

pub returns : goal.returns
unfolding pixel_by
returns c = c.then_some.ensures ∙ tried c.args.k c.args.d.now.setting c.requires.valid_for_aces c.args.a c.candidate-p.ensures c.gives.ensures
