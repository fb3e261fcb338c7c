-- `gives` meets its contract: the numbers of a pixel are in reach, as those given are.
use Rattle.std.proofs.Common.{sym, subst}
use Rattle.rules.specs.Triples.{Triple}
use Rattle.aces_inverse.specs.Reach.{InReach}
use Rattle.way_back.proofs.Reach.{pixel_reached}
use Rattle.way_back.proofs.gives.Goals as goal

pub all_within-requires-clause-b_in_reach : goal.all_within-requires-clause-b_in_reach
all_within-requires-clause-b_in_reach c =
    subst (λ (a : Triple). InReach a.red.0 a.green.0 a.blue.0) (sym c.of_pixel.ensures) (pixel_reached c.args.d.now.setting c.requires.valid_for_aces c.args.p c.requires.pixel)
