-- Numbers that pass their check are in reach of the inverse, and what it makes of them is near.
-- Assumes nothing.
use Rattle.std.specs.Prelude.{Ok}
use mathlib.Core.Path.{◌≡◌}
use Prim.Native.Nat.{ℕ, ◌≤◌}
use lib.Dec.{lit<}
use Rattle.whole.proofs.Near.{near_swap, near_more}
use Rattle.rules.specs.declared.Setting.{Setting}
use Rattle.rules.specs.Triples.{Triple}
use Rattle.rules.specs.Matrix.{matrix_of}
use Rattle.rules.specs.Pixels.{aces_triple}
use Rattle.rules.specs.Setting.{ValidForAces}
use Rattle.rules.specs.Graded.{graded_checks, GradedWithin}
use Rattle.rules.proofs.Graded.{all_graded}
use Rattle.rules.proofs.Within.{near_within3}
use Rattle.aces_inverse.specs.Reach.{InReach}
use Rattle.aces_inverse.specs.Inverse.{candidates}
use Rattle.aces_inverse.proofs.Inverse.{candidate_encodes, candidates_near}
use Rattle.graded.specs.Graded.{reached}

pub passed_reach : (a : Triple) → graded_checks a ≡ Ok tt → InReach a.red.0 a.green.0 a.blue.0
passed_reach = all_graded

module _ (s : Setting) (v : ValidForAces s) (a : Triple) (h : graded_checks a ≡ Ok tt) where
  reach : InReach a.red.0 a.green.0 a.blue.0
  reach = passed_reach a h

  -- at most e units away, where e is not below what is reached
  pub within : (e : ℕ) → reached ≤ e → GradedWithin e s a (candidates s a)
  within e l =
      record {
        near = near_within3 e a (aces_triple (matrix_of s) (candidates s a))
            (record {
              red = near_more l (near_swap (candidates_near s v a.red.0 a.green.0 a.blue.0 reach 0 (lit< tt)));
              green = near_more l (near_swap (candidates_near s v a.red.0 a.green.0 a.blue.0 reach 1 (lit< tt)));
              blue = near_more l (near_swap (candidates_near s v a.red.0 a.green.0 a.blue.0 reach 2 (lit< tt)));
            });
        red_encodes = candidate_encodes s v a.red.0 a.green.0 a.blue.0 reach 0 (lit< tt);
        green_encodes = candidate_encodes s v a.red.0 a.green.0 a.blue.0 reach 1 (lit< tt);
        blue_encodes = candidate_encodes s v a.red.0 a.green.0 a.blue.0 reach 2 (lit< tt);
      }
