-- 02, item 7, of one record: for every valid setting and every graded triple the scene triple that is given has an ACES triple within the bound,
-- and can be encoded; and when it is refused.
-- Assumes nothing.
use Rattle.std.specs.Prelude.{Err, Ok}
use mathlib.Core.Logic.{◌↔◌}
use mathlib.Core.Path.{◌≡◌, refl, sym, subst}
use native.Mathlib.Omega.{arith}
use lib.Dec.{lit<, lit≤}
use lib.IntN.{ℤ}
use Rattle.rules.specs.Refusal.{Check, OrRefusal, then}
use Rattle.rules.specs.declared.Setting.{Setting}
use Rattle.rules.specs.Triples.{Triple, Scenes}
use Rattle.rules.specs.Result.{Result, single}
use Rattle.rules.specs.Setting.{aces_check, ValidForAces}
use Rattle.rules.specs.Graded.{WithinLimits, graded_checks, IsGraded, GradedWithin, scene_numbers}
use Rattle.rules.specs.Calls.{GivesGraded}
use Rattle.rules.proofs.Graded.{all_graded, graded_all, call_never}
use Rattle.rules.proofs.Results.{zero_passed}
use Rattle.rules.proofs.Settings.{both}
use Rattle.aces_inverse.specs.Inverse.{candidates}
use Rattle.graded.specs.Graded.{reached, answer_result, to_scene_result}
use Rattle.graded.proofs.Near.{within}

module _ (s : Setting) (a : Triple) where
  -- THE SCENE TRIPLE is as 02 asks
  pub graded_as_asked : ValidForAces s → graded_checks a ≡ Ok tt → IsGraded s a (candidates s a)
  graded_as_asked v h = within s v a h _ (lit≤ tt)

  -- and nearer
  pub graded_near : ValidForAces s → graded_checks a ≡ Ok tt → GradedWithin reached s a (candidates s a)
  graded_near v h = within s v a h reached (lit≤ tt)

  -- so is what the call on one record gives
  pub call_near : GivesGraded reached s a (to_scene_result s a).values
  unfolding to_scene_result
  call_near = go (then (aces_check s) (graded_checks a)) refl
    where
      go : (x : Check) → then (aces_check s) (graded_checks a) ≡ x → GivesGraded reached s a (single x (scene_numbers (candidates s a))).values
      go (Ok tt) e = let p = both (aces_check s) (graded_checks a) e in GivesGraded.three (candidates s a) (graded_near p.0 p.1)
      go (Err why) e = GivesGraded.none

  pub given_near : (x : OrRefusal Scenes) → answer_result x ≡ to_scene_result s a → GivesGraded reached s a (answer_result x).values
  given_near x e = subst (λ (y : Result ℤ). GivesGraded reached s a y.values) (sym e) call_near

  -- IT GIVES A TRIPLE exactly where the setting is valid and no number is beyond the limits
  pub gives_exactly : ((to_scene_result s a).number ≡ 0) ↔ (ValidForAces s × WithinLimits a)
  unfolding to_scene_result
  gives_exactly = (
    λ e. let p = both (aces_check s) (graded_checks a) (zero_passed (then (aces_check s) (graded_checks a)) (scene_numbers (candidates s a)) e) in (p.0, all_graded a p.1),
    λ h. rw (h.0, graded_all a h.1),
  )

  -- 7 AND 10 never occur
  pub graded_never_seven : (to_scene_result s a).number ≡ 7 → ⊥
  unfolding to_scene_result
  graded_never_seven = call_never 7 (lit< tt) (λ e. omega arith) (λ e. omega arith) candidates s a

  pub graded_never_ten : (to_scene_result s a).number ≡ 10 → ⊥
  unfolding to_scene_result
  graded_never_ten = call_never 10 (lit< tt) (λ e. omega arith) (λ e. omega arith) candidates s a
