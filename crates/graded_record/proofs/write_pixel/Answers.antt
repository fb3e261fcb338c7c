-- The scene numbers for the numbers of a record that passes its check may be encoded.
use Rattle.std.specs.Prelude.{Ok}
use Rattle.std.proofs.Common.{◌≡◌, ap, sym, subst, ◌∙◌}
use Rattle.rules.specs.Triples.{Scenes}
use Rattle.rules.specs.declared.Setting.{Setting}
use Rattle.rules.specs.Triples.{Triple}
use Rattle.rules.specs.Graded.{graded_checks, IsGraded}
use Rattle.rules.specs.Setting.{ValidForAces}
use Rattle.aces_inverse.specs.Inverse.{candidates}
use Rattle.graded.proofs.Theorems.{graded_as_asked}
use Rattle.graded_record.proofs.write_pixel.Goals as goal

-- what is given for the numbers that are read
given : (s : Setting) (a b : Triple) (x : Scenes) → ValidForAces s → graded_checks b ≡ Ok tt → a ≡ b → x ≡ candidates s a → IsGraded s b x
given s a b x v p e f = subst (IsGraded s b) (sym (f ∙ ap (candidates s) e)) (graded_as_asked s b v p)

pub pixel_of-p-requires-clause-red_value : goal.pixel_of-p-requires-clause-red_value
pixel_of-p-requires-clause-red_value c =
    (given c.args.d.now.setting _ _ _ c.requires.valid_for_aces c.requires.r_value c.channels_in.ensures c.scenes_for-x.ensures).red_encodes

pub pixel_of-p-requires-clause-green_value : goal.pixel_of-p-requires-clause-green_value
pixel_of-p-requires-clause-green_value c =
    (given c.args.d.now.setting _ _ _ c.requires.valid_for_aces c.requires.r_value c.channels_in.ensures c.scenes_for-x.ensures).green_encodes

pub pixel_of-p-requires-clause-blue_value : goal.pixel_of-p-requires-clause-blue_value
pixel_of-p-requires-clause-blue_value c =
    (given c.args.d.now.setting _ _ _ c.requires.valid_for_aces c.requires.r_value c.channels_in.ensures c.scenes_for-x.ensures).blue_encodes
