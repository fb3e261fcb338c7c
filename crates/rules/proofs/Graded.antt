-- 02, item 7: REFUSAL 14 and its place, and the refusals that the graded road never gives.
-- Assumes nothing.
use Rattle.std.specs.Prelude.{Err, Ok}
use mathlib.Core.Bool.{Bool, true, false}
use mathlib.Core.List.{List}
use mathlib.Core.Logic.{◌↔◌, inl, inr}
use mathlib.Core.Path.{◌≡◌, refl, ap, sym, ◌∙◌}
use Prim.Native.Nat.{ℕ, ◌+◌, ◌^◌, ◌<◌, ◌≤◌}
use native.Mathlib.Omega.{arith}
use lib.IntN.{ℤ, pos, nat_abs}
use Rattle.whole.specs.Parts.{minus}
use Rattle.whole.proofs.Apart.{less_or_not}
use Rattle.rules.specs.declared.Refusal.TheVariants.{GradedOutOfRange}
use Rattle.rules.specs.Triples.{Scenes}
use Rattle.rules.specs.declared.Setting.{Setting}
use Rattle.rules.specs.Triples.{Triple}
use Rattle.rules.specs.Choice.{between}
use Rattle.rules.specs.Refusal.{number_of_check, then, refuse_unless}
use Rattle.rules.specs.Setting.{setting_check, aces_check}
use Rattle.rules.specs.Pixels.{triple}
use Rattle.rules.specs.Record.{value, digits, bytes_of, record_of, setting_of, triple_in, aces_record}
use Rattle.rules.specs.Graded.{graded_limit, WithinLimits, graded_check, graded_checks, scene_numbers}
use Rattle.rules.specs.Strip.{record_check, result_of}
use Rattle.rules.specs.Conversions.{graded_to_scene, graded_to_pixel}
use Rattle.rules.specs.Calls.{graded_by}
use Rattle.rules.proofs.Settings.{both, refused_never}
use Rattle.rules.proofs.Between.{small_between, between_small, test_passed}
use Rattle.rules.proofs.Never.{Never, unless, after, after_three, aces_never, single_never, strip_never}

abbrev setting : (curve width ei : ℕ) → Setting
setting curve width ei = record { curve = curve; width = width; ei = ei }

-- ---- IN ITS PLACE, in the call on one record and in both conversions: after 3, 4, 5 and 12; both ends pass, and the numbers beyond them do not, in
-- each channel
pub record InPlace (refusal_of : Setting → Triple → ℕ) : Type 0 where
  pub curve_first : refusal_of (setting 1 12 800) (triple (pos (2 ^ 38 + 1)) (pos 0) (pos 0)) ≡ 3
  pub width_first : refusal_of (setting 3 11 800) (triple (pos (2 ^ 38 + 1)) (pos 0) (pos 0)) ≡ 4
  pub ei_first : refusal_of (setting 3 12 801) (triple (pos (2 ^ 38 + 1)) (pos 0) (pos 0)) ≡ 5
  pub matrix_first : refusal_of (setting 2 12 800) (triple (pos (2 ^ 38 + 1)) (pos 0) (pos 0)) ≡ 12
  pub ends_pass : refusal_of (setting 3 12 800) (triple (pos (2 ^ 38)) (minus (2 ^ 38)) (pos (2 ^ 38))) ≡ 0
  pub red_beyond : refusal_of (setting 3 12 800) (triple (pos (2 ^ 38 + 1)) (pos 0) (pos 0)) ≡ 14
  pub green_beyond : refusal_of (setting 4 12 0) (triple (pos 0) (minus (2 ^ 38 + 1)) (pos 0)) ≡ 14
  pub blue_beyond : refusal_of (setting 4 140 0) (triple (pos 0) (pos 0) (pos (2 ^ 38 + 1))) ≡ 14

module _ (scenesFor : Setting → Triple → Scenes) (number : Setting → ℕ → ℤ) where
  pub call_in_place : InPlace (λ s a. (graded_by scenesFor s a).number)
  unfolding setting_check aces_check graded_check graded_checks
  call_in_place =
      record { curve_first = refl; width_first = refl; ei_first = refl; matrix_first = refl; ends_pass = refl; red_beyond = refl; green_beyond = refl; blue_beyond = refl }

  pub to_scene_in_place : InPlace (λ s a. number_of_check (record_check (graded_to_scene scenesFor) (aces_record s a)))
  unfolding setting_check aces_check graded_check graded_checks record_of bytes_of digits value
  to_scene_in_place =
      record { curve_first = refl; width_first = refl; ei_first = refl; matrix_first = refl; ends_pass = refl; red_beyond = refl; green_beyond = refl; blue_beyond = refl }

  pub to_pixel_in_place : InPlace (λ s a. number_of_check (record_check (graded_to_pixel scenesFor number) (aces_record s a)))
  unfolding setting_check aces_check graded_check graded_checks record_of bytes_of digits value
  to_pixel_in_place =
      record { curve_first = refl; width_first = refl; ei_first = refl; matrix_first = refl; ends_pass = refl; red_beyond = refl; green_beyond = refl; blue_beyond = refl }

-- ---- a number that passes
graded_passes : (a : ℤ) → nat_abs a ≤ graded_limit → graded_check a ≡ Ok tt
unfolding graded_check
graded_passes a h = ap (λ (b : Bool). refuse_unless b GradedOutOfRange) (small_between graded_limit a h)

graded_passed : (a : ℤ) → graded_check a ≡ Ok tt → nat_abs a ≤ graded_limit
unfolding graded_check
graded_passed a e = between_small graded_limit a (test_passed (between graded_limit a) GradedOutOfRange e)

-- 14 EXACTLY: a number is refused by it where it is beyond the limit, on either side
pub fourteen_exactly : (a : ℤ) → (graded_check a ≡ Err GradedOutOfRange) ↔ (graded_limit < nat_abs a)
unfolding graded_check
fourteen_exactly a = (forth, back)
  where
    forth : graded_check a ≡ Err GradedOutOfRange → graded_limit < nat_abs a
    forth e = elim (less_or_not graded_limit (nat_abs a)) [ inl l ↦ l | inr h ↦ refused_never (sym e ∙ graded_passes a h) ]

    back : graded_limit < nat_abs a → graded_check a ≡ Err GradedOutOfRange
    back h = go (between graded_limit a) refl
      where
        go : (b : Bool) → between graded_limit a ≡ b → refuse_unless b GradedOutOfRange ≡ Err GradedOutOfRange
        go true e = absurd (omega (arith, graded_passed a (ap (λ (b : Bool). refuse_unless b GradedOutOfRange) e)))
        go false e = refl

-- of three numbers
pub all_graded : (a : Triple) → graded_checks a ≡ Ok tt → WithinLimits a
unfolding graded_checks
all_graded a e =
    let r = both (graded_check a.red.0) (then (graded_check a.green.0) (graded_check a.blue.0)) e in
    let g = both (graded_check a.green.0) (graded_check a.blue.0) r.1 in
    record { red = graded_passed a.red.0 r.0; green = graded_passed a.green.0 g.0; blue = graded_passed a.blue.0 g.1 }

pub graded_all : (a : Triple) → WithinLimits a → graded_checks a ≡ Ok tt
unfolding graded_checks
graded_all a h = rw (graded_passes a.red.0 h.red, graded_passes a.green.0 h.green, graded_passes a.blue.0 h.blue)

-- ---- what the graded road never answers: a number that is no strip's and no setting's, and not 12 or 14. So it never answers 7 or 10
module _ (m : ℕ) (later : 5 < m) (no_matrix_lem : 12 ≡ m → ⊥) (no-limit : 14 ≡ m → ⊥) where
  graded_never : (a : ℤ) → Never m (graded_check a)
  unfolding graded_check
  graded_never a = unless m later (between graded_limit a) GradedOutOfRange no-limit

  checks_never : (s : Setting) (a : Triple) → Never m (then (aces_check s) (graded_checks a))
  unfolding graded_checks
  checks_never s a =
      after m later (aces_check s) (graded_checks a) (aces_never m later no_matrix_lem s)
      (after_three m later (graded_check a.red.0) (graded_check a.green.0) (graded_check a.blue.0) (graded_never a.red.0) (graded_never a.green.0) (graded_never a.blue.0))

  module _ (scenesFor : Setting → Triple → Scenes) where
    pub call_never : (s : Setting) (a : Triple) → (graded_by scenesFor s a).number ≡ m → ⊥
    call_never s a = single_never m later (then (aces_check s) (graded_checks a)) (scene_numbers (scenesFor s a)) (checks_never s a)

    pub to_scene_never : (input output : List ℕ) → (result_of (graded_to_scene scenesFor) input output).number ≡ m → ⊥
    to_scene_never = strip_never m later (graded_to_scene scenesFor) (λ r. checks_never (setting_of r) (triple_in r))

    pub to_pixel_never : (number : Setting → ℕ → ℤ) (input output : List ℕ) → (result_of (graded_to_pixel scenesFor number) input output).number ≡ m → ⊥
    to_pixel_never number = strip_never m later (graded_to_pixel scenesFor number) (λ r. checks_never (setting_of r) (triple_in r))
