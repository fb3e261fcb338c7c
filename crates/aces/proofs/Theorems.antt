-- DEMANDS 2 and 3, the ACES numbers of a pixel, for every setting that is valid for ACES.
-- Assumes nothing.
use Rattle.std.specs.Prelude.{Ok}
use mathlib.Core.Path.{◌≡◌, sym, subst}
use Prim.Native.Nat.{ℕ, ◌<◌}
use native.Mathlib.Nat.{le_trans}
use lib.Dec.{lit≤}
use lib.IntN.{ℤ}
use Rattle.rules.specs.declared.Setting.{Setting}
use Rattle.rules.specs.Setting.{step_of, code_check, Valid, ValidForAces}
use Rattle.rules.specs.Exact.{scale_of}
use Rattle.rules.specs.Decoding.{DecodesCode}
use Rattle.rules.specs.Matrix.{matrix_of, aces_number, IsAces}
use Rattle.rules.specs.ExactRow.{aces_tolerance, WithinRow}
use Rattle.rules.proofs.Settings.{aces_valid}
use Rattle.decode.specs.Decoded.{decoded}
use Rattle.decode.proofs.Close.{decodes_close}
use Rattle.decode.proofs.Distance.{decoded_small}
use Rattle.decode.proofs.Theorems.{decoding}
use Rattle.row_product.specs.Row.{Number}
use Rattle.aces.proofs.Greys.{greys_stay}
use Rattle.aces.proofs.Within.{matrix_within}

-- a decoded number may be taken to ACES
pub decoded_number : (s : Setting) → Valid s → (n : ℕ) → code_check s n ≡ Ok tt → Number (decoded s n)
decoded_number s v n e = record { small = le_trans (decoded_small s v n e) (lit≤ tt) }

pub scene_number : (s : Setting) → Valid s → (x : ℤ) (n : ℕ) → code_check s n ≡ Ok tt → x ≡ decoded s n → Number x
scene_number s v x n e h = subst Number (sym h) (decoded_number s v n e)

module _ (s : Setting) (v : ValidForAces s) where
  abbrev valid : Valid s
  valid = aces_valid s v

  -- "three equal codes give three equal ACES numbers", and these are the code's decoded number
  pub equal_codes : (n : ℕ) → code_check s n ≡ Ok tt → IsAces (matrix_of s) (decoded s n) (decoded s n) (decoded s n) (decoded s n) (decoded s n) (decoded s n)
  equal_codes n e = greys_stay s v (decoded s n) (decoded_number s valid n e)

  -- "ACES numbers then lie within .. of the exact curve and matrix": of any numbers that the rules allow for three codes
  pub allowed_within : (i : ℕ) → i < 3 → (r g b : ℕ) (x y z : ℤ) → DecodesCode s r x → DecodesCode s g y → DecodesCode s b z
      → WithinRow aces_tolerance (matrix_of s) i (scale_of s) (step_of s r) (step_of s g) (step_of s b) (aces_number (matrix_of s) i x y z)
  allowed_within i h r g b x y z dx dy dz =
      matrix_within s v i h (scale_of s) (step_of s r) (step_of s g) (step_of s b) x y z (decodes_close s valid r x dx) (decodes_close s valid g y dy) (decodes_close s valid b z dz)

  -- "each ACES number made from it is less than .. from what the exact curve and matrix give": of the decoded numbers
  pub aces_within : (i : ℕ) → i < 3 → (r g b : ℕ) → code_check s r ≡ Ok tt → code_check s g ≡ Ok tt → code_check s b ≡ Ok tt
      → WithinRow aces_tolerance (matrix_of s) i (scale_of s) (step_of s r) (step_of s g) (step_of s b) (aces_number (matrix_of s) i (decoded s r) (decoded s g) (decoded s b))
  aces_within i h r g b hr hg hb =
      allowed_within i h r g b (decoded s r) (decoded s g) (decoded s b) (decoding s valid r hr) (decoding s valid g hg) (decoding s valid b hb)
