-- The bytes of a record, part by part: the setting in four bytes, and three channels of n bytes each.
-- Assumes nothing.
use mathlib.Core.Path.{◌≡◌, refl, ap₂, ◌∙◌}
use mathlib.Core.List.{List, [], ◌∷◌, ◌++◌}
use Prim.Native.Nat.{ℕ, ◌+◌, ◌%◌, ◌<◌}
use native.Mathlib.Nat.{le_of_eq}
use native.Mathlib.Omega.{arith}
use lib.ListN.{length, set, length-append}
use Rattle.rules.specs.declared.Setting.{Setting}
use Rattle.rules.specs.Record.{digits, bytes_of, Channels, record_of, setting_bytes}
use Rattle.rules.proofs.Records.{length_digits, length_setting, record_parts}
use Rattle.little_endian.proofs.Stretch.{pasted, onward, emptied}

-- a setting: its first two bytes are stored, and the EI is written behind them
pub setting_put : (out : List ℕ) {p : List ℕ} (curve width ei : ℕ) → length out ≡ setting_bytes → curve < 256 → width < 256 → p ≡ digits 2 ei
    → pasted (set (set out 0 curve) 1 width) 2 setting_bytes p ≡ bytes_of (1 ∷ 1 ∷ 2 ∷ []) (curve ∷ width ∷ ei ∷ [])
unfolding bytes_of digits
setting_put [] curve width ei l h g e = absurd (omega arith)
setting_put (a ∷ []) curve width ei l h g e = absurd (omega arith)
setting_put (a ∷ b ∷ []) curve width ei l h g e = absurd (omega arith)
setting_put (a ∷ b ∷ c ∷ []) curve width ei l h g e = absurd (omega arith)
setting_put (a ∷ b ∷ c ∷ d ∷ []) curve width ei l h g e =
    let x : curve % 256 ≡ curve = omega arith in
    let y : width % 256 ≡ width = omega arith in
    rw (x, y, e)
setting_put (a ∷ b ∷ c ∷ d ∷ f ∷ r) curve width ei l h g e = absurd (omega arith)

-- a record that is written in four stretches
module _ (n : ℕ) (s : Setting) (c : Channels) (out : List ℕ) where
  abbrev setting : List ℕ
  setting = bytes_of (1 ∷ 1 ∷ 2 ∷ []) (s.curve ∷ s.width ∷ s.ei ∷ [])

  two : length (setting ++ digits n c.red) ≡ setting_bytes + n
  two = length-append setting (digits n c.red) ∙ ap₂ (λ (x y : ℕ). x + y) (length_setting s) (length_digits n c.red)

  three : length ((setting ++ digits n c.red) ++ digits n c.green) ≡ setting_bytes + n + n
  three =
      length-append (setting ++ digits n c.red) (digits n c.green) ∙ ap₂ (λ (x y : ℕ). x + y) two (length_digits n c.green)

  pub four_parts : {p q u v : List ℕ} → length out ≡ setting_bytes + n + n + n → p ≡ setting → q ≡ digits n c.red → u ≡ digits n c.green → v ≡ digits n c.blue
      → pasted (pasted (pasted (pasted out 0 setting_bytes p) setting_bytes (setting_bytes + n) q) (setting_bytes + n) (setting_bytes + n + n) u) (setting_bytes + n + n) (setting_bytes + n + n + n) v ≡ record_of n s c
  four_parts l e f g h =
      onward (setting_bytes + n + n) n ((setting ++ digits n c.red) ++ digits n c.green) out three
      (onward (setting_bytes + n) n (setting ++ digits n c.red) out two
      (onward setting_bytes n setting out (length_setting s)
      (onward 0 setting_bytes [] out refl refl e) f) g) h
      ∙ emptied (((setting ++ digits n c.red) ++ digits n c.green) ++ digits n c.blue) out (setting_bytes + n + n + n) (le_of_eq l)
      ∙ record_parts n s c
