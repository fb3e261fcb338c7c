-- A number that is the nearest whole number to the exact value in units: what the rules ask in the toe (a half going up), and more than they
-- ask in the power part, where the number is strictly nearer than a half.
-- Assumes nothing.
use Rattle.std.specs.Prelude.{◌≡◌, ℕ, ℤ, Ok}
use Rattle.rules.specs.declared.Setting.{Setting}
use Rattle.rules.specs.Setting.{step_of, code_check, Valid}
use Rattle.rules.specs.Exact.{Scale, scale_of}
use Rattle.rules.specs.Decoding.{DecodesWithin}
use Rattle.decoded_margins.specs.Half.{half}

-- y is the nearest whole number to the exact value at a step
abbrev pub Nearest : Scale → ℕ → ℤ → Type 0
Nearest = DecodesWithin half

-- numbers for the codes of settings, each of them the nearest: what anyone computes from the published curves
abbrev pub NearestNumbers : (number : Setting → ℕ → ℤ) → Type 0
NearestNumbers number = (s : Setting) → Valid s → (n : ℕ) → code_check s n ≡ Ok tt → Nearest (scale_of s) (step_of s n) (number s n)
