-- 01, "ACES and the way back": a pixel of a setting, and the ACES numbers that it gives.
-- Assumes nothing.
use Rattle.std.specs.Prelude.{List, [], ◌∷◌, ◌≡◌, ℕ, ◌≤◌, ℤ, nat_abs, Ok}
use Rattle.rules.specs.Refusal.{Check, then}
use Rattle.rules.specs.declared.Setting.{Setting}
use Rattle.rules.specs.Triples.{Pixel}
use Rattle.rules.specs.Triples.{Scenes}
use Rattle.rules.specs.Triples.{Triple}
use Rattle.rules.specs.Setting.{code_check}
use Rattle.rules.specs.Matrix.{Matrix, aces_number, matrix_of}

-- "A pixel of a valid setting is three codes that each pass the channel checks on codes."
pub record IsPixel (s : Setting) (p : Pixel) : Type 0 where
  pub red : code_check s p.red.0 ≡ Ok tt
  pub green : code_check s p.green.0 ≡ Ok tt
  pub blue : code_check s p.blue.0 ≡ Ok tt

-- its checks: "red, green and blue (each channel's checks before the next channel)"
abbrev pub each_code : (ℕ → Check) → Pixel → Check
each_code check p = then (check p.red.0) (then (check p.green.0) (check p.blue.0))

abbrev pub codes_check : Setting → Pixel → Check
codes_check s p = each_code (code_check s) p

-- three codes, three scene numbers, three ACES numbers
abbrev pub pixel : (r g b : ℕ) → Pixel
pixel r g b = record { red = record { 0 = r }; green = record { 0 = g }; blue = record { 0 = b } }

abbrev pub codes : Pixel → List ℕ
codes p = p.red.0 ∷ p.green.0 ∷ p.blue.0 ∷ []

abbrev pub scenes : (x y z : ℤ) → Scenes
scenes x y z = record { red = record { 0 = x }; green = record { 0 = y }; blue = record { 0 = z } }

abbrev pub triple : (x y z : ℤ) → Triple
triple x y z = record { red = record { 0 = x }; green = record { 0 = y }; blue = record { 0 = z } }

-- three numbers from -k to k
pub record Small3 (k : ℕ) (x y z : ℤ) : Type 0 where
  pub red : nat_abs x ≤ k
  pub green : nat_abs y ≤ k
  pub blue : nat_abs z ≤ k

-- the ACES triple of a scene triple
abbrev pub aces_triple : Matrix → Scenes → Triple
aces_triple m x =
    triple (aces_number m 0 x.red.0 x.green.0 x.blue.0)
    (aces_number m 1 x.red.0 x.green.0 x.blue.0)
    (aces_number m 2 x.red.0 x.green.0 x.blue.0)

-- "the pixel's three ACES numbers"
abbrev pub aces_of : (number : ℕ → ℤ) → Matrix → Pixel → Triple
aces_of number m p = aces_triple m (scenes (number p.red.0) (number p.green.0) (number p.blue.0))

-- the ACES numbers of a pixel of a setting, where codes have these numbers
abbrev pub aces_by : (number : Setting → ℕ → ℤ) → Setting → Pixel → Triple
aces_by number s p = aces_of (number s) (matrix_of s) p
