-- 01, "ACES and the way back", and 02, item 8: the pixel that gives three numbers, exactly or nearly, and how far two pixels are apart. Of a setting
-- it needs its codes, the decoded number of each, and the matrix.
-- Assumes nothing.
use Rattle.std.specs.Prelude.{Bool, false, List, [], ◌≡◌, ℕ, zero, suc, ◌≤◌, ℤ, pos, nat_abs, ◌+ℤ◌, ◌-ℤ◌, Err, None, Ok, Option, Some}
use Rattle.std.specs.Int.Signed.{le_z}
use Rattle.rules.specs.Refusal.{Check}
use Rattle.rules.specs.declared.Distance.{Distance}
use Rattle.rules.specs.declared.Distance.TheVariants.{Exact, Tolerant}
use Rattle.rules.specs.declared.Refusal.TheVariants.{NoPixel}
use Rattle.rules.specs.declared.Setting.{Setting}
use Rattle.rules.specs.Triples.{Pixel}
use Rattle.rules.specs.Triples.{Triple}
use Rattle.rules.specs.Choice.{choose, all_three}
use Rattle.rules.specs.Setting.{code_at, last_of}
use Rattle.rules.specs.Matrix.{Matrix, matrix_of}
use Rattle.rules.specs.Pixels.{IsPixel, pixel, codes, aces_of}

-- a test that two numbers are at most e apart, and that two triples are so in every channel
abbrev pub within : (e : ℕ) → ℤ → ℤ → Bool
within e x y = choose (le_z x (y +ℤ pos e)) (le_z y (x +ℤ pos e)) false

unfoldable pub within3 : (e : ℕ) → Triple → Triple → Bool
within3 e a b = all_three (within e a.red.0 b.red.0) (within e a.green.0 b.green.0) (within e a.blue.0 b.blue.0)

-- the first where it found something, else the second
abbrev pub or_else : Option Pixel → Option Pixel → Option Pixel
or_else (Some p) next = Some p
or_else None next = next

-- of the steps 0 to last the first with which something is found
unfoldable pub first_found : (ℕ → Option Pixel) → (last : ℕ) → Option Pixel
first_found f zero = f 0
first_found f (suc k) = or_else (first_found f k) (f (suc k))

-- a pixel, where its ACES triple is within e of the given one in every channel
abbrev pub tried : (e : ℕ) → (number : ℕ → ℤ) → Matrix → Triple → Pixel → Option Pixel
tried e number m a p = choose (within3 e a (aces_of number m p)) (Some p) None

-- the first of all pixels for which that holds, in the order of their codes, which are those of the steps 0 to last
unfoldable pub pixel_with : (e : ℕ) → (number : ℕ → ℤ) → Matrix → (code : ℕ → ℕ) → (last : ℕ) → Triple → Option Pixel
pixel_with e number m code last a = first_found (λ r. first_found (λ g. first_found (λ b. tried e number m a (pixel (code r) (code g) (code b))) last) last) last

-- of the pixels of a setting, whose codes have these numbers
unfoldable pub pixel_by : (e : ℕ) → (number : Setting → ℕ → ℤ) → Setting → Triple → Option Pixel
pixel_by e number s a = pixel_with e (number s) (matrix_of s) (code_at s) (last_of s) a

-- the distance of the way back, which "takes any three signed numbers and returns the pixel of that setting with exactly that ACES triple"
abbrev pub exact : ℕ
exact = 0

-- 02, item 8, that of the "tolerant way back: it returns the pixel whose ACES triple is within five units in every channel"
abbrev pub tolerated : ℕ
tolerated = 5

abbrev pub distance_of : Distance → ℕ
distance_of Exact = exact
distance_of Tolerant = tolerated

-- the codes of what is found
abbrev pub codes_found : Option Pixel → List ℕ
codes_found (Some p) = codes p
codes_found None = []

-- refusal 10: "no pixel of this setting has this triple"; of the tolerant way back "exactly when there is none"
abbrev pub found_check : Option Pixel → Check
found_check (Some p) = Ok tt
found_check None = Err NoPixel

-- ---- 02, item 8: "two different pixels of one setting always differ by at least 12 units in some ACES channel"
abbrev pub apart : ℕ
apart = 12

-- two triples differ by at least d units in some channel
pub data Differ (d : ℕ) (a b : Triple) : Type 0 where
  in_red : d ≤ nat_abs (a.red.0 -ℤ b.red.0) → Differ d a b
  in_green : d ≤ nat_abs (a.green.0 -ℤ b.green.0) → Differ d a b
  in_blue : d ≤ nat_abs (a.blue.0 -ℤ b.blue.0) → Differ d a b

-- so do the ACES triples of two different pixels of a setting, where its codes have these numbers
abbrev pub PixelsApart : (d : ℕ) → (number : ℕ → ℤ) → Setting → Type 0
PixelsApart d number s = (p q : Pixel) → IsPixel s p → IsPixel s q → (p ≡ q → ⊥) → Differ d (aces_of number (matrix_of s) p) (aces_of number (matrix_of s) q)
