-- 01, "ACES and the way back": "Words of demand 3, for these two conversions.", and what they share with those of 02, item 8. A valid setting is
-- ValidForAces, a pixel of it IsPixel: 02, item 3: "the promise about equal ACES strips covers curves 3 and 4 .. there a setting of curve 2 isn't
-- valid".
-- Assumes nothing.
use Rattle.std.specs.Prelude.{List, ◌≡◌, ℕ, ◌*◌, ◌/◌, ◌<◌, ℤ, length, Err}
use Rattle.rules.specs.Triples.{Pixel, Triple}
use Rattle.rules.specs.declared.Refusal.TheVariants.{NoPixel}
use Rattle.rules.specs.declared.Setting.{Setting}
use Rattle.rules.specs.Refusal.{then, number_of_check}
use Rattle.rules.specs.Result.{Result, done, refused_by}
use Rattle.rules.specs.Setting.{step_of, aces_check, ValidForAces}
use Rattle.rules.specs.Exact.{scale_of}
use Rattle.rules.specs.ExactRow.{aces_tolerance, WithinRow}
use Rattle.rules.specs.Matrix.{matrix_of}
use Rattle.rules.specs.Record.{IsBytes, number_bytes, of_bits, setting_of, channel_at, pixel_in, pixel_record, aces_record, pixel_size, numbers_size}
use Rattle.rules.specs.Conversions.{pixel_to_aces}
use Rattle.rules.specs.Strip.{records, record_at, written}
use Rattle.decode.specs.Decoded.{decoded}
use Rattle.rules.specs.Pixels.{IsPixel, codes}
use Rattle.aces.specs.OfPixel.{pixel_aces}

-- "It gives the ACES record that holds this setting and the pixel's three ACES numbers."
abbrev pub given : Setting → Pixel → List ℕ
given s p = aces_record s (pixel_aces s p)

-- "A pixel strip is accepted where it is a whole number of records and each holds a valid setting and a pixel of it"
-- (P says which settings are valid)
pub record HoldsPixelBy (P : Setting → Type 0) (r : List ℕ) : Type 0 where
  pub valid : P (setting_of r)
  pub pixel : IsPixel (setting_of r) (pixel_in r)

pub record AcceptedBy (P : Setting → Type 0) (pixels : List ℕ) (n : ℕ) : Type 0 where
  pub bytes : IsBytes pixels
  pub long : length pixels ≡ n * pixel_size
  pub each : (k : ℕ) → k < n → HoldsPixelBy P (record_at pixel_size k pixels)

-- for these two conversions
abbrev pub HoldsPixel : List ℕ → Type 0
HoldsPixel = HoldsPixelBy ValidForAces

abbrev pub Accepted : (pixels : List ℕ) (n : ℕ) → Type 0
Accepted = AcceptedBy ValidForAces

-- the ACES strip that numbers of the codes make of a pixel strip: "one record for each of its records, in order, without the bytes beyond
-- the last"
abbrev pub aces_strip_by : (number : Setting → ℕ → ℤ) → List ℕ → List ℕ
aces_strip_by number pixels = written (pixel_to_aces number).bytes (records pixel_size (length pixels / pixel_size) pixels)

-- "The ACES strip made from it": by the decoded numbers. (That it is "what pixel to ACES writes for it into an output long enough" is the
-- theorem aces-strip-is-written.)
abbrev pub aces_strip : List ℕ → List ℕ
aces_strip = aces_strip_by decoded

-- the i-th number of an ACES record
abbrev pub number_in : (i : ℕ) → List ℕ → ℤ
number_in i r = of_bits number_bytes (channel_at number_bytes r i)

-- a pixel record with three equal codes, c
pub record IsGrey (r : List ℕ) (c : ℕ) : Type 0 where
  pub red : (pixel_in r).red.0 ≡ c
  pub green : (pixel_in r).green.0 ≡ c
  pub blue : (pixel_in r).blue.0 ≡ c

-- the step of the code n of a record
abbrev pub step_in : List ℕ → (n : ℕ) → ℕ
step_in r n = step_of (setting_of r) n

-- "each ACES number made from it is less than .. from what the exact curve and matrix give" (how far: ExactRow.aces_tolerance): the i-th
-- number of the ACES record a, for the pixel record r
abbrev pub NearExact : (i : ℕ) → (r a : List ℕ) → Type 0
NearExact i r a = WithinRow aces_tolerance (matrix_of (setting_of r)) i (scale_of (setting_of r)) (step_in r (pixel_in r).red.0) (step_in r (pixel_in r).green.0) (step_in r (pixel_in r).blue.0) (number_in i a)

-- the number by which a way back refuses under a setting: that of the setting's first check that fails, else 10
abbrev pub refusal_of : Setting → ℕ
refusal_of s = number_of_check (then (aces_check s) (Err NoPixel))

-- ---- a way back of one record. G says which pixels of its setting give it.

-- "no valid setting or no pixel of its setting gives it"
pub data WithoutPixel (s : Setting) (G : Pixel → Type 0) : Type 0 where
  no_setting : (ValidForAces s → ⊥) → WithoutPixel s G
  no_pixel : ((p : Pixel) → IsPixel s p → G p → ⊥) → WithoutPixel s G

-- "the only pixel of its setting that gives it"
pub record IsOnlyPixel (s : Setting) (G : Pixel → Type 0) (p : Pixel) : Type 0 where
  pub valid : ValidForAces s
  pub is_pixel : IsPixel s p
  pub gives : G p
  pub only : (q : Pixel) → IsPixel s q → G q → q ≡ p

-- what it gives: a refusal, or the codes of the only pixel
pub data GivesOnly (s : Setting) (G : Pixel → Type 0) : Result ℕ → Type 0 where
  refuses : WithoutPixel s G → GivesOnly s G (refused_by (refusal_of s) 0)
  returns : (p : Pixel) → IsOnlyPixel s G p → GivesOnly s G (done (codes p))

-- "any one ACES record .. whatever the settings and numbers": any setting bytes s and any three numbers a. The exact way back returns a pixel with
-- these numbers
abbrev pub HasNumbers : Setting → Triple → Pixel → Type 0
HasNumbers s a p = pixel_aces s p ≡ a

-- ---- a way back of strips. G says of an ACES record which pixels of its setting give it.
abbrev pub Without : (G : List ℕ → Pixel → Type 0) → List ℕ → Type 0
Without G r = WithoutPixel (setting_of r) (G r)

-- an ACES record r and "the only pixel of its setting that gives it", in the pixel record out
pub record OnlyPixel (G : List ℕ → Pixel → Type 0) (r out : List ℕ) : Type 0 where
  pub pixel : Pixel
  pub is_only : IsOnlyPixel (setting_of r) (G r) pixel
  pub holds : out ≡ pixel_record (setting_of r) pixel

-- some of n records has "no valid setting or no pixel of its setting gives it"
pub record SomeWithout (G : List ℕ → Pixel → Type 0) (aces : List ℕ) (n : ℕ) : Type 0 where
  pub at : ℕ
  pub in_range : at < n
  pub without : Without G (record_at numbers_size at aces)

-- the k-th of n records is the first such
pub record FirstWithout (G : List ℕ → Pixel → Type 0) (aces : List ℕ) (n k : ℕ) : Type 0 where
  pub in_range : k < n
  pub without : Without G (record_at numbers_size k aces)
  pub before : (j : ℕ) → j < k → Without G (record_at numbers_size j aces) → ⊥

-- a call that refuses, "and it reports the first such record": its number and its index
abbrev pub refused_at : (aces : List ℕ) (k : ℕ) → Result ℕ
refused_at aces k = refused_by (refusal_of (setting_of (record_at numbers_size k aces))) k

pub record ReportsFirst (G : List ℕ → Pixel → Type 0) (aces : List ℕ) (n : ℕ) (result : Result ℕ) : Type 0 where
  pub at : ℕ
  pub reported : result ≡ refused_at aces at
  pub first : FirstWithout G aces n at

-- the exact way back: a pixel "gives the ACES record"
abbrev pub GivesRecord : List ℕ → Pixel → Type 0
GivesRecord r p = given (setting_of r) p ≡ r
