-- 01, "Records and settings": records as lists of bytes. A record is a row of fields, each a number written in so many bytes.
-- Assumes nothing.
use Rattle.std.specs.Prelude.{List, [], ◌∷◌, ◌++◌, ℕ, zero, suc, ◌+◌, ◌-◌, ◌*◌, ◌/◌, ◌%◌, ◌^◌, ◌<◌, ltb, ℤ, pos, negsuc, get_or, take, drop}
use Rattle.rules.specs.declared.Setting.{Setting}
use Rattle.rules.specs.Triples.{Pixel}
use Rattle.rules.specs.Triples.{Scenes}
use Rattle.rules.specs.Triples.{Triple}
use Rattle.rules.specs.Choice.{choose}
use Rattle.rules.specs.Pixels.{pixel, triple}

-- a list of bytes
abbrev pub IsBytes : List ℕ → Type 0
IsBytes s = (i : ℕ) → get_or s i 0 < 256

-- "Numbers are little endian.": the number that bytes write, and a number in n bytes
unfoldable pub value : List ℕ → ℕ
value [] = 0
value (x ∷ xs) = x + 256 * value xs

unfoldable pub digits : (n x : ℕ) → List ℕ
digits zero x = []
digits (suc n) x = x % 256 ∷ digits n (x / 256)

-- "signed .. numbers (two's complement)", in n bytes
abbrev pub to_bits : (n : ℕ) → ℤ → ℕ
to_bits n (pos k) = k
to_bits n (negsuc k) = 256 ^ n - suc k

abbrev pub of_bits : (n u : ℕ) → ℤ
of_bits n u = choose (ltb (2 * u) (256 ^ n)) (pos u) (negsuc (256 ^ n - suc u))

-- the fields of so many bytes each that bytes begin with, and the bytes of fields
unfoldable pub fields : (sizes r : List ℕ) → List ℕ
fields [] r = []
fields (n ∷ ns) r = value (take n r) ∷ fields ns (drop n r)

unfoldable pub bytes_of : (sizes values : List ℕ) → List ℕ
bytes_of [] vs = []
bytes_of (n ∷ ns) [] = []
bytes_of (n ∷ ns) (v ∷ vs) = digits n v ++ bytes_of ns vs

-- "Every record begins with its setting, four bytes: curve (1 byte), width in bits (1 byte), EI (2 bytes, unsigned)", and has three channels
abbrev pub layout : (channel : ℕ) → List ℕ
layout channel = 1 ∷ 1 ∷ 2 ∷ channel ∷ channel ∷ channel ∷ []

abbrev pub setting_bytes : ℕ
setting_bytes = 4

abbrev pub size_of : (channel : ℕ) → ℕ
size_of channel = setting_bytes + 3 * channel

-- "Pixel record, 10 bytes: setting, then red, green, blue codes, 2 bytes each"; "Scene record and ACES record, 28 bytes each: setting, then
-- three signed 8-byte numbers"
abbrev pub code_bytes : ℕ
code_bytes = 2

abbrev pub number_bytes : ℕ
number_bytes = 8

-- 02, item 6: "a half record of 10 bytes: the setting and three halves"
abbrev pub half_bytes : ℕ
half_bytes = 2

abbrev pub pixel_size : ℕ
pixel_size = size_of code_bytes

abbrev pub numbers_size : ℕ
numbers_size = size_of number_bytes

abbrev pub halves_size : ℕ
halves_size = size_of half_bytes

-- a record's setting and its channels
abbrev pub setting_of : List ℕ → Setting
setting_of r = record { curve = get_or r 0 0; width = get_or r 1 0; ei = value (take 2 (drop 2 r)) }

pub record Channels : Type 0 where
  pub red : ℕ
  pub green : ℕ
  pub blue : ℕ

abbrev pub channel_at : (channel : ℕ) → List ℕ → (i : ℕ) → ℕ
channel_at channel r i = value (take channel (drop (setting_bytes + i * channel) r))

abbrev pub channels_of : (channel : ℕ) → List ℕ → Channels
channels_of channel r = record { red = channel_at channel r 0; green = channel_at channel r 1; blue = channel_at channel r 2 }

-- the record of a setting and three channels
unfoldable pub record_of : (channel : ℕ) → Setting → Channels → List ℕ
record_of channel s c = bytes_of (layout channel) (s.curve ∷ s.width ∷ s.ei ∷ c.red ∷ c.green ∷ c.blue ∷ [])

-- ---- what records hold

-- the pixel of a pixel record, and the record of a pixel
abbrev pub pixel_in : List ℕ → Pixel
pixel_in r = pixel (channel_at code_bytes r 0) (channel_at code_bytes r 1) (channel_at code_bytes r 2)

abbrev pub pixel_record : Setting → Pixel → List ℕ
pixel_record s p = record_of code_bytes s (record { red = p.red.0; green = p.green.0; blue = p.blue.0 })

-- the record of three signed numbers
abbrev pub numbers_record : Setting → (x y z : ℤ) → List ℕ
numbers_record s x y z = record_of number_bytes s (record { red = to_bits number_bytes x; green = to_bits number_bytes y; blue = to_bits number_bytes z })

-- the scene record of three scene numbers
abbrev pub scene_record : Setting → Scenes → List ℕ
scene_record s x = numbers_record s x.red.0 x.green.0 x.blue.0

-- the three numbers of an ACES record, and the record of three ACES numbers
abbrev pub triple_in : List ℕ → Triple
triple_in r = triple (of_bits number_bytes (channel_at number_bytes r 0)) (of_bits number_bytes (channel_at number_bytes r 1)) (of_bits number_bytes (channel_at number_bytes r 2))

abbrev pub aces_record : Setting → Triple → List ℕ
aces_record s a = numbers_record s a.red.0 a.green.0 a.blue.0
