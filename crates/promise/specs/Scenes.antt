-- Demand 2, of what scene strips hold. Pixel to scene writes decoded numbers, scene to pixel writes
-- the nearest codes, each in the channel and with the setting of its own record.
-- Assumes nothing.
use Rattle.std.specs.Prelude.{List, ◌≡◌, ℕ, ◌*◌, ◌<◌, length, Ok}
use Rattle.rules.specs.declared.Setting.{Setting}
use Rattle.rules.specs.Setting.{Valid}
use Rattle.rules.specs.Calls.{EncodesBy}
use Rattle.rules.specs.Decoding.{DecodesCode}
use Rattle.rules.specs.Encoding.{scene_check}
use Rattle.rules.specs.Record.{IsBytes, code_bytes, number_bytes, of_bits, setting_of, channel_at, numbers_size}
use Rattle.rules.specs.Strip.{record_at}
use Rattle.decode.specs.Decoded.{decoded}
use Rattle.promise.specs.Each.{EachChannel}
use Rattle.promise.specs.Words.{HoldsPixelBy, AcceptedBy}

-- a pixel record and a pixel strip that decoding accepts: there a setting of curve 2 is valid too
abbrev pub HoldsCodes : List ℕ → Type 0
HoldsCodes = HoldsPixelBy Valid

abbrev pub AcceptedCodes : (pixels : List ℕ) (n : ℕ) → Type 0
AcceptedCodes = AcceptedBy Valid

-- a scene strip that encoding accepts: a whole number of records, and each holds a valid setting
-- and three numbers that pass check 7
pub record HoldsScene (r : List ℕ) : Type 0 where
  pub valid : Valid (setting_of r)
  pub numbers : (i : ℕ) → i < 3 → scene_check (of_bits number_bytes (channel_at number_bytes r i)) ≡ Ok tt

pub record AcceptedScenes (scenes : List ℕ) (n : ℕ) : Type 0 where
  pub bytes : IsBytes scenes
  pub long : length scenes ≡ n * numbers_size
  pub each : (k : ℕ) → k < n → HoldsScene (record_at numbers_size k scenes)

-- "Each decoded channel is less than .. from the exact ARRI curve" (how far: Decoding.tolerance); "A
-- setting and code have one decoded number, the same in every operation and channel.": it is the
-- number that encoding compares with
pub record IsDecoded (s : Setting) (code bits : ℕ) : Type 0 where
  pub near : DecodesCode s code (of_bits number_bytes bits)
  pub same : of_bits number_bytes bits ≡ decoded s code

abbrev pub DecodedRecord : (pixel scene : List ℕ) → Type 0
DecodedRecord = EachChannel code_bytes number_bytes IsDecoded

-- "each accepted scene number encodes to the code with the nearest decoded number, and lies within
-- two thirds of a code of the exact curve where it isn't clipped"
abbrev pub IsEncoded : (s : Setting) (bits code : ℕ) → Type 0
IsEncoded s bits code = EncodesBy decoded s (of_bits number_bytes bits) code

abbrev pub EncodedRecord : (scene pixel : List ℕ) → Type 0
EncodedRecord = EachChannel number_bytes code_bytes IsEncoded
