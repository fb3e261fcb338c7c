-- What a caller in C gets of a float pixel: the result's number, and three values where it is 0.
-- Assumes nothing.
use Rattle.std.specs.Prelude.{List, [], ◌∷◌, ◌≡◌, ℕ, Float}
use Rattle.rules.specs.declared.Setting.{Setting}
use Rattle.rules.specs.Result.{Result}
use Rattle.float_decode.specs.Answer.{decode_pixel_result}
use Rattle.float_encode.specs.Answer.{encode_pixel_result}
use Rattle.rules.specs.Pixels.{pixel}

abbrev pub setting : (curve width ei : ℕ) → Setting
setting c w e = record { curve = c; width = w; ei = e }

-- what decoding gives for the codes of C, and encoding for its floats
abbrev pub decoding : (curve width ei red green blue : ℕ) → Result Float
decoding c w e r g b = decode_pixel_result (setting c w e) (pixel r g b)

abbrev pub encoding : (curve width ei : ℕ) (red green blue : Float) → Result ℕ
encoding c w e r g b = encode_pixel_result (setting c w e) (record { red = r; green = g; blue = b })

-- what C lent, after the call: the values, or what was there where there are none
abbrev pub written : {A : Type 0} → List A → List A → List A
written [] before = before
written (x ∷ xs) before = x ∷ xs

pub record GivesValues {A : Type 0} (r : Result A) (before : List A) (n : ℕ) (after : List A) : Type 0 where
  pub numbered : n ≡ r.number
  pub writes : after ≡ written r.values before
