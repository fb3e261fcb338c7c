-- What reading one float answers.
-- Assumes nothing.
use Rattle.std.specs.Prelude.{ℕ, ◌+◌, ◌-◌, ◌*◌, ◌/◌, ◌^◌, Float, Err, Ok}
use Rattle.rules.specs.Refusal.{Check, OrRefusal}
use Rattle.rules.specs.declared.Scene.{Scene}
use Rattle.rules.specs.Float.{float_check, units_of}

abbrev pub units_after : Check → Scene → OrRefusal Scene
units_after (Ok tt) y = Ok y
units_after (Err r) y = Err r

-- refusals 8 and 9, else the float "taken to the nearest unit"
unfoldable pub read_answer : Float → OrRefusal Scene
read_answer x = units_after (float_check x) (record { 0 = units_of x })

-- the units of a float without its sign, by its parts: (2^52 + fraction) / 2^(1051 - exponent), to the nearest
abbrev pub unit_count : (sign exponent fraction : ℕ) → ℕ
unit_count sign exponent fraction = (fraction + 2 ^ 52 + 2 ^ (1050 - exponent) - sign) / (2 * 2 ^ (1050 - exponent))
