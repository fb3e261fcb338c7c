-- No record's line is longer than 66 bytes.
-- Assumes nothing.
use Rattle.std.specs.Prelude.{Err, Ok}
use mathlib.Core.Path.{◌≡◌, refl}
use mathlib.Core.List.{List}
use Prim.Native.Nat.{ℕ, zero, suc, ◌+◌, ◌*◌, ◌^◌, ◌≤◌, ◌<◌}
use native.Mathlib.Omega.{arith}
use lib.ListN.{length, take, drop, length-append}
use Rattle.rules.specs.Refusal.{Check}
use Rattle.rules.specs.Record.{code_bytes, setting_of, channel_at, pixel_in}
use Rattle.rules.specs.Setting.{code_check}
use Rattle.rules.specs.Strip.{record_check, records}
use Rattle.rules.proofs.Settings.{aces_valid, both}
use Rattle.decode.specs.Decoded.{decoded}
use Rattle.aces_inverse.specs.Reach.{InReach}
use Rattle.aces_inverse.proofs.Inverse.{aces_small}
use Rattle.decode.proofs.Distance.{decoded_small}
use Rattle.record_conversion.specs.Conversions.{pixel_to_aces}
use Rattle.rules.proofs.Channels.{all_pass}
use Rattle.lister_line.specs.Line.{longest}
use Rattle.lister_line.proofs.Lengths.{aces_long, refused_long}
use Rattle.lister_text.specs.Listed.{outcome_of, lines}
use Rattle.rules.specs.Lister.{size, line, after_check, lines_by}
use Rattle.aces.specs.OfPixel.{pixel_aces}

-- the ACES numbers of a pixel are at most 2 ^ 38
numbers_small : (r : List ℕ) → record_check pixel_to_aces r ≡ Ok tt
    → InReach (pixel_aces (setting_of r) (pixel_in r)).red.0 (pixel_aces (setting_of r) (pixel_in r)).green.0 (pixel_aces (setting_of r) (pixel_in r)).blue.0
numbers_small r e =
    let s = setting_of r in
    let b = both (pixel_to_aces.setting s) (pixel_to_aces.inner r) e in
    let v = aces_valid s b.0 in
    let p = all_pass code_bytes (code_check s) r b.1 in
    let code : ℕ → ℕ = λ i. channel_at code_bytes r i in
    aces_small s b.0 (decoded s (code 0)) (decoded s (code 1)) (decoded s (code 2))
    (record {
      red = decoded_small s v (code 0) p.red;
      green = decoded_small s v (code 1) p.green;
      blue = decoded_small s v (code 2) p.blue;
    })
    (record { red_is = refl; green_is = refl; blue_is = refl })

-- NO LINE IS LONGER
pub line_long : (k : ℕ) → k < 2 ^ 64 → (r : List ℕ) → length (line k (outcome_of r)) ≤ longest
line_long k h r = go (record_check pixel_to_aces r) refl
  where
    go : (x : Check) → record_check pixel_to_aces r ≡ x → length (line k (after_check x (pixel_aces (setting_of r) (pixel_in r)))) ≤ longest
    go (Ok tt) e = let g = numbers_small r e in aces_long k h (pixel_aces (setting_of r) (pixel_in r)) g.red g.green g.blue
    go (Err why) e = refused_long k h why

pub lines_long : (k n : ℕ) (s : List ℕ) → k + n < 2 ^ 64 → length (lines k (records size n s)) ≤ longest * n
unfolding lines_by records
lines_long k zero s h = omega arith
lines_long k (suc n) s h =
    rw length-append (omega (arith, line_long k (omega arith) (take size s), lines_long (suc k) n (drop size s) (omega arith)))
