-- The checks of a record's channels, one after the other.
-- Assumes nothing.
use Rattle.std.specs.Prelude.{Ok}
use mathlib.Core.Path.{◌≡◌}
use mathlib.Core.List.{List}
use Prim.Native.Nat.{ℕ}
use Rattle.rules.specs.Refusal.{Check, then}
use Rattle.rules.specs.declared.Setting.{Setting}
use Rattle.rules.specs.Setting.{code_check}
use Rattle.rules.specs.Record.{code_bytes, channel_at, pixel_in}
use Rattle.rules.proofs.Settings.{both}
use Rattle.rules.specs.Pixels.{IsPixel}
use Rattle.rules.specs.Conversions.{channel_checks}

-- three checks, each of a channel
pub each_checked : (a : ℕ) (check : ℕ → Check) (r : List ℕ) {red green blue : Check}
    → red ≡ check (channel_at a r 0) → green ≡ check (channel_at a r 1) → blue ≡ check (channel_at a r 2) → then red (then green blue) ≡ channel_checks a check r
unfolding channel_checks
each_checked a check r p q s = λ i. then (p i) (then (q i) (s i))

-- where all pass, each passes
pub record AllPass (a : ℕ) (check : ℕ → Check) (r : List ℕ) : Type 0 where
  pub red : check (channel_at a r 0) ≡ Ok tt
  pub green : check (channel_at a r 1) ≡ Ok tt
  pub blue : check (channel_at a r 2) ≡ Ok tt

pub all_pass : (a : ℕ) (check : ℕ → Check) (r : List ℕ) → channel_checks a check r ≡ Ok tt → AllPass a check r
unfolding channel_checks
all_pass a check r e =
    let f = both (check (channel_at a r 0)) (then (check (channel_at a r 1)) (check (channel_at a r 2))) e in
    let g = both (check (channel_at a r 1)) (check (channel_at a r 2)) f.1 in
    record { red = f.0; green = g.0; blue = g.1 }

-- the codes of a record that pass are a pixel
pub codes_pixel : (s : Setting) (r : List ℕ) → channel_checks code_bytes (code_check s) r ≡ Ok tt → IsPixel s (pixel_in r)
codes_pixel s r e = let p = all_pass code_bytes (code_check s) r e in record { red = p.red; green = p.green; blue = p.blue }
