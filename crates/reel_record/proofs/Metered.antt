-- What is added for a record that passes: the decoded numbers of its codes.
-- Assumes nothing.
use Rattle.std.specs.Prelude.{Ok}
use mathlib.Core.Path.{◌≡◌, refl, ◌∙◌}
use mathlib.Core.List.{List}
use Prim.Native.Nat.{ℕ}
use lib.Dec.{lit<}
use lib.IntN.{ℤ}
use Rattle.rules.specs.declared.Setting.{Setting}
use Rattle.rules.specs.Pixels.{scenes, IsPixel}
use Rattle.rules.specs.Record.{setting_of, pixel_in}
use Rattle.rules.specs.Reel.{meter_check, metered, scene_at}
use Rattle.rules.specs.Setting.{Valid}
use Rattle.rules.specs.Triples.{Pixel, Scenes}
use Rattle.rules.proofs.ReelChecks.{passing}
use Rattle.rules.proofs.Settings.{aces_valid}
use Rattle.decode.specs.Decoded.{decoded}

pub metered_passed : (r : List ℕ) → meter_check r ≡ Ok tt → scenes (scene_at decoded r 0) (scene_at decoded r 1) (scene_at decoded r 2) ≡ metered decoded r
unfolding metered
metered_passed r e = rw e refl

module _ (r : List ℕ) (passed : meter_check r ≡ Ok tt) {s : Setting} (set : s ≡ setting_of r) where
  pub setting_valid : Valid s
  setting_valid = rw set (aces_valid (setting_of r) (passing r passed).setting)

  module _ {p : Pixel} (pixel : p ≡ pixel_in r) where
    pub codes_pass : IsPixel s p
    codes_pass =
        let code = (passing r passed).code in
        rw (set, pixel) (record { red = code 0 (lit< tt); green = code 1 (lit< tt); blue = code 2 (lit< tt) })

    number_is : (code : Pixel → ℕ) {z : ℤ} → z ≡ decoded s (code p) → z ≡ decoded (setting_of r) (code (pixel_in r))
    number_is code h = rw (set, pixel) at h

    pub numbers_metered : {x : Scenes} → x.red.0 ≡ decoded s p.red.0 → x.green.0 ≡ decoded s p.green.0 → x.blue.0 ≡ decoded s p.blue.0 → x ≡ metered decoded r
    numbers_metered e f h =
        let red = number_is (λ q. q.red.0) e in
        let green = number_is (λ q. q.green.0) f in
        let blue = number_is (λ q. q.blue.0) h in
        (λ i. record { red = record { 0 = red i }; green = record { 0 = green i }; blue = record { 0 = blue i } }) ∙ metered_passed r passed
