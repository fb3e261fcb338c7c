-- The sizes of the constants of a curve at one EI.
-- Assumes nothing.
use Rattle.std.specs.Prelude.{ℕ, ◌+◌, ◌*◌, ◌^◌, ◌≤◌, ◌<◌}
use Rattle.whole.specs.Parts.{up, dn}
use Rattle.rules.specs.Curve.{Constants}

-- how large the constants are that decoding computes with, at a last step
pub record Small (k : Constants) (last : ℕ) : Type 0 where
  pub steps : last < 2 ^ 16
  pub cut : k.cut < 2 ^ 14
  pub a_least : 0 < k.a
  pub a : k.a < 2 ^ 29
  pub b_above : up k.b < 2 ^ 21
  pub b_below : dn k.b < 2 ^ 21
  pub b_above_part : 16 * up k.b ≤ k.a
  pub b_below_part : 16 * dn k.b ≤ k.a
  pub e : k.e < 2 ^ 29
  pub e_last : k.e * last < 2 ^ 41
  pub f_above : up k.f < 2 ^ 20
  pub f_below : dn k.f < 2 ^ 20
  pub border : 1000000 * dn k.f ≤ k.e * k.cut + 1000000 * up k.f
  pub toe : 2 ^ 25 * (up k.f * last) ≤ k.e * last * 2097153 + 2 ^ 25 * (dn k.f * last)
