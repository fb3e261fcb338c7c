-- The scene number of a code in the bytes of a record: it fits, and is read back.
-- Assumes nothing.
use Rattle.std.specs.Prelude.{Ok}
use mathlib.Core.Path.{◌≡◌}
use Prim.Native.Nat.{ℕ, ◌*◌, ◌^◌, ◌≤◌, ◌<◌}
use native.Mathlib.Nat.{le_trans}
use lib.Dec.{lit≤}
use Rattle.whole.specs.Parts.{up, dn}
use Rattle.rules.specs.declared.Setting.{Setting}
use Rattle.rules.specs.Setting.{code_check, Valid}
use Rattle.rules.specs.Record.{of_bits, number_bytes}
use Rattle.rules.proofs.Records.{of_to, bits_fit}
use Rattle.rules.proofs.Written.{small_fits}
use Rattle.decode.specs.Decoded.{decoded}
use Rattle.decode.proofs.Distance.{decoded_small}
use Rattle.record_conversion.specs.Conversions.{scene_bits}

module _ (s : Setting) (v : Valid s) (n : ℕ) (e : code_check s n ≡ Ok tt) where
  below : (2 * up (decoded s n) < 256 ^ number_bytes) × (2 * dn (decoded s n) ≤ 256 ^ number_bytes)
  below = small_fits (decoded s n) (le_trans (decoded_small s v n e) (lit≤ tt))

  pub scene_fits : scene_bits s n < 256 ^ number_bytes
  scene_fits = bits_fit number_bytes (decoded s n) below.0 below.1

  pub scene_read : of_bits number_bytes (scene_bits s n) ≡ decoded s n
  scene_read = of_to number_bytes (decoded s n) below.0 below.1
