-- `float_at` meets its contract: the code is decoded, and its number becomes a float.
use Rattle.std.proofs.Common.{◌^◌, ◌≤◌, sym, subst, nat_abs}
use Rattle.std.specs.Prelude.{ℤ}
use Rattle.float_decode.proofs.Channels.{decoded_fits}
use Rattle.float_decode.proofs.float_at.Goals as goal

pub float_of-requires : goal.float_of-requires
float_of-requires c =
    subst (λ (z : ℤ). nat_abs z ≤ 2 ^ 40) (sym c.scene.ensures) (decoded_fits c.args.d.now.setting c.args.d.now.ready.valid c.args.n.0 c.requires)
