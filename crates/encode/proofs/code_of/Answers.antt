-- `code_of` meets its contract: the nearest step is one of the setting's.
use Rattle.std.proofs.Common.{sym, subst, ℕ, ◌≤◌}
use Rattle.rules.specs.Setting.{last_of}
use Rattle.encode.proofs.Theorems.{encoded_nearest}
use Rattle.encode.proofs.code_of.Goals as goal

pub code_at-requires-clause-i_bound : goal.code_at-requires-clause-i_bound
code_at-requires-clause-i_bound c =
    subst (λ (i : ℕ). i ≤ last_of c.args.d.now.setting) (sym c.nearest_step.ensures) (encoded_nearest c.args.d.now.setting c.args.x.0).in_range
