-- The test is that of the definition, and two to the low bits that are 0 is the distance of codes.
use Rattle.std.proofs.Common.{◌≡◌, ℕ, ◌^◌, ◌<◌, sym, subst, ◌∙◌}
use Rattle.rules.specs.declared.Setting.{Setting}
use Rattle.rules.specs.Setting.{codes_of}
use Rattle.setting_codes.specs.LogC4.{low_zeros}
use Rattle.setting_codes.proofs.Ranges.{zeros_are}
use Rattle.setting_codes.proofs.low_zeros.Goals as goal

-- what follows from the equation
told : (s : Setting) {r : ℕ} → r ≡ low_zeros s → (2 ^ r ≡ (codes_of s).apart) × (r < 16)
told s e = let z = zeros_are s in subst (λ (n : ℕ). (2 ^ n ≡ (codes_of s).apart) × (n < 16)) (sym e) (z.apart, z.small)

pub returns-then-is_log_c4-clause-value : goal.returns-then-is_log_c4-clause-value
unfolding low_zeros
returns-then-is_log_c4-clause-value c = rw (sym c.is_log_c4.ensures ∙ c.if-is_log_c4.true)

pub returns-then-is_log_c4-clause-result_value : goal.returns-then-is_log_c4-clause-result_value
returns-then-is_log_c4-clause-result_value c = told c.args.s (returns-then-is_log_c4-clause-value c)

pub returns-else-is_log_c4-clause-value : goal.returns-else-is_log_c4-clause-value
unfolding low_zeros
returns-else-is_log_c4-clause-value c = rw (sym c.is_log_c4.ensures ∙ c.if-is_log_c4.false)

pub returns-else-is_log_c4-clause-result_value : goal.returns-else-is_log_c4-clause-result_value
returns-else-is_log_c4-clause-result_value c = told c.args.s (returns-else-is_log_c4-clause-value c)
