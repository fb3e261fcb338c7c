-- Two to the low bits that are 0 is the distance of codes, and no bit is shifted out.
use Rattle.std.proofs.Common.{arith, ◌≡◌, ℕ, ◌+◌, ◌*◌, ◌%◌, ◌^◌, ◌≤◌, ◌<◌, ap, ap₂, sym, subst, ◌∙◌}
use Rattle.std.proofs.Math.Nat.{mod-eq_of_lt, lt_of_le_of_lt, le-add_left}
use Rattle.rules.specs.declared.Setting.{Setting}
use Rattle.rules.specs.Setting.{codes_of, last_of}
use Rattle.rules.proofs.Codes.{last_small, code_small}
use Rattle.setting_codes.proofs.code_at.Goals as goal

shifted : (s : Setting) (i p : ℕ) → i ≤ last_of s → p ≡ (codes_of s).apart → i * p % 65536 ≡ i * (codes_of s).apart
shifted s i p h e =
    ap (λ (a : ℕ). i * a % 65536) e ∙ mod-eq_of_lt (lt_of_le_of_lt (le-add_left (i * (codes_of s).apart) (codes_of s).first) (code_small s i h))

pub overflow_cast-step : goal.overflow_cast-step
overflow_cast-step c = record { fits = omega (arith, c.requires.i_bound, last_small c.args.s) }

pub returns : goal.returns
returns c =
    ap₂ (λ (x y : ℕ). x + y) c.first_code-first.ensures (shifted c.args.s c.args.i.0 _ c.requires.i_bound c.low_zeros-zeros.ensures.result_value.0)

pub overflow_add-code : goal.overflow_add-code
overflow_add-code c = record { fits = subst (λ (n : ℕ). n < 2 ^ 16) (sym (returns c)) (code_small c.args.s c.args.i.0 c.requires.i_bound) }
