-- The cases are those of the rules.
use Rattle.std.proofs.Common.{◌≡◌, ℕ, ◌+◌, ◌*◌, arith, ap, ◌∙◌}
use Rattle.rules.specs.Refusal.{Check}
use Rattle.rules.specs.Triples.{Pixel}
use Rattle.rules.specs.Pixels.{each_code}
use Rattle.rules.specs.Setting.{Codes, code_among, top_of, codes_to_top}
use Rattle.setting_codes.proofs.Ranges.{no_log_c4, recorder, legal, full}
use Rattle.setting_codes.proofs.check_pixel.Goals as goal

-- the checks of a pixel beside some codes, and beside a top code
abbrev beside : Pixel → Codes → Check
beside p k = each_code (code_among k.first k.apart (k.first + k.last * k.apart)) p

abbrev up_to : Pixel → (first apart top : ℕ) → Check
up_to p first apart top = each_code (code_among first apart top) p

-- of all codes from 0 to the top code of the width
from_zero : (p : Pixel) (width : ℕ) {top : ℕ} → top ≡ top_of width → up_to p 0 1 top ≡ beside p (codes_to_top width)
from_zero p width e = let once : top_of width ≡ 0 + top_of width * 1 = omega arith in ap (up_to p 0 1) (e ∙ once)

pub returns-then-s-ne-NUMBER : goal.returns-then-s-ne-NUMBER
returns-then-s-ne-NUMBER c =
    c.check_three.ensures
    ∙ from_zero c.args.p c.args.s.width c.top_code.ensures
    ∙ ap (beside c.args.p)
    (full c.args.s (no_log_c4 c.args.s 16 (λ k. c.if-s-ne-NUMBER.true k.0)) (no_log_c4 c.args.s 140 (λ k. c.if-s-ne-NUMBER.true k.0)))

pub returns-in-16 : goal.returns-in-16
returns-in-16 c =
    c.check_three-in-16.ensures
    ∙ ap (λ (top : ℕ). up_to c.args.p 0 16 (top * 16)) c.top_code-top.ensures
    ∙ ap (beside c.args.p) (recorder c.args.s (c.if-s-ne-NUMBER.false, c.in-16.is))

pub returns-in-140 : goal.returns-in-140
returns-in-140 c = c.check_three-in-140.ensures ∙ ap (beside c.args.p) (legal c.args.s (c.if-s-ne-NUMBER.false, c.in-140.is))

pub returns-in_default : goal.returns-in_default
returns-in_default c =
    c.check_three-in_default.ensures
    ∙ from_zero c.args.p c.args.s.width c.top_code-in_default.ensures
    ∙ ap (beside c.args.p)
    (full c.args.s (no_log_c4 c.args.s 16 (λ k. absurd (omega (arith, k.1)))) (no_log_c4 c.args.s 140 (λ k. absurd (omega (arith, k.1)))))
