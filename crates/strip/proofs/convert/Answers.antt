-- `convert` meets its contract: the tests of the strips, the first pass, and the second.
use Rattle.std.proofs.Common.{◌≡◌, sym, subst, ℕ, ◌*◌, ◌/◌, ◌%◌, ◌≤◌, ◌<◌, length}
use Rattle.std.proofs.lemmas.Result.{err_from_is_err_and}
use native.Mathlib.Nat.{le_trans, mul-le-mul_right, le-div_iff_mul-le, div-lt_iff_lt-mul, div-mul-le_self, le_of_eq}
use Rattle.rules.specs.Strip.{scan_of}
use Rattle.strip.proofs.Contract.{not_whole, too_short, refused, all_of_them, each_passes, finished}
use Rattle.strip.proofs.convert.Goals as goal

-- what the code computes with its own sizes holds with those of the conversion
whole : (n : ℕ) {from size : ℕ} → size ≡ from → n % size ≡ 0 → n % from ≡ 0
whole n e h = rw (← e) h

room : (n m : ℕ) {from to size long : ℕ} → size ≡ from → (long ≡ to) × (0 < long) × (long < 100) → n / size ≤ m / long → n / from * to ≤ m
room n m e k h = rw (← e, ← k.0) ((le-div_iff_mul-le k.1).0 h)

pub returns-then-input-from-ne0-clause-converts : goal.returns-then-input-from-ne0-clause-converts
returns-then-input-from-ne0-clause-converts g c =
    not_whole _ _ _ (λ h. c.if-input-from-ne0.true (subst (λ (m : ℕ). length c.args.input.now % m ≡ 0) (sym c.size_from-from.ensures.0) h))

pub returns-then-output-to-clause-converts : goal.returns-then-output-to-clause-converts
returns-then-output-to-clause-converts g c =
    too_short _ _ _ (whole _ c.size_from-from.ensures.0 c.if-input-from-ne0.false)
    (rw (← c.size_from-from.ensures.0, ← c.size_to-to.ensures.0) ((div-lt_iff_lt-mul c.size_to-to.ensures.1).0 c.if-output-to.true))

pub returns-in_err-m-clause-converts : goal.returns-in_err-m-clause-converts
returns-in_err-m-clause-converts g c =
    let k = g.C.RecordConversion.rule c.args.k in
    let space = room _ _ c.size_from-from.ensures.0 c.size_to-to.ensures c.if-output-to.false in
    let scans = subst (λ (m : ℕ). c.scan.result ≡ scan_of k (length c.args.input.now / m) c.args.input.now) c.size_from-from.ensures.0 c.scan.ensures in
    let p = err_from_is_err_and c.from_residual.result c.from_residual.ensures.1 in
    rw (p.1, p.2) (refused k c.args.input.now c.args.output.now (whole _ c.size_from-from.ensures.0 c.if-input-from-ne0.false) space _ scans c.in_err-m.was)

pub write-requires-clause-k_in_bounds : goal.write-requires-clause-k_in_bounds
write-requires-clause-k_in_bounds g c =
    let k = g.C.RecordConversion.rule c.args.k in
    let space = room _ _ c.size_from-from.ensures.0 c.size_to-to.ensures c.if-output-to.false in
    let scans = subst (λ (m : ℕ). c.scan.result ≡ scan_of k (length c.args.input.now / m) c.args.input.now) c.size_from-from.ensures.0 c.scan.ensures in
    let w = le_of_eq (all_of_them k c.args.input.now c.args.output.now (whole _ c.size_from-from.ensures.0 c.if-input-from-ne0.false) space _ scans c.in_ok-m.was) in
    (le_trans (mul-le-mul_right k.from w) (div-mul-le_self _ _), le_trans (mul-le-mul_right k.to w) space)

pub write-requires-clause-n_value : goal.write-requires-clause-n_value
write-requires-clause-n_value g c =
    let k = g.C.RecordConversion.rule c.args.k in
    let space = room _ _ c.size_from-from.ensures.0 c.size_to-to.ensures c.if-output-to.false in
    let scans = subst (λ (m : ℕ). c.scan.result ≡ scan_of k (length c.args.input.now / m) c.args.input.now) c.size_from-from.ensures.0 c.scan.ensures in
    each_passes k c.args.input.now c.args.output.now (whole _ c.size_from-from.ensures.0 c.if-input-from-ne0.false) space _ scans c.in_ok-m.was

pub returns-clause-converts : goal.returns-clause-converts
returns-clause-converts g c =
    let k = g.C.RecordConversion.rule c.args.k in
    let space = room _ _ c.size_from-from.ensures.0 c.size_to-to.ensures c.if-output-to.false in
    let scans = subst (λ (m : ℕ). c.scan.result ≡ scan_of k (length c.args.input.now / m) c.args.input.now) c.size_from-from.ensures.0 c.scan.ensures in
    finished k c.args.input.now c.args.output.now (whole _ c.size_from-from.ensures.0 c.if-input-from-ne0.false) space _ scans c.in_ok-m.was c.write.ensures
