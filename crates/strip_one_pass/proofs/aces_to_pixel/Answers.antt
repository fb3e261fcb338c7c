-- `aces_to_pixel` meets its contract: the buffer's pixels are copied where no record is refused.
use Rattle.std.proofs.Common.{ℕ, ◌*◌, List, ◌++◌, drop, ap, ◌∙◌, arith}
use Rattle.std.proofs.lemmas.Result.{err_from_is_err_and}
use native.Mathlib.Nat.{sub-zero}
use Rattle.rules.specs.Strip.{output_after}
use Rattle.rules.specs.WayBack.{distance_of}
use Rattle.record_conversion.specs.Conversions.{back_within}
use Rattle.strip_passes.proofs.FirstPass.{counted}
use Rattle.strip_one_pass.proofs.aces_to_pixel.Goals as goal

pub returns-in_err-m-clause-output_after : goal.returns-in_err-m-clause-output_after
unfolding output_after
returns-in_err-m-clause-output_after c = let p = err_from_is_err_and c.from_residual.result c.from_residual.ensures.1 in rw p.1

pub overflow_mul-end : goal.overflow_mul-end
overflow_mul-end c =
    let m = counted (back_within (distance_of c.args.k)) _ c.args.input.now c.fill.result _ c.fill.ensures.value c.in_ok-m.was in
    record { fits = omega (arith, m, c.requires) }

pub slice_bounds-copy_from_slice-end : goal.slice_bounds-copy_from_slice-end
slice_bounds-copy_from_slice-end c =
    let m = counted (back_within (distance_of c.args.k)) _ c.args.input.now c.fill.result _ c.fill.ensures.value c.in_ok-m.was in
    omega (arith, m, c.requires)

pub slice_bounds-copy_from_slice-end-2 : goal.slice_bounds-copy_from_slice-end-2
slice_bounds-copy_from_slice-end-2 c =
    let m = counted (back_within (distance_of c.args.k)) _ c.args.input.now c.fill.result _ c.fill.ensures.value c.in_ok-m.was in
    omega (arith, m, c.requires)

pub returns-clause-output_after : goal.returns-clause-output_after
unfolding output_after
returns-clause-output_after c =
    rw sub-zero
    (ap (λ (l : List ℕ). l ++ drop (c.in_ok-m.m * 10) c.args.output.now) ((rw sub-zero at c.copy_from_slice.ensures.after) ∙ c.fill.ensures.kept.pixels _ c.in_ok-m.was))
