-- The marked checks hold.
-- Assumes nothing.
use Rattle.std.specs.Prelude.{Ok, Option}
use mathlib.Core.Bool.{Bool, true, false}
use mathlib.Core.Path.{◌≡◌, refl, sym, ap, ◌∙◌, subst}
use Prim.Native.Nat.{ℕ, ◌^◌, ◌≤◌}
use native.Mathlib.Nat.{le_refl, le_antisymm}
use native.Mathlib.Omega.{arith}
use borrow.Author.Tests.{ltb-true, ltb-false}
use lib.Dec.{T, leb, ltb, lit<}
use lib.IntN.{ℤ, pos, negsuc, nat_abs, ◌-ℤ◌}
use lib.Signed.{◌<ℤ◌}
use Rattle.whole.specs.Parts.{up, minus}
use Rattle.whole.proofs.Reflect.{one_zero, abs_is, at, sub, dif, lt_n-of}
use Rattle.whole.proofs.Near.{near_test}
use Rattle.whole.proofs.Tidy.{tidy}
use Rattle.rules.specs.Fraction.{Fraction, whole, ratio, integer, ◌+ℚ◌, ◌-ℚ◌, ◌*ℚ◌, VersusPower, nearest, Less, Greater}
use Rattle.rules.specs.declared.Distance.TheVariants.{Exact}
use Rattle.rules.specs.declared.Setting.{Setting}
use Rattle.rules.specs.Setting.{setting_check, aces_check, top_of, codes_of, curve_of, last_of, code_at, code_check, Valid, ValidForAces}
use Rattle.rules.specs.Curve.{log_c4, exponent, toe_value}
use Rattle.rules.specs.Exact.{Scale, signal, power_for, VersusPart}
use Rattle.rules.specs.Decoding.{Decodes, DecodesCode, DecodesPart, tolerance, unit}
use Rattle.rules.specs.Encoding.{IsNearest, number_at, scene_check}
use Rattle.rules.specs.Float.{value_of, float_check, units_of}
use Rattle.rules.proofs.Codes.{code_passes, code_rises}
use Rattle.rules.proofs.Values as values
use Rattle.rules.proofs.Within.{near_within3}
use Rattle.rules.proofs.Search.{none_found}
use Rattle.rules.specs.Matrix.{matrix_of, aces_number}
use Rattle.rules.specs.Triples.{Pixel}
use Rattle.rules.specs.Refusal.{number_of_check}
use Rattle.rules.specs.WayBack.{within3, pixel_by, exact, found_check}
use Rattle.rules.specs.Strip.{answer_of}
use Rattle.decode.specs.Decoded.{decoded}
use Rattle.decode.proofs.Distance.{decodes_rises, decodes_small}
use Rattle.decode.proofs.Theorems.{decoding, gap_large}
use Rattle.encode.proofs.Theorems.{encode_near}
use Rattle.aces_inverse.specs.Inverse.{candidate}
use Rattle.way_back.specs.Candidate.{code_for, candidate_pixel}
use Rattle.way_back.proofs.Only.{GivesBy, near_enough, only_candidate_by}
use Rattle.marked.specs.Marked.{Marked, setting, Allowed, number4095, limit, next_triple}
use Rattle.rules.specs.Pixels.{pixel, aces_of}

abbrev curve4 : Scale
curve4 = record { curve = log_c4; last = top_of 12 }

-- the exponent of code 4095 is 20
abbrev exponent_4095 : Fraction
exponent_4095 = exponent log_c4 (signal curve4 (whole 4095))

-- a number less the tolerance is below the exact value, and with it above
below_4095 : (y : ℤ) → VersusPower Less (power_for log_c4 ((integer y -ℚ tolerance) *ℚ unit)) 2 exponent_4095 → up y ≤ number4095
below_4095 y h =
    omega (arith, one_zero y, simp tidy at (values.at_whole values.less 2 (lit< tt) (power_for log_c4 ((integer y -ℚ tolerance) *ℚ unit)) exponent_4095 20 (lit< tt) (lit< tt) refl h))

above_4095 : (y : ℤ) → VersusPower Greater (power_for log_c4 ((integer y +ℚ tolerance) *ℚ unit)) 2 exponent_4095 → number4095 ≤ up y
above_4095 y h =
    omega (arith, one_zero y, simp tidy at (values.at_whole (values.flip values.less) 2 (lit< tt) (power_for log_c4 ((integer y +ℚ tolerance) *ℚ unit)) exponent_4095 20 (lit< tt) (lit< tt) refl h))

no_other : (y : ℤ) → up y ≤ number4095 → number4095 ≤ up y → y ≡ pos number4095
no_other (pos n) h g = ap pos (le_antisymm h g)
no_other (negsuc n) h g = absurd (omega arith)

only_4095 : (y : ℤ) → Decodes curve4 4095 y → y ≡ pos number4095
only_4095 y (DecodesPart.power (VersusPart.power l) (VersusPart.power h)) = no_other y (below_4095 y l) (above_4095 y h)

-- and it is allowed, since the decoded number is
abbrev s4 : Setting
s4 = setting 4 12 0

valid_4 : Valid s4
unfolding setting_check
valid_4 = refl

passes_4095 : code_check s4 4095 ≡ Ok tt
unfolding codes_of
passes_4095 = refl

allowed_4095 : Decodes curve4 4095 (pos number4095)
unfolding codes_of
allowed_4095 = subst (Decodes curve4 4095) (only_4095 (decoded s4 4095) (decoding s4 valid_4 4095 passes_4095)) (decoding s4 valid_4 4095 passes_4095)

code_4095 : VersusPart (λ m n. m ≡ n) log_c4 (signal curve4 (whole 4095)) (ratio 2349 5) false
code_4095 = VersusPart.power (values.of_whole values.equal 2 (lit< tt) (power_for log_c4 (ratio 2349 5)) exponent_4095 20 (lit< tt) (lit< tt) refl refl)

-- ---- curve 3, width 12, EI 800
abbrev s800 : Setting
s800 = setting 3 12 800

abbrev scale800 : Scale
scale800 = record { curve = curve_of s800; last = top_of 12 }

-- the number of a code in the toe
toe_number : (n : ℕ) (y : ℤ) → DecodesPart tolerance scale800 n y true → y ≡ nearest (toe_value (curve_of s800) (signal scale800 (whole n)) *ℚ whole (2 ^ 24))
toe_number n y (DecodesPart.toe e) = e

-- ---- scene 2^40
-- of a number that is not below the last step's no other step is nearer than the last
scene_limit : (s : Setting) → Valid s → (number : ℕ → ℤ) → Allowed s number → (i : ℕ) → IsNearest (number_at (λ s. number) s) (last_of s) (pos limit) i → i ≡ last_of s
scene_limit s v number allowed i near = go (ltb i (last_of s)) refl
  where
    at_step : ℕ → ℤ
    at_step j = number (code_at s j)

    decodes : (j : ℕ) → j ≤ last_of s → DecodesCode s (code_at s j) (at_step j)
    decodes j h = allowed (code_at s j) (code_passes s j h)

    farther : (x y : ℤ) → x <ℤ y → nat_abs y ≤ 2 ^ 33 → nat_abs (pos limit -ℤ x) ≤ nat_abs (pos limit -ℤ y) → ⊥
    farther x y h g l =
        omega (arith, lt_n-of (at x) (at y) h, abs_is y, abs_is (pos limit -ℤ x), abs_is (pos limit -ℤ y), dif (sub (at (pos limit)) (at x)), dif (sub (at (pos limit)) (at y)), one_zero (pos limit -ℤ y))

    go : (x : Bool) → ltb i (last_of s) ≡ x → i ≡ last_of s
    go true e =
        absurd
        (farther (at_step i) (at_step (last_of s))
        (decodes_rises s v (code_at s i) (code_at s (last_of s)) (code_passes s i near.in_range) (code_passes s (last_of s) (le_refl (last_of s))) (code_rises s i (last_of s) (ltb-true i (last_of s) e)) (at_step i) (at_step (last_of s)) (decodes i near.in_range) (decodes (last_of s) (le_refl (last_of s))))
        (decodes_small s v (code_at s (last_of s)) (code_passes s (last_of s) (le_refl (last_of s))) (at_step (last_of s)) (decodes (last_of s) (le_refl (last_of s))))
        (near.nearest (last_of s) (le_refl (last_of s))))
    go false e = le_antisymm near.in_range (ltb-false i (last_of s) e)

-- ---- the triple next to that of pixel 0, 0, 0
valid_800 : Valid s800
unfolding setting_check
valid_800 = refl

aces_800 : ValidForAces s800
unfolding setting_check aces_check
aces_800 = refl

passes_0 : code_check s800 0 ≡ Ok tt
unfolding codes_of
passes_0 = refl

number_0 : (y : ℤ) → DecodesCode s800 0 y → y ≡ minus 290085
unfolding codes_of
number_0 y d = toe_number 0 y d

decoded_0 : decoded s800 0 ≡ minus 290085
decoded_0 = number_0 (decoded s800 0) (decoding s800 valid_800 0 passes_0)

-- a candidate near the number of code 0
near_0 : (i : ℕ) → T (leb (nat_abs (candidate s800 i next_triple.red.0 next_triple.green.0 next_triple.blue.0 -ℤ minus 290085)) 1) → code_for s800 i next_triple ≡ 0
near_0 i t =
    let c = candidate s800 i next_triple.red.0 next_triple.green.0 next_triple.blue.0 in
    encode_near s800 valid_800 1 (gap_large s800 valid_800) c 0 passes_0 (rw decoded_0 (near_test c (minus 290085) 1 t))

first_pixel : candidate_pixel s800 next_triple ≡ pixel 0 0 0
unfolding aces_number
first_pixel =
    let r = near_0 0 tt in
    let g = near_0 1 tt in
    let b = near_0 2 tt in
    λ i. record { red = record { 0 = r i }; green = record { 0 = g i }; blue = record { 0 = b i } }

module _ (number : ℕ → ℤ) (allowed : Allowed s800 number) where
  -- it gives another triple
  first_gives : within3 0 next_triple (aces_of number (matrix_of s800) (pixel 0 0 0)) ≡ false
  unfolding aces_number within3
  first_gives = rw (number_0 (number 0) (allowed 0 passes_0))

  -- and no other pixel can give this one
  never : (q : Pixel) → GivesBy 0 number s800 next_triple q → ⊥
  never q g =
      let e : q ≡ pixel 0 0 0 = only_candidate_by s800 aces_800 number allowed exact (near_enough Exact s800 aces_800) next_triple q g ∙ first_pixel in
      let f : within3 0 next_triple (aces_of number (matrix_of s800) q) ≡ true = near_within3 0 next_triple (aces_of number (matrix_of s800) q) g.numbers in
      absurd (subst T (sym f ∙ ap (λ (p : Pixel). within3 0 next_triple (aces_of number (matrix_of s800) p)) e ∙ first_gives) tt)

  no_pixel : number_of_check (found_check (pixel_by exact (λ s. number) s800 next_triple)) ≡ 10
  unfolding pixel_by
  no_pixel = ap (λ (f : Option Pixel). number_of_check (found_check f)) (none_found 0 number (matrix_of s800) (code_at s800) (last_of s800) next_triple never)

-- THE LIST
pub marked : Marked
unfolding setting_check aces_check codes_of scene_check float_check units_of value_of aces_number answer_of
marked =
    record {
      code_4095 = code_4095;
      code_4095_units = λ y. (only_4095 y, λ e. subst (Decodes curve4 4095) (sym e) allowed_4095);
      code_0 = toe_number 0;
      code_100 = toe_number 100;
      pixel_100 = λ x y h g. rw (toe_number 100 x h, toe_number 0 y g) (record { red_is = refl; green_is = refl; blue_is = refl });
      code_612 = refl;
      code_613 = refl;
      ei_800 = refl;
      ei_2000 = refl;
      code_1023 = refl;
      code_1024 = refl;
      partial_record = refl;
      eleven_bytes = λ number input output e. (rw e, rw e);
      scene_limit = scene_limit;
      scene_limit_passes = refl;
      scene_past_limit = refl;
      no_pixel = no_pixel;
      float_half = (refl, refl);
      float_minus_half = (refl, refl);
    }
