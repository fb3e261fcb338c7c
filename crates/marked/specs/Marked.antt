-- 01, "Marked and unmarked checks": the marked ones, as statements about the rules.
-- Assumes nothing.
use Rattle.std.specs.Prelude.{true, false, ◌≡◌, List, ◌↔◌, ℕ, ◌+◌, ◌^◌, ℤ, pos, length, Ok}
use Rattle.std.specs.Float.{fin}
use Rattle.whole.specs.Parts.{minus}
use Rattle.rules.specs.Refusal.{refused_at, then, number_of, number_of_check}
use Rattle.rules.specs.declared.Refusal.TheVariants.{PartialRecord}
use Rattle.rules.specs.declared.Setting.{Setting}
use Rattle.rules.specs.Triples.{Triple}
use Rattle.rules.specs.Fraction.{ratio, whole}
use Rattle.rules.specs.Curve.{in_toe}
use Rattle.rules.specs.Setting.{setting_check, aces_check, code_check, curve_of, last_of, step_of, Valid}
use Rattle.rules.specs.Exact.{signal, scale_of, VersusExact}
use Rattle.rules.specs.Decoding.{DecodesCode}
use Rattle.rules.specs.Encoding.{IsNearest, number_at, scene_check}
use Rattle.rules.specs.Float.{float_check, units_of}
use Rattle.rules.specs.Matrix.{matrix_of, IsAces}
use Rattle.rules.specs.WayBack.{pixel_by, exact, found_check}
use Rattle.rules.specs.Strip.{answer_of}
use Rattle.rules.specs.Conversions.{pixel_to_scene, pixel_to_aces}
use Rattle.rules.specs.Pixels.{triple}

abbrev pub setting : (curve width ei : ℕ) → Setting
setting curve width ei = record { curve = curve; width = width; ei = ei }

-- numbers for the codes of a setting: any that the rules allow, since they leave the power part some freedom
abbrev pub Allowed : Setting → (number : ℕ → ℤ) → Type 0
Allowed s number = (n : ℕ) → code_check s n ≡ Ok tt → DecodesCode s n (number n)

-- what code 4095 of curve 4 is at width 12
abbrev pub number4095 : ℕ
number4095 = 7881936077

-- the highest scene number to encode
abbrev pub limit : ℕ
limit = 2 ^ 40

-- three ACES numbers that no pixel gives, under curve 3, width 12, EI 800
abbrev pub next_triple : Triple
next_triple = triple (minus 290085) (minus 290085) (minus 290084)

pub record Marked : Type 0 where
  -- "curve 4, width 12, code 4095 is exactly 2349/5,
  pub code_4095 : VersusExact (λ m n. m ≡ n) (scale_of (setting 4 12 0)) (whole (step_of (setting 4 12 0) 4095)) (ratio 2349 5)
  -- .." and 02, item 4: "Case 4095 becomes 7,881,936,077 alone."
  pub code_4095_units : (y : ℤ) → DecodesCode (setting 4 12 0) 4095 y ↔ (y ≡ pos number4095)
  -- "Curve 3, EI 800, width 12: code 0 is -290,085;
  pub code_0 : (y : ℤ) → DecodesCode (setting 3 12 800) 0 y → y ≡ minus 290085
  -- code 100 is -213,758;
  pub code_100 : (y : ℤ) → DecodesCode (setting 3 12 800) 100 y → y ≡ minus 213758
  -- pixel 100, 0, 0 as listed;" (its ACES numbers are -238167 -283566 -289928)
  pub pixel_100 : (x y : ℤ) → DecodesCode (setting 3 12 800) 100 x → DecodesCode (setting 3 12 800) 0 y
      → IsAces (matrix_of (setting 3 12 800)) x y y (minus 238167) (minus 283566) (minus 289928)
  -- "code 612 is toe, 613 power."
  pub code_612 : in_toe (curve_of (setting 3 12 800)) (signal (scale_of (setting 3 12 800)) (whole (step_of (setting 3 12 800) 612))) ≡ true
  pub code_613 : in_toe (curve_of (setting 3 12 800)) (signal (scale_of (setting 3 12 800)) (whole (step_of (setting 3 12 800) 613))) ≡ false
  -- "Curve 4, width 12, EI 800: 5."
  pub ei_800 : number_of_check (setting_check (setting 4 12 800)) ≡ 5
  -- "Curve 3, width 12, EI 2000: 5."
  pub ei_2000 : number_of_check (setting_check (setting 3 12 2000)) ≡ 5
  -- "Curve 3, width 10, EI 800: 1023 passes, 1024 gives 6."
  pub code_1023 : then (setting_check (setting 3 10 800)) (code_check (setting 3 10 800) 1023) ≡ Ok tt
  pub code_1024 : number_of_check (then (setting_check (setting 3 10 800)) (code_check (setting 3 10 800) 1024)) ≡ 6
  -- "Eleven bytes of pixel records: 1."
  pub partial_record : number_of PartialRecord ≡ 1
  pub eleven_bytes : (number : Setting → ℕ → ℤ) (input output : List ℕ) → length input ≡ 11
      → (answer_of (pixel_to_scene number) input output ≡ refused_at PartialRecord 0) × (answer_of (pixel_to_aces number) input output ≡ refused_at PartialRecord 0)
  -- "Scene 2^40 gives top, one more gives 7." (of every setting)
  pub scene_limit : (s : Setting) → Valid s → (number : ℕ → ℤ) → Allowed s number
      → (i : ℕ) → IsNearest (number_at (λ s. number) s) (last_of s) (pos limit) i → i ≡ last_of s
  pub scene_limit_passes : scene_check (pos limit) ≡ Ok tt
  pub scene_past_limit : number_of_check (scene_check (pos (limit + 1))) ≡ 7
  -- "ACES -290085, -290085, -290084 under curve 3, width 12, EI 800: 10."
  pub no_pixel : (number : ℕ → ℤ) → Allowed (setting 3 12 800) number
      → number_of_check (then (aces_check (setting 3 12 800)) (found_check (pixel_by exact (λ s. number) (setting 3 12 800) next_triple))) ≡ 10
  -- "Float 2^-25 is unit 1, -2^-25 is 0."
  pub float_half : (float_check (fin false 1 (minus 25)) ≡ Ok tt) × (units_of (fin false 1 (minus 25)) ≡ pos 1)
  pub float_minus_half : (float_check (fin true 1 (minus 25)) ≡ Ok tt) × (units_of (fin true 1 (minus 25)) ≡ pos 0)
