-- 02, item 3, REFUSAL 12: a setting is refused by it exactly where it is valid and its curve is 2, and only in a conversion to or from ACES.
-- Assumes nothing.
use Rattle.std.specs.Prelude.{Err, Ok}
use mathlib.Core.Bool.{Bool, false}
use mathlib.Core.List.{List, [], ◌∷◌}
use mathlib.Core.Logic.{◌↔◌}
use mathlib.Core.Path.{◌≡◌, refl, ap, ◌∙◌, subst}
use Prim.Native.Nat.{ℕ, ◌%◌, ◌^◌, ◌<◌}
use native.Mathlib.Omega.{arith}
use lib.Dec.{T, eqb, leb, lit<}
use lib.Ieee.{Float}
use lib.IntN.{ℤ, pos}
use Rattle.rules.specs.Refusal.{Check, number_of_check, then, refuse_unless}
use Rattle.rules.specs.declared.CurveName.{CurveName}
use Rattle.rules.specs.declared.CurveName.TheVariants.{LogC2, LogC3, LogC4, Unknown}
use Rattle.rules.specs.Triples.{Pixel}
use Rattle.rules.specs.declared.Refusal.{Refusal}
use Rattle.rules.specs.declared.Refusal.TheVariants.{CodeAboveTop, CodeBelowFirst, CodeNotDivisible, SceneOutOfRange, FloatNotFinite, FloatOutOfRange, NoMatrix}
use Rattle.rules.specs.Triples.{Scenes}
use Rattle.rules.specs.declared.Setting.{Setting}
use Rattle.rules.specs.Triples.{Triple}
use Rattle.rules.specs.Pixels.{pixel, triple, codes_check}
use Rattle.rules.specs.Choice.{between}
use Rattle.rules.specs.Result.{single}
use Rattle.rules.specs.Setting.{named, has_matrix, codes_of, last_of, code_at, setting_check, aces_check, code_check, Valid}
use Rattle.rules.specs.Matrix.{no_matrix, matrix_for}
use Rattle.rules.specs.Encoding.{code_by, scene_check}
use Rattle.rules.specs.Float.{finite, in_range, value_of, float_of, float_check, units_of}
use Rattle.rules.specs.Record.{value, digits, bytes_of, setting_of, record_of, channel_at, of_bits, code_bytes, number_bytes, half_bytes, pixel_record, aces_record}
use Rattle.rules.specs.Strip.{record_check, result_of}
use Rattle.rules.specs.Conversions.{channel_checks, channelwise, number_check, scene_bits, code_bits, pixel_to_scene, scene_to_pixel, pixel_to_aces, aces_to_pixel, aces_to_half, half_to_aces, graded_to_scene, graded_to_pixel}
use Rattle.rules.specs.Calls.{floats_check, decode_by, encode_by, decode_floats_by, encode_floats_by, way_back_by, graded_by}
use Rattle.rules.proofs.Settings.{has_name, valid_named}
use Rattle.rules.proofs.Never.{Never, Other, passed_never, unless, after, after_three, setting_never, single_never, strip_never}

-- ---- checks that do not answer 12
later : 5 < 12
later = lit< tt

abbrev OtherCheck : Check → Type 0
OtherCheck = Never 12

code_never : (s : Setting) (n : ℕ) → OtherCheck (code_check s n)
code_never s n = go (eqb (n % (codes_of s).apart) 0) (leb (codes_of s).first n) (leb n (code_at s (last_of s)))
  where
    go : (x y z : Bool) → OtherCheck (then (refuse_unless x CodeNotDivisible) (then (refuse_unless y CodeBelowFirst) (refuse_unless z CodeAboveTop)))
    go x y z =
        after_three 12 later (refuse_unless x CodeNotDivisible) (refuse_unless y CodeBelowFirst) (refuse_unless z CodeAboveTop) (unless 12 later x CodeNotDivisible (λ e. omega arith)) (unless 12 later y CodeBelowFirst (λ e. omega arith)) (unless 12 later z CodeAboveTop (λ e. omega arith))

scene_never : (x : ℤ) → OtherCheck (scene_check x)
unfolding scene_check
scene_never x = go (between (2 ^ 40) x)
  where
    go : (y : Bool) → OtherCheck (refuse_unless y SceneOutOfRange)
    go y = unless 12 later y SceneOutOfRange (λ e. omega arith)

float_never : (x : Float) → OtherCheck (float_check x)
unfolding float_check
float_never x = go (finite x) (in_range (value_of x))
  where
    go : (y z : Bool) → OtherCheck (then (refuse_unless y FloatNotFinite) (refuse_unless z FloatOutOfRange))
    go y z = after 12 later (refuse_unless y FloatNotFinite) (refuse_unless z FloatOutOfRange) (unless 12 later y FloatNotFinite (λ e. omega arith)) (unless 12 later z FloatOutOfRange (λ e. omega arith))

-- ---- 12 EXACTLY: a setting is refused by it where it passes 3, 4 and 5, and its curve is 2
pub twelve_exactly : (s : Setting) → (number_of_check (aces_check s) ≡ 12) ↔ (Valid s × (s.curve ≡ 2))
unfolding aces_check
twelve_exactly s = (forth, back)
  where
    is_two : Valid s → (c : CurveName) → named s.curve ≡ c → number_of_check (refuse_unless (has_matrix c) NoMatrix) ≡ 12 → s.curve ≡ 2
    is_two v LogC2 e n = has_name s.curve e
    is_two v LogC3 e n = absurd (passed_never 12 later n)
    is_two v LogC4 e n = absurd (passed_never 12 later n)
    is_two v Unknown e n = valid_named s v e

    forth : number_of_check (aces_check s) ≡ 12 → Valid s × (s.curve ≡ 2)
    forth n = go (setting_check s) refl n
      where
        go : (x : Check) → setting_check s ≡ x → number_of_check (then x (refuse_unless (has_matrix (named s.curve)) NoMatrix)) ≡ 12 → Valid s × (s.curve ≡ 2)
        go (Ok tt) e n = (e, is_two e (named s.curve) refl n)
        go (Err why) e n = absurd (setting_never 12 later s (ap number_of_check e ∙ n))

    back : Valid s × (s.curve ≡ 2) → number_of_check (aces_check s) ≡ 12
    back h = rw (h.0, h.1)

-- ---- IN ITS PLACE: a setting that 3, 4 or 5 refuses is refused by that
pub setting_first : (s : Setting) (why : Refusal) → setting_check s ≡ Err why → aces_check s ≡ Err why
unfolding aces_check
setting_first s why e = rw e

-- by the numbers, of pixel and ACES records of curve 2
abbrev pixel_of : (width ei code : ℕ) → List ℕ
pixel_of width ei code = pixel_record (record { curve = 2; width = width; ei = ei }) (pixel code 0 0)

abbrev aces_record_of : (width ei : ℕ) → List ℕ
aces_record_of width ei = aces_record (record { curve = 2; width = width; ei = ei }) (triple (pos 0) (pos 0) (pos 0))

-- a half record with the red half h
abbrev half_record_of : (width ei h : ℕ) → List ℕ
half_record_of width ei h = record_of half_bytes (record { curve = 2; width = width; ei = ei }) (record { red = h; green = 0; blue = 0 })

pub record InPlace (number : Setting → ℕ → ℤ) : Type 0 where
  -- before the codes, and before 10
  pub codes_later : number_of_check (record_check (pixel_to_aces number) (pixel_of 12 800 4096)) ≡ 12
  pub back_ten_later : (e : ℕ) → number_of_check (record_check (aces_to_pixel number e) (aces_record_of 12 800)) ≡ 12
  pub to_half_too : number_of_check (record_check aces_to_half (aces_record_of 12 800)) ≡ 12
  -- before 8 (0x7C00 is an infinity)
  pub half_eight_later : number_of_check (record_check half_to_aces (half_record_of 12 800 0x7C00)) ≡ 12
  -- after 4 and 5
  pub width_first : number_of_check (record_check (pixel_to_aces number) (pixel_of 16 800 0)) ≡ 4
  pub ei_first : number_of_check (record_check (pixel_to_aces number) (pixel_of 12 0 0)) ≡ 5
  pub back_width_first : (e : ℕ) → number_of_check (record_check (aces_to_pixel number e) (aces_record_of 16 800)) ≡ 4
  pub back_ei_first : (e : ℕ) → number_of_check (record_check (aces_to_pixel number e) (aces_record_of 12 0)) ≡ 5
  pub half_width_first : number_of_check (record_check half_to_aces (half_record_of 16 800 0x7C00)) ≡ 4
  pub half_ei_first : number_of_check (record_check half_to_aces (half_record_of 12 0 0x7C00)) ≡ 5
  pub to_half_width_first : number_of_check (record_check aces_to_half (aces_record_of 16 800)) ≡ 4
  pub to_half_ei_first : number_of_check (record_check aces_to_half (aces_record_of 12 0)) ≡ 5
  -- not in decoding
  pub decoding_six : number_of_check (record_check (pixel_to_scene number) (pixel_of 12 800 4096)) ≡ 6
  pub decoding_passes : number_of_check (record_check (pixel_to_scene number) (pixel_of 12 800 4095)) ≡ 0

pub in_place : (number : Setting → ℕ → ℤ) → InPlace number
unfolding setting_check aces_check codes_of channel_checks record_of bytes_of digits value
in_place number =
    record {
      codes_later = refl;
      to_half_too = refl;
      half_eight_later = refl;
      back_ten_later = λ e. refl;
      width_first = refl;
      ei_first = refl;
      back_width_first = λ e. refl;
      back_ei_first = λ e. refl;
      half_width_first = refl;
      half_ei_first = refl;
      to_half_width_first = refl;
      to_half_ei_first = refl;
      decoding_six = refl;
      decoding_passes = refl;
    }

-- every record of a valid setting of curve 2 is refused by it, whatever it holds besides
module _ (number : Setting → ℕ → ℤ) (s : Setting) (v : Valid s) (two : s.curve ≡ 2) where
  no_matrix_lem : aces_check s ≡ Err NoMatrix
  unfolding aces_check
  no_matrix_lem = rw (v, two)

  pub pixel_refused : (r : List ℕ) → setting_of r ≡ s → record_check (pixel_to_aces number) r ≡ Err NoMatrix
  pixel_refused r e = rw (e, no_matrix_lem)

  pub aces_refused : (e : ℕ) (r : List ℕ) → setting_of r ≡ s → record_check (aces_to_pixel number e) r ≡ Err NoMatrix
  aces_refused e r h = rw (h, no_matrix_lem)

  pub written_half_refused : (r : List ℕ) → setting_of r ≡ s → record_check aces_to_half r ≡ Err NoMatrix
  written_half_refused r e = rw (e, no_matrix_lem)

  pub read_half_refused : (r : List ℕ) → setting_of r ≡ s → record_check half_to_aces r ≡ Err NoMatrix
  read_half_refused r e = rw (e, no_matrix_lem)

  pub graded_refused : (scenesFor : Setting → Triple → Scenes) (r : List ℕ) → setting_of r ≡ s
      → (record_check (graded_to_scene scenesFor) r ≡ Err NoMatrix) × (record_check (graded_to_pixel scenesFor number) r ≡ Err NoMatrix)
  graded_refused scenesFor r e = (rw (e, no_matrix_lem), rw (e, no_matrix_lem))

  pub graded_call_refused : (scenesFor : Setting → Triple → Scenes) (a : Triple) → (graded_by scenesFor s a).number ≡ 12
  graded_call_refused scenesFor a = rw no_matrix_lem

  pub way_back_refused : (e : ℕ) (a : Triple) → (way_back_by number s e a).number ≡ 12
  way_back_refused e a = rw no_matrix_lem

-- ---- what has no matrix by `has_matrix` has none by `matrix_for`
pub none_for : (c : CurveName) → has_matrix c ≡ false → matrix_for c ≡ no_matrix
none_for LogC2 e = refl
none_for LogC3 e = absurd (subst T e tt)
none_for LogC4 e = absurd (subst T e tt)
none_for Unknown e = refl

-- ---- IN DECODING AND ENCODING 12 never occurs: of one code, one number, one float pixel
module _ (number : Setting → ℕ → ℤ) (s : Setting) where
  -- a call that checks its setting and then x
  call_never : {A : Type 0} (x : Check) (values : List A) → OtherCheck x → Other 12 (single (then (setting_check s) x) values).number
  call_never x values h = single_never 12 later (then (setting_check s) x) values (after 12 later (setting_check s) x (setting_never 12 later s) h)

  pub decode_never_twelve : (n : ℕ) → (decode_by number s n).number ≡ 12 → ⊥
  decode_never_twelve n = call_never (code_check s n) (number s n ∷ []) (code_never s n)

  pub encode_never_twelve : (x : ℤ) → (encode_by number s x).number ≡ 12 → ⊥
  encode_never_twelve x = call_never (scene_check x) (code_by number s x ∷ []) (scene_never x)

  pub decode_floats_never_twelve : (p : Pixel) → (decode_floats_by number s p).number ≡ 12 → ⊥
  decode_floats_never_twelve p =
      call_never (codes_check s p) (float_of (number s p.red.0) ∷ float_of (number s p.green.0) ∷ float_of (number s p.blue.0) ∷ [])
      (after_three 12 later (code_check s p.red.0) (code_check s p.green.0) (code_check s p.blue.0) (code_never s p.red.0) (code_never s p.green.0) (code_never s p.blue.0))

  pub encode_floats_never_twelve : (x y z : Float) → (encode_floats_by number s x y z).number ≡ 12 → ⊥
  encode_floats_never_twelve x y z =
      call_never (floats_check x y z) (code_by number s (units_of x) ∷ code_by number s (units_of y) ∷ code_by number s (units_of z) ∷ [])
      (after_three 12 later (float_check x) (float_check y) (float_check z) (float_never x) (float_never y) (float_never z))

-- ---- and of strips
channels_never : (a : ℕ) (check : ℕ → Check) → ((u : ℕ) → OtherCheck (check u)) → (r : List ℕ) → OtherCheck (channel_checks a check r)
unfolding channel_checks
channels_never a check h r =
    after_three 12 later (check (channel_at a r 0)) (check (channel_at a r 1)) (check (channel_at a r 2)) (h (channel_at a r 0)) (h (channel_at a r 1)) (h (channel_at a r 2))

-- a conversion channel by channel that checks the setting by 3, 4 and 5
channelwise_never : (a b : ℕ) (check : Setting → ℕ → Check) (one : Setting → ℕ → ℕ) → ((s : Setting) (u : ℕ) → OtherCheck (check s u)) → (input output : List ℕ) → (result_of (channelwise setting_check a b check one) input output).number ≡ 12 → ⊥
channelwise_never a b check one h =
    strip_never 12 later (channelwise setting_check a b check one)
    (λ r. after 12 later (setting_check (setting_of r)) (channel_checks a (check (setting_of r)) r) (setting_never 12 later (setting_of r)) (channels_never a (check (setting_of r)) (h (setting_of r)) r))

pub pixel_to_scene_never_twelve : (number : Setting → ℕ → ℤ) (input output : List ℕ) → (result_of (pixel_to_scene number) input output).number ≡ 12 → ⊥
pixel_to_scene_never_twelve number = channelwise_never code_bytes number_bytes code_check (scene_bits number) code_never

pub scene_to_pixel_never_twelve : (number : Setting → ℕ → ℤ) (input output : List ℕ) → (result_of (scene_to_pixel number) input output).number ≡ 12 → ⊥
scene_to_pixel_never_twelve number = channelwise_never number_bytes code_bytes number_check (code_bits number) (λ s u. scene_never (of_bits number_bytes u))
