-- 01, "Encoding": the code of a scene number.
-- Assumes nothing.
use Rattle.std.specs.Prelude.{ℕ, zero, suc, ◌+◌, ◌-◌, ◌*◌, ◌^◌, ◌≤◌, ◌<◌, ltb, ℤ, nat_abs, ◌-ℤ◌}
use Rattle.rules.specs.Refusal.{Check, refuse_unless}
use Rattle.rules.specs.declared.Refusal.TheVariants.{SceneOutOfRange}
use Rattle.rules.specs.Choice.{choose, between}
use Rattle.rules.specs.Fraction.{ratio, integer, ◌*ℚ◌, AtMost, AtLeast}
use Rattle.rules.specs.declared.Setting.{Setting}
use Rattle.rules.specs.Setting.{last_of, code_at}
use Rattle.rules.specs.Exact.{Scale, VersusExact}
use Rattle.rules.specs.Decoding.{unit}

-- how far x is from the number of a step
abbrev pub distance : (number : ℕ → ℤ) (x : ℤ) (i : ℕ) → ℕ
distance number x i = nat_abs (x -ℤ number i)

-- "the code whose decoded number is nearest; of two equally near, the lower. Below code 0 that is 0, above the top code it is the top.": its
-- step, from 0 to last. (02, item 1, of width 140: "Encoding clips to 256 and 3760, which stand for 0 and top in its bounds."; item 5, of
-- curve 4 at width 16: "The nearest-code and two-thirds rules count 12-bit codes for these records.", and its steps are these.)
pub record IsNearest (number : ℕ → ℤ) (last : ℕ) (x : ℤ) (i : ℕ) : Type 0 where
  pub in_range : i ≤ last
  pub nearest : (j : ℕ) → j ≤ last → distance number x i ≤ distance number x j
  pub lowest : (j : ℕ) → j < i → distance number x i < distance number x j

-- the same as an equation: of the steps 0 to last the first at the least distance
unfoldable pub closest : (number : ℕ → ℤ) (x : ℤ) (last : ℕ) → ℕ
closest number x zero = 0
closest number x (suc k) = choose (ltb (distance number x (suc k)) (distance number x (closest number x k))) (suc k) (closest number x k)

-- of a setting, where its codes have these numbers: the step, and its code. (02, item 5: "encoding writes the 12-bit answer times 16".)
abbrev pub number_at : (number : Setting → ℕ → ℤ) → Setting → (step : ℕ) → ℤ
number_at number s i = number s (code_at s i)

abbrev pub step_by : (number : Setting → ℕ → ℤ) → Setting → ℤ → ℕ
step_by number s x = closest (number_at number s) x (last_of s)

abbrev pub code_by : (number : Setting → ℕ → ℤ) → Setting → ℤ → ℕ
code_by number s x = code_at s (step_by number s x)

-- "For answer n below top, the scene number is at most 2^24 times the exact curve at n + 2/3; for n above 0 it is at least 2^24 times
-- the exact curve at n - 2/3 (n read as a fraction there).": of the answer's step, which at curve 4, width 16, is the 12-bit code
pub record TwoThirds (k : Scale) (x : ℤ) (i : ℕ) : Type 0 where
  pub above : i < k.last → VersusExact AtMost k (ratio (3 * i + 2) 3) (integer x *ℚ unit)
  pub below : 0 < i → VersusExact AtLeast k (ratio (3 * i - 2) 3) (integer x *ℚ unit)

-- refusal 7: "scene number to encode outside -2^40 to 2^40"
unfoldable pub scene_check : ℤ → Check
scene_check x = refuse_unless (between (2 ^ 40) x) SceneOutOfRange
