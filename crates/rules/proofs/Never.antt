-- A number by which a check never refuses: of checks one after the other, of calls and of strips.
-- Assumes nothing.
use Rattle.std.specs.Prelude.{Err, Ok}
use mathlib.Core.Bool.{Bool, true, false}
use mathlib.Core.List.{List, [], ◌∷◌}
use mathlib.Core.Path.{◌≡◌}
use Prim.Native.Nat.{ℕ, suc, ◌*◌, ◌/◌, ◌%◌, ◌<◌}
use native.Mathlib.Omega.{arith}
use lib.Dec.{eqb, leb}
use lib.ListN.{length}
use Rattle.rules.specs.Refusal.{Answer, refused_at, Check, number_of, number_of_check, then, refuse_unless}
use Rattle.rules.specs.declared.Refusal.{Refusal}
use Rattle.rules.specs.declared.Refusal.TheVariants.{PartialRecord, ShortOutput, UnknownCurve, UnknownWidth, UnknownEi, NoMatrix}
use Rattle.rules.specs.declared.Setting.{Setting}
use Rattle.rules.specs.Choice.{choose, member}
use Rattle.rules.specs.Result.{single, strip_result}
use Rattle.rules.specs.Setting.{named, known, widths_of, eis_of, setting_check, has_matrix, aces_check}
use Rattle.rules.specs.Strip.{Conversion, record_check, records, or_next, scan, scan_of, answer_of, result_of}

-- another number than m, and a check that does not answer m
abbrev pub Other : (m n : ℕ) → Type 0
Other m n = n ≡ m → ⊥

abbrev pub Never : (m : ℕ) → Check → Type 0
Never m x = Other m (number_of_check x)

-- m is no number of a strip's or a setting's refusal, nor that of success
module _ (m : ℕ) (later : 5 < m) where
  pub passed_never : Never m (Ok tt)
  passed_never e = omega (arith, later)

  pub unless : (x : Bool) (why : Refusal) → Other m (number_of why) → Never m (refuse_unless x why)
  unless true why h = passed_never
  unless false why h = h

  pub after : (x y : Check) → Never m x → Never m y → Never m (then x y)
  after (Ok tt) y h g = g
  after (Err why) y h g = h

  pub after_three : (x y z : Check) → Never m x → Never m y → Never m z → Never m (then x (then y z))
  after_three x y z h g f = after x (then y z) h (after y z g f)

  pub setting_never : (s : Setting) → Never m (setting_check s)
  unfolding setting_check
  setting_never s = go (known (named s.curve)) (member s.width (widths_of (named s.curve))) (member s.ei (eis_of (named s.curve)))
    where
      go : (x y z : Bool) → Never m (then (refuse_unless x UnknownCurve) (then (refuse_unless y UnknownWidth) (refuse_unless z UnknownEi)))
      go x y z =
          after_three (refuse_unless x UnknownCurve) (refuse_unless y UnknownWidth) (refuse_unless z UnknownEi)
          (unless x UnknownCurve (λ e. omega (arith, later)))
          (unless y UnknownWidth (λ e. omega (arith, later)))
          (unless z UnknownEi (λ e. omega (arith, later)))

  -- and for ACES, where m is not 12
  pub aces_never : (12 ≡ m → ⊥) → (s : Setting) → Never m (aces_check s)
  unfolding aces_check
  aces_never no_matrix_lem s =
      after (setting_check s) (refuse_unless (has_matrix (named s.curve)) NoMatrix) (setting_never s) (unless (has_matrix (named s.curve)) NoMatrix no_matrix_lem)

  -- ---- of one code, number, pixel or record
  pub single_never : {A : Type 0} (x : Check) (values : List A) → Never m x → Other m (single x values).number
  single_never (Ok tt) values h = passed_never
  single_never (Err why) values h = h

  -- ---- of strips
  next_never : (x : Check) (k : ℕ) (next : Answer) → Never m x → Other m (strip_result next).number → Other m (strip_result (or_next x k next)).number
  next_never (Ok tt) k next h g = g
  next_never (Err why) k next h g = h

  module _ (c : Conversion) (never : (r : List ℕ) → Never m (record_check c r)) where
    scan_never : (k : ℕ) (rs : List (List ℕ)) → Other m (strip_result (scan (record_check c) k rs)).number
    unfolding scan
    scan_never k [] = passed_never
    scan_never k (r ∷ rs) = next_never (record_check c r) k (scan (record_check c) (suc k) rs) (never r) (scan_never (suc k) rs)

    pub strip_never : (input output : List ℕ) → (result_of c input output).number ≡ m → ⊥
    unfolding answer_of
    strip_never input output =
        go (eqb (length input % c.from) 0) (leb (length input / c.from * c.to) (length output)) (scan_of c (length input / c.from) input) (scan_never 0 (records c.from (length input / c.from) input))
      where
        go : (x y : Bool) (a : Answer) → Other m (strip_result a).number → Other m (strip_result (choose x (choose y a (refused_at ShortOutput 0)) (refused_at PartialRecord 0))).number
        go true true a h = h
        go true false a h = λ e. omega (arith, later)
        go false y a h = λ e. omega (arith, later)
