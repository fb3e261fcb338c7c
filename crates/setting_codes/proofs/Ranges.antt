-- Which codes a setting has, by the tests of the code: those of the rules' cases.
-- Assumes nothing.
use mathlib.Core.Bool.{Bool, true, false}
use mathlib.Core.Path.{◌≡◌, refl, sym, ap, subst, ◌∙◌}
use Prim.Native.Nat.{ℕ, ◌-◌, ◌^◌, ◌≤◌, ◌<◌}
use native.Mathlib.Nat.{sub-zero}
use native.Mathlib.Omega.{arith}
use borrow.Author.Tests.{eq-eqb, eqb-true}
use lib.Dec.{T, eqb, eqb→eq, lit<}
use Rattle.rules.specs.declared.Setting.{Setting}
use Rattle.rules.specs.declared.CurveName.{CurveName}
use Rattle.rules.specs.declared.CurveName.TheVariants.{LogC2, LogC3, LogC4, Unknown}
use Rattle.rules.specs.Choice.{choose}
use Rattle.rules.specs.Setting.{Codes, named, top_of, codes_to_top, legal_codes, recorder_codes, codes_at, codes_of, last_of}
use Rattle.rules.proofs.Settings.{has_name, first, others}
use Rattle.setting_codes.specs.LogC4.{is_log_c4, low_zeros}

module _ (s : Setting) where
  abbrev pub LogC4At : (width : ℕ) → Type 0
  LogC4At width = (s.curve ≡ 4) × (s.width ≡ width)

  -- ---- the test
  pub is_log_c4_lem : (width : ℕ) → is_log_c4 s width ≡ true → LogC4At width
  unfolding is_log_c4
  is_log_c4_lem width e =
      let t = subst T (sym e) tt in
      (eqb→eq s.curve 4 (first (eqb s.curve 4) (eqb s.width width) t), eqb→eq s.width width (others (eqb s.curve 4) (eqb s.width width) t))

  pub no_log_c4 : (width : ℕ) → (LogC4At width → ⊥) → is_log_c4 s width ≡ false
  unfolding is_log_c4
  no_log_c4 width h = go (eqb s.curve 4) (eqb s.width width) refl refl
    where
      go : (x y : Bool) → eqb s.curve 4 ≡ x → eqb s.width width ≡ y → choose x y false ≡ false
      go true true e f = absurd (h (eqb-true s.curve 4 e, eqb-true s.width width f))
      go true false e f = refl
      go false y e f = refl

  -- ---- the three cases
  pub recorder : LogC4At 16 → recorder_codes ≡ codes_of s
  unfolding codes_of
  recorder k = rw (k.0, k.1)

  pub legal : LogC4At 140 → legal_codes ≡ codes_of s
  unfolding codes_of
  legal k = rw (k.0, k.1)

  pub full : is_log_c4 s 16 ≡ false → is_log_c4 s 140 ≡ false → codes_to_top s.width ≡ codes_of s
  unfolding is_log_c4 codes_of
  full r l = go (named s.curve) refl
    where
      go : (c : CurveName) → named s.curve ≡ c → codes_to_top s.width ≡ codes_at c s.width
      go LogC2 e = refl
      go LogC3 e = refl
      go LogC4 e = let four = eq-eqb s.curve 4 (has_name s.curve e) in rw (rw four at r, rw four at l)
      go Unknown e = refl

  -- ---- the low bits that are 0
  pub record Zeros (zeros : ℕ) : Type 0 where
    pub apart : 2 ^ zeros ≡ (codes_of s).apart
    pub small : zeros < 16
    pub fits : zeros ≤ s.width
    pub last : is_log_c4 s 140 ≡ false → top_of (s.width - zeros) ≡ last_of s

  pub zeros_are : Zeros (low_zeros s)
  unfolding low_zeros
  zeros_are = go (is_log_c4 s 16) (is_log_c4 s 140) refl refl
    where
      none : 1 ≡ (codes_of s).apart → (is_log_c4 s 140 ≡ false → top_of s.width ≡ last_of s) → Zeros 0
      none a l = record { apart = a; small = lit< tt; fits = omega arith; last = λ f. ap top_of (sub-zero s.width) ∙ l f }

      go : (x y : Bool) → is_log_c4 s 16 ≡ x → is_log_c4 s 140 ≡ y → Zeros (choose x 4 0)
      go true y e f =
          let k = is_log_c4_lem 16 e in
          let codes = recorder k in
          record { apart = ap (λ (k : Codes). k.apart) codes; small = lit< tt; fits = omega (arith, k.1); last = λ _. ap (λ (w : ℕ). top_of (w - 4)) k.1 ∙ ap (λ (k : Codes). k.last) codes }
      go false true e f = none (ap (λ (k : Codes). k.apart) (legal (is_log_c4_lem 140 f))) (λ g. absurd (subst T (sym f ∙ g) tt))
      go false false e f = none (ap (λ (k : Codes). k.apart) (full e f)) (λ _. ap (λ (k : Codes). k.last) (full e f))
