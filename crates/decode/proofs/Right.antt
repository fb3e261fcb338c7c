-- Of a scale whose tests are passed: the decoded numbers are what the rules ask, and they are apart.
-- Assumes nothing.
use mathlib.Core.Path.{◌≡◌, refl, sym, ap, subst}
use mathlib.Core.Bool.{Bool, true, false, not}
use mathlib.Core.List.{List}
use Prim.Native.Nat.{ℕ, ◌+◌, ◌-◌, ◌*◌, ◌/◌, ◌^◌, ◌≤◌, ◌<◌}
use native.Mathlib.Nat.{le_of_suc-le-suc, le_of_lt, mul-le-mul_right, le_of_mul-le-mul_right, lt_of_mul-lt-mul_right, div-mul-le_self, lt-div-mul-add, add-sub_of_le}
use native.Mathlib.Omega.{arith}
use borrow.Author.Tests.{ltb-true, ltb-false, lt-ltb, le-ltb}
use lib.Dec.{T, ltb, lit<}
use lib.IntN.{sub_ℕ}
use Rattle.rules.specs.Fraction.{ratio, whole}
use Rattle.rules.specs.Curve.{Curve, log_c4, log_c, Constants, in_toe}
use Rattle.rules.specs.Exact.{Scale, signal, VersusPart}
use Rattle.rules.specs.Decoding.{DecodesPart, DecodesWithin}
use Rattle.curve_table.specs.Table.{fine}
use Rattle.decode.specs.declared.decoder.Decoder.{Decoder}
use Rattle.decode.specs.Decoded.{offset, product, toe_raw, power_raw, raw_by, decoder_of, toe_of}
use Rattle.decode.proofs.Tests.{Source, Tested, first, bias}
use Rattle.decode.proofs.Law.{no_less, next_low}
use Rattle.decode.proofs.Near.{Room, below_exact, above_exact}
use Rattle.decode.proofs.Toe as toe

-- ---- which part
pub raw_toe : (d : Decoder) (t : List ℕ) (n : ℕ) → n < d.first → raw_by d t n ≡ toe_raw d n
unfolding raw_by
raw_toe d t n h = rw (lt-ltb n d.first h)

pub raw_power : (d : Decoder) (t : List ℕ) (n : ℕ) → d.first ≤ n → raw_by d t n ≡ power_raw d t n
unfolding raw_by
raw_power d t n h = rw (le-ltb n d.first h)

pub passed : (x : Bool) → T x → x ≡ true
passed true h = refl
passed false h = absurd h

pub failed : (x : Bool) → T (not x) → x ≡ false
failed true h = absurd h
failed false h = refl

-- ---- a step's product against the next step's, and the numbers rounded down from them
step : (v v' δ lo S w least : ℕ) → 0 < S → lo ≡ S + δ → v * lo ≤ (v' + 5) * S → least ≤ v + 5 → (w + 5) * S + 5 * δ ≤ least * δ → v + w ≤ v'
step v v' δ lo S w least p e h m t = le_of_mul-le-mul_right {k = S} (omega (arith, ap (λ (x : ℕ). v * x) e, mul-le-mul_right δ m)) p

rise : (g v v' i w : ℕ) → 0 < w → v + g * w ≤ v' → (v + i) / w + g ≤ (v' + i) / w
rise g v v' i w p h = le_of_suc-le-suc (lt_of_mul-lt-mul_right w (omega (arith, div-mul-le_self (v + i) w, lt-div-mul-add {a = v' + i} {b = w} p)))

pub power_step : {k : Scale} {g : ℕ} {t : List ℕ} {s : Source} → Tested k g t s → (n : ℕ) → first k ≤ n → n < k.last
    → power_raw (decoder_of k) t n + g ≤ power_raw (decoder_of k) t (n + 1)
power_step {k} {g} {t} {s} ok n f h =
    rise g (product t n) (product t (n + 1)) (bias k) (2 ^ 27) (lit< tt)
    (step (product t n) (product t (n + 1)) (s.ratio - fine) s.ratio fine (g * 2 ^ 27) (product t (first k)) (lit< tt) (sym (add-sub_of_le ok.ratio_above_one))
    (next_low ok n h)
    (no_less ok (first k) n f (le_of_lt h))
    ok.steps)

-- ---- curve 4: the power part alone
module _ {last g : ℕ} {t : List ℕ} {s : Source} (ok : Tested (record { curve = log_c4; last = last }) g t s) where
  abbrev k4 : Scale
  k4 = record { curve = log_c4; last = last }

  within4 : (N D : ℕ) → 0 < D → ((n : ℕ) → n ≤ last → Room k4 t n N D) → (n : ℕ) → n ≤ last → DecodesWithin (ratio N D) k4 n (sub_ℕ (raw_by (decoder_of k4) t n) offset)
  within4 N D pD r n h =
      rw (raw_power (decoder_of k4) t n (omega arith))
      (DecodesPart.power (VersusPart.power (below_exact ok n (omega arith) h N D pD (r n h))) (VersusPart.power (above_exact ok n (omega arith) h N D pD (r n h))))

  rises4 : (n : ℕ) → n < last → raw_by (decoder_of k4) t n + g ≤ raw_by (decoder_of k4) t (n + 1)
  rises4 n h = rw (raw_power (decoder_of k4) t n (omega arith), raw_power (decoder_of k4) t (n + 1) (omega arith)) (power_step ok n (omega arith) h)

-- ---- a curve with a toe
module _ {c : Constants} {last g : ℕ} {t : List ℕ} {s : Source} (ok : Tested (record { curve = log_c c; last = last }) g t s) where
  abbrev kc : Scale
  kc = record { curve = log_c c; last = last }

  abbrev d : Decoder
  d = decoder_of kc

  abbrev here : (n : ℕ) → Bool
  here n = in_toe (log_c c) (signal kc (whole n))

  within_c : (N D : ℕ) → 0 < D → ((n : ℕ) → d.first ≤ n → n ≤ last → Room kc t n N D) → (n : ℕ) → n ≤ last → DecodesWithin (ratio N D) kc n (sub_ℕ (raw_by d t n) offset)
  within_c N D pD r n h = go (ltb n d.first) refl
    where
      in_toe_lem : n < d.first → DecodesWithin (ratio N D) kc n (sub_ℕ (raw_by d t n) offset)
      in_toe_lem g = rw (raw_toe d t n g, passed (here n) (toe.toe_step c last ok.toe.border_above n g)) (DecodesPart.toe (toe.toe_number c last n ok.toe.room ok.toe.divisor))

      in_power : d.first ≤ n → DecodesWithin (ratio N D) kc n (sub_ℕ (raw_by d t n) offset)
      in_power g =
          rw (raw_power d t n g, failed (here n) (toe.power_step c last n g))
          (DecodesPart.power
          (rw (failed (here n) (toe.power_step c last n g)) (VersusPart.power (below_exact ok n g h N D pD (r n g h))))
          (rw (failed (here n) (toe.power_step c last n g)) (VersusPart.power (above_exact ok n g h N D pD (r n g h)))))

      go : (x : Bool) → ltb n d.first ≡ x → DecodesWithin (ratio N D) kc n (sub_ℕ (raw_by d t n) offset)
      go true e = in_toe_lem (ltb-true n d.first e)
      go false e = in_power (ltb-false n d.first e)

  toe_rises : (n : ℕ) → toe_raw d n + g ≤ toe_raw d (n + 1)
  toe_rises n =
      subst (λ (x : ℕ). toe_raw d n + g ≤ x / (2 * (c.e * last))) (next (toe_of (log_c c) last))
      (rise g (2 ^ 25 * 1000000 * n) (2 ^ 25 * 1000000 * n + 2 ^ 25 * 1000000) (toe_of (log_c c) last) (2 * (c.e * last)) (twice (c.e * last) ok.toe.divisor) (more (g * (2 * (c.e * last))) ok.toe.steps))
    where
      twice : (x : ℕ) → 0 < x → 0 < 2 * x
      twice x h = omega arith

      more : (x : ℕ) → x ≤ 2 ^ 25 * 1000000 → 2 ^ 25 * 1000000 * n + x ≤ 2 ^ 25 * 1000000 * n + 2 ^ 25 * 1000000
      more x h = omega arith

      next : (x : ℕ) → 2 ^ 25 * 1000000 * n + 2 ^ 25 * 1000000 + x ≡ 2 ^ 25 * 1000000 * (n + 1) + x
      next x = omega arith

  border_step : (n : ℕ) → n + 1 ≡ d.first → raw_by d t n + g ≤ raw_by d t (n + 1)
  border_step n e = rw e (subst (λ (x : ℕ). raw_by d t x + g ≤ raw_by d t d.first) (before d.first e) ok.toe.border_rises)
    where
      before : (f : ℕ) → n + 1 ≡ f → f - 1 ≡ n
      before f e = omega arith

  rises_c : (n : ℕ) → n < last → raw_by d t n + g ≤ raw_by d t (n + 1)
  rises_c n h = go (ltb (n + 1) d.first) refl (ltb n d.first) refl
    where
      earlier : (f : ℕ) → n + 1 < f → n < f
      earlier f h = omega arith

      border : (f : ℕ) → f ≤ n + 1 → n < f → n + 1 ≡ f
      border f g h = omega arith

      go : (x : Bool) → ltb (n + 1) d.first ≡ x → (y : Bool) → ltb n d.first ≡ y → raw_by d t n + g ≤ raw_by d t (n + 1)
      go true e y f =
          rw (raw_toe d t n (earlier d.first (ltb-true (n + 1) d.first e)), raw_toe d t (n + 1) (ltb-true (n + 1) d.first e)) (toe_rises n)
      go false e true f = border_step n (border d.first (ltb-false (n + 1) d.first e) (ltb-true n d.first f))
      go false e false f =
          rw (raw_power d t n (ltb-false n d.first f), raw_power d t (n + 1) (ltb-false (n + 1) d.first e))
          (power_step ok n (ltb-false n d.first f) h)

-- ---- of any curve: the number of a step is within any tolerance that there is room for
pub within : (c : Curve) (last g : ℕ) (t : List ℕ) (s : Source) → Tested (record { curve = c; last = last }) g t s → (N D : ℕ) → 0 < D
    → ((n : ℕ) → first (record { curve = c; last = last }) ≤ n → n ≤ last → Room (record { curve = c; last = last }) t n N D)
    → (n : ℕ) → n ≤ last → DecodesWithin (ratio N D) (record { curve = c; last = last }) n (sub_ℕ (raw_by (decoder_of (record { curve = c; last = last })) t n) offset)
within log_c4 last g t s ok N D pD r = within4 ok N D pD (λ n h. r n (omega arith) h)
within (log_c c) last g t s ok N D pD r = within_c ok N D pD r

-- and the numbers are apart
pub rises : (c : Curve) (last g : ℕ) (t : List ℕ) (s : Source) → Tested (record { curve = c; last = last }) g t s
    → (n : ℕ) → n < last → raw_by (decoder_of (record { curve = c; last = last })) t n + g ≤ raw_by (decoder_of (record { curve = c; last = last })) t (n + 1)
rises log_c4 last g t s ok = rises4 ok
rises (log_c c) last g t s ok = rises_c ok
