-- Two conversions of which the second takes what the first writes, record by record, to what `f` makes of the record: then it takes what the
-- first writes of a strip to that. Where that is the record itself, the strip comes back, and two strips that the first writes alike are one.
-- Assumes nothing.
use Rattle.std.specs.Prelude.{Ok}
use mathlib.Core.Path.{◌≡◌, refl, ap, sym, ◌∙◌}
use mathlib.Core.Bool.{Bool, true, false}
use mathlib.Core.Logic.{◌↔◌}
use mathlib.Core.List.{List, [], ◌∷◌, ◌++◌, append_assoc, append-nil, map}
use Prim.Native.Nat.{ℕ, zero, suc, ◌+◌, ◌*◌, ◌/◌, ◌%◌, ◌≤◌, ◌<◌}
use native.Mathlib.Nat.{zero-mul, suc-mul, add-zero, add-suc, suc-add, div-add-mod'}
use native.Mathlib.Omega.{arith}
use borrow.Author.Tests.{eqb-true, leb-true}
use lib.Dec.{leb, eqb}
use lib.ListN.{length, take, drop, length-drop}
use lib.Seq.{take_at, drop_at, take-add, take-length, drop-nil, length-take-le}
use Rattle.rules.specs.Refusal.{refused_at}
use Rattle.rules.specs.declared.Refusal.TheVariants.{PartialRecord, ShortOutput}
use Rattle.rules.specs.Choice.{choose}
use Rattle.rules.specs.Record.{IsBytes}
use Rattle.rules.specs.Strip.{Conversion, record_check, records, written, scan, scan_of, answer_of, output_after}
use Rattle.rules.proofs.Records.{take_bytes, drop_bytes}
use Rattle.record_conversion.proofs.Good.{Good}
use Rattle.rules.proofs.Strips.{length_written, length_records}
use Rattle.strip_passes.proofs.FirstPass.{go_on, never, counted}
use Rattle.strip.proofs.Join.{whole_answer}

-- each of the records is one
abbrev pub AllGood : Conversion → List (List ℕ) → Type 0
AllGood c [] = Unit {0}
AllGood c (r ∷ rs) = Good c r × AllGood c rs

-- the records of a strip that is not refused are good
good_records : (c : Conversion) (n : ℕ) (s : List ℕ) (k m : ℕ) → n * c.from ≤ length s → IsBytes s → Ok m ≡ scan (record_check c) k (records c.from n s)
    → AllGood c (records c.from n s)
unfolding scan records
good_records c zero s k m room h e = tt
good_records c (suc n) s k m room h e =
    let le : n * c.from + c.from ≤ length s = rw suc-mul at room in
    let on = go_on (record_check c) (take c.from s) k m (scan (record_check c) (suc k) (records c.from n (drop c.from s))) e in (
      record { long = length-take-le c.from s (omega arith); bytes = take_bytes c.from s h; passes = on.0 },
      good_records c n (drop c.from s) (suc k) m (rw length-drop (omega arith)) (drop_bytes c.from s h) on.1,
    )

-- what is written is cut into records again
records_written : (f : List ℕ → List ℕ) (to : ℕ) (long : (r : List ℕ) → length (f r) ≡ to) (size n : ℕ) (s rest : List ℕ)
    → records to n (written f (records size n s) ++ rest) ≡ map f (records size n s)
unfolding records written
records_written f to long size zero s rest = refl
records_written f to long size (suc n) s rest =
    rw (append_assoc, take_at (f (take size s)) _ to (long (take size s)), drop_at (f (take size s)) _ to (long (take size s)), records_written f to long size n (drop size s) rest)

-- the records of a strip, one after the other, are the strip
written_records : (size n : ℕ) (s : List ℕ) → written (λ r. r) (records size n s) ≡ take (n * size) s
unfolding records written
written_records size zero s = rw zero-mul
written_records size (suc n) s =
    let e : suc n * size ≡ size + n * size = rw suc-mul (omega arith) in
    rw (written_records size n (drop size s), e, take-add)

-- ---- a strip of n records is converted whole, exactly so
pub record Whole (c : Conversion) (input output : List ℕ) (n : ℕ) : Type 0 where
  pub long : length input ≡ n * c.from
  pub room : n * c.to ≤ length output
  pub passes : Ok n ≡ scan_of c n input

module _ (c : Conversion) (input output : List ℕ) (n : ℕ) where
  pub done_whole : Ok n ≡ answer_of c input output → Whole c input output n
  unfolding answer_of
  done_whole e = go (eqb (length input % c.from) 0) (leb (length input / c.from * c.to) (length output)) refl refl e
    where
      go : (a b : Bool) → eqb (length input % c.from) 0 ≡ a → leb (length input / c.from * c.to) (length output) ≡ b
          → Ok n ≡ choose a (choose b (scan_of c (length input / c.from) input) (refused_at ShortOutput 0)) (refused_at PartialRecord 0) → Whole c input output n
      go true true p q e =
          let m : n ≡ length input / c.from = counted c (length input / c.from) input (Ok n) n e refl in
          record {
            long = rw m (omega (arith, eqb-true (length input % c.from) 0 p, div-add-mod' (length input) c.from));
            room = rw m (leb-true _ _ q);
            passes = e ∙ ap (λ (k : ℕ). scan_of c k input) (sym m);
          }
      go true false p q e = never e
      go false b p q e = never e

  pub whole_done : 0 < c.from → Whole c input output n → Ok n ≡ answer_of c input output
  whole_done p w = w.passes ∙ sym (whole_answer c input output n p w.long w.room)

-- the records of a whole strip, one after the other, are the strip
pub whole_strip : (size n : ℕ) (s : List ℕ) → length s ≡ n * size → written (λ r. r) (records size n s) ≡ s
whole_strip size n s e = rw (written_records size n s, ← e, take-length)

-- ---- a second conversion of what the first writes

-- a conversion d of what c writes, to records of so many bytes; and to records as c reads them
abbrev pub next : (c d : Conversion) (to : ℕ) → Conversion
next c d to = record { from = c.to; to = to; setting = d.setting; inner = d.inner; bytes = d.bytes }

abbrev pub reverse : (c d : Conversion) → Conversion
reverse c d = next c d c.from

-- what a conversion writes of a strip
abbrev pub image : Conversion → List ℕ → ℕ → List ℕ
image c input n = written c.bytes (records c.from n input)

-- it begins the output
pub image_is : (c : Conversion) → ((r : List ℕ) → length (c.bytes r) ≡ c.to) → (input output : List ℕ) (n : ℕ)
    → take (n * c.to) (output_after c input output (Ok n)) ≡ image c input n
unfolding output_after
image_is c long input output n = take_at (image c input n) _ (n * c.to) (length_written c.bytes c.to long c.from n input)

module _ (c : Conversion) (long : (r : List ℕ) → length (c.bytes r) ≡ c.to) (d : Conversion) (f : List ℕ → List ℕ)
    (back : (r : List ℕ) → Good c r → (record_check d (c.bytes r) ≡ Ok tt) × (d.bytes (c.bytes r) ≡ f r)) where
  scan_back : (rs : List (List ℕ)) (k : ℕ) → AllGood c rs → Ok (k + length rs) ≡ scan (record_check d) k (map c.bytes rs)
  unfolding scan
  scan_back [] k g = rw add-zero
  scan_back (r ∷ rs) k g = rw ((back r g.0).0, add-suc, ← suc-add) (scan_back rs (suc k) g.1)

  written_back : (rs : List (List ℕ)) → AllGood c rs → written d.bytes (map c.bytes rs) ≡ written f rs
  unfolding written
  written_back [] g = refl
  written_back (r ∷ rs) g = rw ((back r g.0).1, written_back rs g.1)

  module _ (input output : List ℕ) (n : ℕ) (h : IsBytes input) (w : Whole c input output n) where
    good : AllGood c (records c.from n input)
    good = good_records c n input 0 n (omega (arith, w.long)) h w.passes

    again : records c.to n (image c input n) ≡ map c.bytes (records c.from n input)
    again = ap (λ (l : List ℕ). records c.to n l) (sym (append-nil (image c input n))) ∙ records_written c.bytes c.to long c.from n input []

    -- the second conversion accepts it whole, where it has room
    pub next_whole : (to : ℕ) (other : List ℕ) → n * to ≤ length other → Whole (next c d to) (image c input n) other n
    next_whole to other room =
        record {
          long = length_written c.bytes c.to long c.from n input;
          room = room;
          passes =
              let e : n ≡ 0 + length (records c.from n input) = omega (arith, length_records c.from n input) in
              ap Ok e
              ∙ scan_back (records c.from n input) 0 good
              ∙ ap (λ (l : List (List ℕ)). scan (record_check d) 0 l) (sym again);
        }

    -- and writes what f makes of the first's input
    pub next_written : (to : ℕ) (other : List ℕ) → output_after (next c d to) (image c input n) other (Ok n) ≡ written f (records c.from n input) ++ drop (n * to) other
    unfolding output_after
    next_written to other = rw (again, written_back _ good)

    -- where it has room for the first's input
    pub back_whole : (other : List ℕ) → length input ≤ length other → Whole (reverse c d) (image c input n) other n
    back_whole other room = next_whole c.from other (omega (arith, w.long))

    pub back_written : (other : List ℕ) → output_after (reverse c d) (image c input n) other (Ok n) ≡ written f (records c.from n input) ++ drop (length input) other
    back_written other = next_written c.from other ∙ ap (λ (k : ℕ). written f (records c.from n input) ++ drop k other) (sym w.long)

  -- THE TWO CONVERSIONS, one after the other
  pub one_after_other : 0 < c.to → (to : ℕ) (input output other : List ℕ) (n : ℕ) → IsBytes input → Ok n ≡ answer_of c input output → n * to ≤ length other
      → (Ok n ≡ answer_of (next c d to) (take (n * c.to) (output_after c input output (Ok n))) other)
      × (output_after (next c d to) (take (n * c.to) (output_after c input output (Ok n))) other (Ok n) ≡ written f (records c.from n input) ++ drop (n * to) other)
  one_after_other p to input output other n h e room =
      let w = done_whole c input output n e in
      rw (image_is c long input output n)
      (whole_done (next c d to) (image c input n) other n p (next_whole input output n h w to other room), next_written input output n h w to other)

  -- there and back
  pub round_trip_to : 0 < c.to → (input output other : List ℕ) (n : ℕ) → IsBytes input → Ok n ≡ answer_of c input output → length input ≤ length other
      → (Ok n ≡ answer_of (reverse c d) (take (n * c.to) (output_after c input output (Ok n))) other)
      × (output_after (reverse c d) (take (n * c.to) (output_after c input output (Ok n))) other (Ok n) ≡ written f (records c.from n input) ++ drop (length input) other)
  round_trip_to p input output other n h e room =
      let w = done_whole c input output n e in
      let t = one_after_other p c.from input output other n h e (omega (arith, w.long)) in
      (t.0, t.1 ∙ ap (λ (k : ℕ). written f (records c.from n input) ++ drop k other) (sym w.long))

-- ---- to the record itself
module _ (c : Conversion) (long : (r : List ℕ) → length (c.bytes r) ≡ c.to) (d : Conversion)
    (back : (r : List ℕ) → Good c r → (record_check d (c.bytes r) ≡ Ok tt) × (d.bytes (c.bytes r) ≡ r)) where
  -- and writes the first's input
  pub itself_written : (input output other : List ℕ) (n : ℕ) → IsBytes input → Whole c input output n
      → output_after (reverse c d) (image c input n) other (Ok n) ≡ input ++ drop (length input) other
  itself_written input output other n h w =
      back_written c long d (λ r. r) back input output n h w other ∙ ap (λ (l : List ℕ). l ++ drop (length input) other) (whole_strip c.from n input w.long)

  -- THE TWO CONVERSIONS, one after the other, give the strip back
  pub round_trip : 0 < c.to → (input output other : List ℕ) (n : ℕ) → IsBytes input → Ok n ≡ answer_of c input output → length input ≤ length other
      → (Ok n ≡ answer_of (reverse c d) (take (n * c.to) (output_after c input output (Ok n))) other)
      × (output_after (reverse c d) (take (n * c.to) (output_after c input output (Ok n))) other (Ok n) ≡ input ++ drop (length input) other)
  round_trip p input output other n h e room =
      let t = round_trip_to c long d (λ r. r) back p input output other n h e room in
      (t.0, t.1 ∙ ap (λ (l : List ℕ). l ++ drop (length input) other) (whole_strip c.from n input (done_whole c input output n e).long))

  -- two strips that are converted whole are one where what is written of them is one
  pub same_strip : (input input' output output' : List ℕ) (n : ℕ) → IsBytes input → IsBytes input' → Whole c input output n → Whole c input' output' n
      → image c input n ≡ image c input' n → input ≡ input'
  same_strip input input' output output' n h h' w w' e =
      let p : output_after (reverse c d) (image c input n) [] (Ok n) ≡ input ++ drop (length input) [] = itself_written input output [] n h w in
      let q : output_after (reverse c d) (image c input' n) [] (Ok n) ≡ input' ++ drop (length input') [] = itself_written input' output' [] n h' w' in
      sym (rw (drop-nil, append-nil) at p) ∙ ap (λ (l : List ℕ). output_after (reverse c d) l [] (Ok n)) e ∙ rw (drop-nil, append-nil) at q

  -- TWO STRIPS ARE ONE exactly where what is written of them is one
  pub same_written : (input input' output output' : List ℕ) (n : ℕ) → IsBytes input → IsBytes input'
      → Ok n ≡ answer_of c input output → Ok n ≡ answer_of c input' output'
      → (input ≡ input') ↔ (take (n * c.to) (output_after c input output (Ok n)) ≡ take (n * c.to) (output_after c input' output' (Ok n)))
  same_written input input' output output' n h h' e e' =
      let w = done_whole c input output n e in
      let w' = done_whole c input' output' n e' in
      rw (image_is c long input output n, image_is c long input' output' n)
      (λ p. ap (λ (s : List ℕ). image c s n) p, λ q. same_strip input input' output output' n h h' w w' q)
