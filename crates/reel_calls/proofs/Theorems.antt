-- 02, item 9: A REEL OF RECORDS KEPT WITH ITS SUMS, after any list of calls from an empty reel.
-- Assumes nothing.
use Rattle.std.specs.Prelude.{Err, Ok}
use mathlib.Core.List.{List, [], ◌∷◌}
use mathlib.Core.Path.{◌≡◌, refl, sym, ap, ◌∙◌, subst}
use Prim.Native.Nat.{ℕ, ◌-◌, ◌*◌, ◌^◌, ◌≤◌, ◌<◌}
use native.Mathlib.Omega.{arith}
use lib.Dec.{lit<}
use lib.IntN.{nat_abs}
use lib.ListN.{length}
use Rattle.whole.proofs.Reflect.{abs_is, one_zero, sub_dif}
use Rattle.rules.specs.Refusal.{OrRefusal, number_of_check}
use Rattle.rules.specs.declared.Refusal.{Refusal}
use Rattle.rules.specs.declared.Setting.{Setting}
use Rattle.rules.specs.declared.Totals.{Totals}
use Rattle.rules.specs.Record.{setting_of, channel_at, code_bytes, pixel_size}
use Rattle.rules.specs.Reel.{Call, WholeRecord, call_check, fold, records_after, Reel, reel_of, reel_most, room_in, no_totals, empty_reel, sum_of, scene_at, TrueSums, reel_answer, reel_after, reel_after_all, Answers}
use Rattle.rules.specs.Strip.{records}
use Rattle.rules.specs.Result.{Each}
use Rattle.rules.specs.Setting.{step_of, code_check, ValidForAces}
use Rattle.rules.proofs.Codes.{code_passed}
use Rattle.rules.proofs.NoMatrix.{twelve_exactly}
use Rattle.rules.proofs.Settings.{aces_valid}
use Rattle.rules.proofs.Sums.{sum_small}
use Rattle.rules.proofs.ReelChecks.{passing}
use Rattle.rules.proofs.ReelList.{each_more, Kept, kept_all}
use Rattle.rules.proofs.Reel.{Small, Sound, sound_check, sound_calls, true_sums, room_whole, answer_number_lem, count_all}
use Rattle.rules.proofs.Reel as laws
use Rattle.decode.specs.Decoded.{offset, raw, decoded}
use Rattle.decode.proofs.Limit.{raw_limited}
use Rattle.decode.proofs.Theorems.{decoding}
use Rattle.reel_calls.specs.Words.{after_calls, held_in, LetIn, AddsDecoded, SmallSums, sum_limit, answer_number, kept_after, Made, none, next}

-- ---- the decoded numbers are below 2 ^ 33, without their sign
decoded_below : (s : Setting) → ValidForAces s → (n : ℕ) → code_check s n ≡ Ok tt → nat_abs (decoded s n) < 2 ^ 33
decoded_below s v n e =
    let z = decoded s n in
    omega (arith, abs_is z, one_zero z, sub_dif (raw s (step_of s n)) offset, raw_limited s (aces_valid s v) (step_of s n) (code_passed s n e))

small : Small decoded
small s v n e = omega (arith, decoded_below s v n e)

-- ---- the records: what accepted calls make of a list, in any room
module _ (room : ℕ) (calls : List Call) where
  kept : Kept room (records_after room calls)
  kept = kept_all room [] (record { fits = omega arith; pass = tt }) calls

  -- EVERY RECORD HELD passes the checks
  pub held_passes : Each LetIn (records_after room calls)
  held_passes = kept.pass

  -- so none is of curve 2
  pub none_of_curve_2 : Each (λ r. (setting_of r).curve ≡ 2 → ⊥) (records_after room calls)
  none_of_curve_2 = each_more LetIn (λ r. (setting_of r).curve ≡ 2 → ⊥) never (records_after room calls) held_passes
    where
      never : (r : List ℕ) → LetIn r → (setting_of r).curve ≡ 2 → ⊥
      never r e two =
          let v = (passing r e).setting in
          omega (arith, (twelve_exactly (setting_of r)).1 (aces_valid (setting_of r) v, two), ap number_of_check v)

  -- and the numbers that are added for it are DECODED NUMBERS of its codes, by the rules of decoding
  pub numbers_decode : Each AddsDecoded (records_after room calls)
  numbers_decode = each_more LetIn AddsDecoded one (records_after room calls) held_passes
    where
      one : (r : List ℕ) → LetIn r → AddsDecoded r
      one r e i h =
          let p = passing r e in
          decoding (setting_of r) (aces_valid (setting_of r) p.setting) (channel_at code_bytes r i) (p.code i h)

-- ---- a reel in memory that is lent any strip, after any list of calls
module _ (strip : List ℕ) (calls : List Call) (w : Each WholeRecord calls) where
  sound : Sound decoded (room_in strip) (records_after (room_in strip) calls) (after_calls strip calls)
  sound = sound_calls decoded small strip calls w

  -- THE REEL HOLDS what the accepted calls say, with the room that there is in the strip
  pub reel_holds_any : held_in (after_calls strip calls) ≡ records_after (room_in strip) calls
  reel_holds_any = sound.holds

  -- and EACH SUM IS THE SUM of the scene numbers of those records, and the count theirs
  pub sums_true_any : TrueSums decoded (records_after (room_in strip) calls) (after_calls strip calls).totals
  sums_true_any = true_sums decoded small sound

  -- that is, of the records that are then in the strip
  pub sums_held : TrueSums decoded (held_in (after_calls strip calls)) (after_calls strip calls).totals
  sums_held = rw reel_holds_any sums_true_any

  -- THE ANSWER to the next call is the one that the rules give for a list of those records
  pub answer_of_any : (c : Call)
      → answer_number (after_calls strip calls) c ≡ number_of_check (call_check (room_in strip) (length (records_after (room_in strip) calls)) c)
  answer_of_any c = answer_number_lem decoded (after_calls strip calls) c ∙ ap number_of_check (sound_check decoded sound c)

-- NEVER MORE than 4,096 records are counted, whatever the strip and the calls
pub never_more : (strip : List ℕ) (calls : List Call) → (after_calls strip calls).totals.count ≤ reel_most
never_more strip calls = count_all decoded (empty_reel strip) (omega arith) calls

-- EACH SUM IS SMALL: below 2 ^ 45 without its sign, so 64 bits hold it
pub sums_small : (strip : List ℕ) (calls : List Call) → Each WholeRecord calls → SmallSums (after_calls strip calls).totals
sums_small strip calls w =
    record { red = rw t.red (one 0 (lit< tt)); green = rw t.green (one 1 (lit< tt)); blue = rw t.blue (one 2 (lit< tt)) }
  where
    rs : List (List ℕ)
    rs = records_after (room_in strip) calls

    t : TrueSums decoded (records_after (room_in strip) calls) (after_calls strip calls).totals
    t = sums_true_any strip calls w

    number_below : (i : ℕ) → i < 3 → (r : List ℕ) → LetIn r → nat_abs (scene_at decoded r i) ≤ 2 ^ 33 - 1
    number_below i h r e =
        let p = passing r e in omega (arith, decoded_below (setting_of r) p.setting (channel_at code_bytes r i) (p.code i h))

    one : (i : ℕ) → i < 3 → nat_abs (sum_of (λ r. scene_at decoded r i) (records_after (room_in strip) calls)) < sum_limit
    one i h =
        let numbers = each_more LetIn (λ r. nat_abs (scene_at decoded r i) ≤ 2 ^ 33 - 1) (number_below i h) rs (held_passes (room_in strip) calls) in
        omega (arith, sum_small (λ r. scene_at decoded r i) (2 ^ 33 - 1) rs numbers, t.count, never_more strip calls)

-- ---- A STRIP WITH ROOM FOR 4,096 RECORDS
module _ (strip : List ℕ) (long : reel_most * pixel_size ≤ length strip) (calls : List Call) (w : Each WholeRecord calls) where
  -- THE REEL HOLDS what the accepted calls say of a list of up to 4,096 records
  pub reel_holds : held_in (after_calls strip calls) ≡ records_after reel_most calls
  reel_holds = rw (room_whole strip long) at (reel_holds_any strip calls w)

  -- and EACH SUM IS THE SUM of the scene numbers of those records, and the count theirs
  pub sums_true : TrueSums decoded (records_after reel_most calls) (after_calls strip calls).totals
  sums_true = rw (room_whole strip long) at (sums_true_any strip calls w)

  -- THE ANSWER to the next call is the one that the rules give for a list of those records
  pub answer_of : (c : Call) → answer_number (after_calls strip calls) c ≡ number_of_check (call_check reel_most (length (records_after reel_most calls)) c)
  answer_of c = rw (room_whole strip long) at (answer_of_any strip calls w c)

-- ---- EVERY REEL, whatever is in its strip and is kept beside it, and every call
module _ (reel : Reel) (c : Call) where
  -- A REFUSED CALL changes neither the reel nor its sums
  pub refused_keeps : (why : Refusal) → reel_answer decoded reel c ≡ Err why → reel_after decoded reel c ≡ reel
  refused_keeps why e = laws.refused_keeps decoded reel c why e

  -- an accepted one answers the count and the sums that are then kept
  pub done_counts : (t : Totals) → reel_answer decoded reel c ≡ Ok t → t ≡ (reel_after decoded reel c).totals
  done_counts t e = laws.done_counts decoded reel c t e

-- ---- THE CALLS THAT A CALLER MAKES, each with its contract, make the reel of the rules: so all of the above is about them
one_made : (strip : List ℕ) (t : Totals) (c : Call) (a : OrRefusal Totals) {after : List ℕ} → Answers decoded strip t c a after
    → reel_of after (kept_after a t) ≡ reel_after decoded (reel_of strip t) c
one_made strip t c (Ok u) h = λ i. reel_of (h.writes i) (done_counts (reel_of strip t) c u (sym h.answers) i)
one_made strip t c (Err why) h =
    let same = sym (ap (λ (reel : Reel). reel.totals) (refused_keeps (reel_of strip t) c why (sym h.answers))) in
    λ i. reel_of (h.writes i) (same i)

pub calls_made : {strip strip' : List ℕ} {t t' : Totals} {calls : List Call} → Made strip t calls strip' t'
    → reel_of strip' t' ≡ reel_after_all decoded (reel_of strip t) calls
unfolding fold
calls_made none = refl
calls_made {strip} {t = t} {calls = c ∷ cs} (next a h m) =
    calls_made m ∙ ap (λ (reel : Reel). reel_after_all decoded reel cs) (one_made strip t c a h)

-- from an empty reel in a strip with room for 4,096 records: what they hold, and their sums
pub made_holds : (strip strip' : List ℕ) (t : Totals) (calls : List Call) → reel_most * pixel_size ≤ length strip → Each WholeRecord calls
    → Made strip no_totals calls strip' t
    → (records pixel_size t.count strip' ≡ records_after reel_most calls) × TrueSums decoded (records_after reel_most calls) t
made_holds strip strip' t calls long w m =
    let e = calls_made m in (
      ap held_in e ∙ reel_holds strip long calls w,
      subst (λ (reel : Reel). TrueSums decoded (records_after reel_most calls) reel.totals) (sym e) (sums_true strip long calls w),
    )
