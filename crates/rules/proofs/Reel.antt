-- 02, item 9, A REEL IN MEMORY, whatever the numbers of the codes: after any list of calls it holds what the accepted calls say, and each sum is
-- the sum of the numbers of the records held.
-- Assumes nothing.
use Rattle.std.specs.Prelude.{Err, Ok}
use mathlib.Core.Bool.{Bool, true, false}
use mathlib.Core.List.{List, [], ◌∷◌, ◌++◌, append-nil}
use mathlib.Core.Path.{◌≡◌, refl, sym, ap, ap₂, ◌∙◌}
use Prim.Native.Nat.{ℕ, suc, ◌-◌, ◌*◌, ◌/◌, ◌^◌, ◌≤◌, ◌<◌}
use native.Mathlib.Omega.{arith}
use borrow.Author.Tests.{leb-true, leb-false, le-leb}
use lib.Dec.{leb, lit<}
use lib.IntN.{ℤ, nat_abs, ◌+ℤ◌, ◌-ℤ◌}
use lib.ListN.{length, take, drop, drop_of_length-le}
use Rattle.whole.proofs.Reflect.{abs_is}
use Rattle.rules.specs.Refusal.{Check, number_of_check}
use Rattle.rules.specs.declared.Refusal.{Refusal}
use Rattle.rules.specs.Triples.{Scenes}
use Rattle.rules.specs.declared.Setting.{Setting}
use Rattle.rules.specs.declared.Totals.{Totals}
use Rattle.rules.specs.Choice.{choose}
use Rattle.rules.specs.Record.{to_bits, of_bits, setting_of, channel_at, code_bytes, pixel_size}
use Rattle.rules.specs.Reel.{Call, append, replace, drop_last, WholeRecord, call_check, if_passed, changed, after_call, fold, records_after, Reel, reel_of, reel_most, room_in, empty_reel, reel_check, with_record, strip_after_call, totals_with, totals_after_call, sum_bytes, sum_after, sum_of, scene_at, no_scenes, metered, TrueSums, answer_to, reel_answer, reel_after, reel_after_all, reel_result}
use Rattle.rules.specs.Result.{Each}
use Rattle.rules.specs.Setting.{code_check, ValidForAces}
use Rattle.rules.specs.Strip.{records, record_at}
use Rattle.rules.proofs.Records.{of_to}
use Rattle.rules.proofs.Strips.{length_records}
use Rattle.rules.proofs.Stretches.{record_parts, take_records, record_written, length_with, record_added}
use Rattle.rules.proofs.Sums.{sum_after_lem, sum_changed, sum_one, sum_small}
use Rattle.rules.proofs.ReelChecks.{passing, accepted_append, accepted_replace, accepted_drop}
use Rattle.rules.proofs.ReelList.{each_parts, each_more, Passes, Kept, kept_changed, kept_middle}

-- ---- the room in a strip
pub record Room (strip : List ℕ) (room : ℕ) : Type 0 where
  pub fits : room * pixel_size ≤ length strip
  pub most : room ≤ reel_most

pub room_in_lem : (strip : List ℕ) → Room strip (room_in strip)
room_in_lem strip = go (leb reel_most (length strip / pixel_size)) refl
  where
    go : (x : Bool) → leb reel_most (length strip / pixel_size) ≡ x → Room strip (choose x reel_most (length strip / pixel_size))
    go true e = record { fits = omega (arith, leb-true reel_most (length strip / pixel_size) e); most = omega arith }
    go false e = record { fits = omega arith; most = omega (arith, leb-false reel_most (length strip / pixel_size) e) }

-- a strip that has room for all has room for 4,096
pub room_whole : (strip : List ℕ) → reel_most * pixel_size ≤ length strip → room_in strip ≡ reel_most
room_whole strip h = rw (le-leb reel_most (length strip / pixel_size) (omega arith))

-- ---- EVERY REEL, sound or not, and every call
module _ (number : Setting → ℕ → ℤ) (reel : Reel) where
  -- the reel after a call whose check is so
  abbrev reel_if : Call → Check → Reel
  reel_if c x = if_passed x (reel_of (strip_after_call reel c) (totals_after_call number reel c)) reel

  -- A REFUSED CALL changes nothing
  pub refused_keeps : (c : Call) (why : Refusal) → reel_answer number reel c ≡ Err why → reel_after number reel c ≡ reel
  unfolding reel_answer reel_after
  refused_keeps c why e = go (reel_check reel c) e
    where
      go : (x : Check) → answer_to x (totals_after_call number reel c) ≡ Err why → reel_if c x ≡ reel
      go (Ok tt) f = let z : ◌≡◌ {A = ℕ} 0 1 = cc in absurd (omega arith)
      go (Err why) f = refl

  -- one that is accepted answers what is then kept
  pub done_counts : (c : Call) (t : Totals) → reel_answer number reel c ≡ Ok t → t ≡ (reel_after number reel c).totals
  unfolding reel_answer reel_after
  done_counts c t e = go (reel_check reel c) e
    where
      go : (x : Check) → answer_to x (totals_after_call number reel c) ≡ Ok t → t ≡ (reel_if c x).totals
      go (Ok tt) f = cc
      go (Err why) f = let z : ◌≡◌ {A = ℕ} 0 1 = cc in absurd (omega arith)

  -- the number of an answer is that of its check
  pub answer_number_lem : (c : Call) → (reel_result (reel_answer number reel c)).number ≡ number_of_check (reel_check reel c)
  unfolding reel_answer
  answer_number_lem c = go (reel_check reel c)
    where
      go : (x : Check) → (reel_result (answer_to x (totals_after_call number reel c))).number ≡ number_of_check x
      go (Ok tt) = refl
      go (Err why) = refl

  -- NEVER MORE than 4,096 are counted
  count_after : (c : Call) → reel.totals.count ≤ reel_most → (reel_after number reel c).totals.count ≤ reel_most
  unfolding reel_after
  count_after c h = go c (reel_check reel c) refl
    where
      go : (c : Call) (x : Check) → reel_check reel c ≡ x → (reel_if c x).totals.count ≤ reel_most
      go (append r) (Ok tt) e = omega (arith, (accepted_append (room_in reel.strip) reel.totals.count r e).0, (room_in_lem reel.strip).most)
      go (replace i r) (Ok tt) e = h
      go drop_last (Ok tt) e = omega arith
      go (append r) (Err why) e = h
      go (replace i r) (Err why) e = h
      go drop_last (Err why) e = h

pub count_all : (number : Setting → ℕ → ℤ) (reel : Reel) → reel.totals.count ≤ reel_most → (calls : List Call)
    → (reel_after_all number reel calls).totals.count ≤ reel_most
unfolding fold
count_all number reel h [] = h
count_all number reel h (c ∷ cs) = count_all number (reel_after number reel c) (count_after number reel c h) cs

-- ---- what is kept of a reel that holds these records, where codes have these numbers
module _ (number : Setting → ℕ → ℤ) where
  -- the sum of the numbers of a channel
  abbrev channel_sum : (channel : ℕ) → List (List ℕ) → ℤ
  channel_sum i rs = sum_of (λ r. scene_at number r i) rs

  -- the three sums, by their bits
  pub record Sums (rs : List (List ℕ)) (t : Totals) : Type 0 where
    pub red : t.red ≡ to_bits sum_bytes (channel_sum 0 rs)
    pub green : t.green ≡ to_bits sum_bytes (channel_sum 1 rs)
    pub blue : t.blue ≡ to_bits sum_bytes (channel_sum 2 rs)

  -- what records add to them
  record Adds (rs : List (List ℕ)) (x : Scenes) : Type 0 where
    red : x.red.0 ≡ channel_sum 0 rs
    green : x.green.0 ≡ channel_sum 1 rs
    blue : x.blue.0 ≡ channel_sum 2 rs

  adds_none : Adds [] no_scenes
  unfolding sum_of
  adds_none = record { red = refl; green = refl; blue = refl }

  adds_one : (r : List ℕ) → Passes r → Adds (r ∷ []) (metered number r)
  unfolding metered
  adds_one r e = rw e (record { red = one 0; green = one 1; blue = one 2 })
    where
      one : (i : ℕ) → scene_at number r i ≡ channel_sum i (r ∷ [])
      one i = sym (sum_one (λ q. scene_at number q i) r)

  -- A SOUND REEL: it holds these records, and keeps their sums
  pub record Sound (room : ℕ) (rs : List (List ℕ)) (reel : Reel) : Type 0 where
    pub holds : records pixel_size reel.totals.count reel.strip ≡ rs
    pub room_is : room_in reel.strip ≡ room
    pub kept : Kept room rs
    pub sums : Sums rs reel.totals

  -- an empty reel is sound, whatever is in its strip
  pub sound_empty : (strip : List ℕ) → Sound (room_in strip) [] (empty_reel strip)
  unfolding records sum_of
  sound_empty strip =
      record {
        holds = refl;
        room_is = refl;
        kept = record { fits = omega arith; pass = tt };
        sums = record { red = refl; green = refl; blue = refl };
      }

  module _ {room : ℕ} {rs : List (List ℕ)} {reel : Reel} (s : Sound room rs reel) where
    -- its count is theirs
    pub sound_count : reel.totals.count ≡ length rs
    sound_count = sym (length_records pixel_size reel.totals.count reel.strip) ∙ ap length s.holds

    -- and a call on it is checked as one on a list of them
    pub sound_check : (c : Call) → reel_check reel c ≡ call_check room (length rs) c
    sound_check c = ap₂ (λ (m n : ℕ). call_check m n c) s.room_is sound_count

-- ---- the sums after a call, where none of the numbers is beyond 2 ^ 40
abbrev pub Small : (number : Setting → ℕ → ℤ) → Type 0
Small number = (s : Setting) → ValidForAces s → (n : ℕ) → code_check s n ≡ Ok tt → nat_abs (number s n) ≤ 2 ^ 40

-- records that are kept, in which some take the place of others
record Change (room : ℕ) (rs rs' old new : List (List ℕ)) : Type 0 where
  before : List (List ℕ)
  after : List (List ℕ)
  was : rs ≡ before ++ (old ++ after)
  is : rs' ≡ before ++ (new ++ after)
  kept : Kept room rs
  kept' : Kept room rs'

module _ (number : Setting → ℕ → ℤ) (small : Small number) where
  channel_small : (i : ℕ) → i < 3 → (rs : List (List ℕ)) → Kept reel_most rs → nat_abs (channel_sum number i rs) < 2 ^ 63
  channel_small i h rs k =
      let all = each_more Passes (λ r. nat_abs (scene_at number r i) ≤ 2 ^ 40) one rs k.pass in
      omega (arith, k.fits, sum_small (λ r. scene_at number r i) (2 ^ 40) rs all)
    where
      one : (r : List ℕ) → Passes r → nat_abs (scene_at number r i) ≤ 2 ^ 40
      one r e = let q = passing r e in small (setting_of r) q.setting (channel_at code_bytes r i) (q.code i h)

  module _ {rs rs' old new : List (List ℕ)} (c : Change reel_most rs rs' old new) where
    -- one channel
    channel_after : (i : ℕ) → i < 3 → (u : ℕ) (x y : ℤ) → u ≡ to_bits sum_bytes (channel_sum number i rs)
        → x ≡ channel_sum number i old → y ≡ channel_sum number i new → sum_after u x y ≡ to_bits sum_bytes (channel_sum number i rs')
    channel_after i h u x y eu ex ey =
        rw (eu, ex, ey)
        (sum_after_lem (channel_sum number i rs) (channel_sum number i old) (channel_sum number i new)
        (channel_small i h rs c.kept)
        (channel_small i h old (kept_middle reel_most c.before old c.after rs c.kept c.was))
        (channel_small i h new (kept_middle reel_most c.before new c.after rs' c.kept' c.is))
        (rw change at (channel_small i h rs' c.kept'))
        ∙ ap (to_bits sum_bytes) (sym change))
      where
        change : channel_sum number i rs' ≡ channel_sum number i rs +ℤ (channel_sum number i new -ℤ channel_sum number i old)
        change = rw (c.was, c.is) (sum_changed (λ r. scene_at number r i) c.before old new c.after)

    -- and the three of them
    sums_after : {t : Totals} → Sums number rs t → (n : ℕ) {x y : Scenes} → Adds number old x → Adds number new y
        → Sums number rs' (totals_with n t x y)
    sums_after {t} s n {x} {y} p q =
        record {
          red = channel_after 0 (lit< tt) t.red x.red.0 y.red.0 s.red p.red q.red;
          green = channel_after 1 (lit< tt) t.green x.green.0 y.green.0 s.green p.green q.green;
          blue = channel_after 2 (lit< tt) t.blue x.blue.0 y.blue.0 s.blue p.blue q.blue;
        }

  -- ---- ONE CALL on a sound reel
  module _ (room : ℕ) (rs : List (List ℕ)) (reel : Reel) (s : Sound number room rs reel) where
    abbrev strip : List ℕ
    strip = reel.strip

    abbrev count : ℕ
    count = reel.totals.count

    in_strip : Room strip room
    in_strip = rw s.room_is at (room_in_lem strip)

    counted : count ≡ length rs
    counted = sound_count number s

    count_fits : count * pixel_size ≤ length strip
    count_fits = omega (arith, counted, s.kept.fits, in_strip.fits)

    -- a record held, and the others
    held_parts : (i : ℕ) → i < length rs → rs ≡ take i rs ++ (record_at pixel_size i strip ∷ drop (suc i) rs)
    held_parts i h = rw s.holds at (record_parts pixel_size count i strip (omega (arith, counted)))

    held_passes : (i : ℕ) → i < length rs → Passes (record_at pixel_size i strip)
    held_passes i h =
        (each_parts Passes (take i rs) (record_at pixel_size i strip ∷ drop (suc i) rs) (rw (held_parts i h) at s.kept.pass)).1.0

    -- the room is the same after a record is written in its stretch
    same_room : (i : ℕ) (r : List ℕ) → i < room → length r ≡ pixel_size → room_in (with_record strip i r) ≡ room
    same_room i r h er = rw (length_with pixel_size room i strip r h in_strip.fits er) s.room_is

    -- the reel after a call that is accepted
    abbrev accepted : Call → Reel
    accepted c = reel_of (strip_after_call reel c) (totals_after_call number reel c)

    module _ (c : Call) (e : call_check room (length rs) c ≡ Ok tt) where
      kept_after : Kept room (changed rs c)
      kept_after = kept_changed room rs s.kept c e

      -- records in the place of others, by the call
      change : (before old new after : List (List ℕ)) → rs ≡ before ++ (old ++ after) → changed rs c ≡ before ++ (new ++ after)
          → Change reel_most rs (changed rs c) old new
      change before old new after was is =
          record { before = before; after = after; was = was; is = is; kept = most rs s.kept; kept' = most (changed rs c) kept_after }
        where
          most : (xs : List (List ℕ)) → Kept room xs → Kept reel_most xs
          most xs k = record { fits = omega (arith, k.fits, in_strip.most); pass = k.pass }

    sound_append : (r : List ℕ) → length r ≡ pixel_size → call_check room (length rs) (append r) ≡ Ok tt
        → Sound number room (changed rs (append r)) (accepted (append r))
    sound_append r er e =
        let a = accepted_append room (length rs) r e in
        let more = record_added pixel_size count strip r (omega (arith, counted, a.0, in_strip.fits)) er in
        let c = change (append r) e rs [] (r ∷ []) [] (sym (append-nil rs)) refl in
        record {
          holds = more ∙ ap {B = List (List ℕ)} (λ l. l ++ (r ∷ [])) s.holds;
          room_is = same_room count r (omega (arith, counted, a.0)) er;
          kept = kept_after (append r) e;
          sums = sums_after c s.sums (suc count) (adds_none number) (adds_one number r a.1);
        }

    sound_replace : (i : ℕ) (r : List ℕ) → length r ≡ pixel_size → call_check room (length rs) (replace i r) ≡ Ok tt
        → Sound number room (changed rs (replace i r)) (accepted (replace i r))
    sound_replace i r er e =
        let a = accepted_replace room (length rs) i r e in
        let old = record_at pixel_size i strip in
        let other = record_written pixel_size count i strip r (omega (arith, counted, a.0)) count_fits er in
        let c = change (replace i r) e (take i rs) (old ∷ []) (r ∷ []) (drop (suc i) rs) (held_parts i a.0) refl in
        record {
          holds = other ∙ ap {B = List (List ℕ)} (λ l. take i l ++ (r ∷ drop (suc i) l)) s.holds;
          room_is = same_room i r (omega (arith, a.0, s.kept.fits)) er;
          kept = kept_after (replace i r) e;
          sums = sums_after c s.sums count (adds_one number old (held_passes i a.0)) (adds_one number r a.1);
        }

    sound_drop : call_check room (length rs) drop_last ≡ Ok tt → Sound number room (changed rs drop_last) (accepted drop_last)
    sound_drop e =
        let last = length rs - 1 in
        let old = record_at pixel_size last strip in
        let below = accepted_drop room (length rs) e in
        let fewer = sym (take_records pixel_size (count - 1) count strip (omega arith)) in
        let parts = rw (drop_of_length-le rs {i = suc last} (omega arith)) at (held_parts last below) in
        let c = change drop_last e (take last rs) (old ∷ []) [] [] parts (sym (append-nil (take last rs))) in
        record {
          holds = fewer ∙ ap₂ {C = List (List ℕ)} (λ (n : ℕ) (l : List (List ℕ)). take (n - 1) l) counted s.holds;
          room_is = s.room_is;
          kept = kept_after drop_last e;
          sums = rw counted (sums_after c s.sums last (adds_one number old (held_passes last below)) (adds_none number));
        }

    sound_accepted : (c : Call) → WholeRecord c → call_check room (length rs) c ≡ Ok tt → Sound number room (changed rs c) (accepted c)
    sound_accepted (append r) w e = sound_append r w e
    sound_accepted (replace i r) w e = sound_replace i r w e
    sound_accepted drop_last w e = sound_drop e

    pub sound_call : (c : Call) → WholeRecord c → Sound number room (after_call room rs c) (reel_after number reel c)
    unfolding reel_after
    sound_call c w = rw (sound_check number s c) (go (call_check room (length rs) c) refl)
      where
        go : (x : Check) → call_check room (length rs) c ≡ x → Sound number room (if_passed x (changed rs c) rs) (if_passed x (accepted c) reel)
        go (Ok tt) e = sound_accepted c w e
        go (Err why) e = s

  -- ---- ANY LIST OF CALLS
  pub sound_all : (room : ℕ) (rs : List (List ℕ)) (reel : Reel) → Sound number room rs reel → (calls : List Call) → Each WholeRecord calls
      → Sound number room (fold (after_call room) rs calls) (reel_after_all number reel calls)
  unfolding fold
  sound_all room rs reel s [] w = s
  sound_all room rs reel s (c ∷ cs) w =
      sound_all room (after_call room rs c) (reel_after number reel c) (sound_call room rs reel s c w.0) cs w.1

  -- from an empty reel that is lent any strip
  pub sound_calls : (strip : List ℕ) (calls : List Call) → Each WholeRecord calls
      → Sound number (room_in strip) (records_after (room_in strip) calls) (reel_after_all number (empty_reel strip) calls)
  sound_calls strip calls w = sound_all (room_in strip) [] (empty_reel strip) (sound_empty number strip) calls w

  -- THE SUMS of a sound reel are those of the records that it holds
  pub true_sums : {room : ℕ} {rs : List (List ℕ)} {reel : Reel} → Sound number room rs reel → TrueSums number rs reel.totals
  true_sums {room} {rs} {reel} s =
      record {
        count = sound_count number s;
        red = one 0 (lit< tt) s.sums.red;
        green = one 1 (lit< tt) s.sums.green;
        blue = one 2 (lit< tt) s.sums.blue;
      }
    where
      most : room ≤ reel_most
      most = rw s.room_is at (room_in_lem reel.strip).most

      one : (i : ℕ) → i < 3 → {u : ℕ} → u ≡ to_bits sum_bytes (channel_sum number i rs) → of_bits sum_bytes u ≡ channel_sum number i rs
      one i h e =
          let z = channel_sum number i rs in
          let b = channel_small i h rs (record { fits = omega (arith, most, s.kept.fits); pass = s.kept.pass }) in
          ap (of_bits sum_bytes) e ∙ of_to sum_bytes z (omega (arith, abs_is z)) (omega (arith, abs_is z))
