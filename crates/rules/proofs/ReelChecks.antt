-- 02, item 9, THE CHECKS OF A CALL: their order, and what is so where they pass.
-- Assumes nothing.
use Rattle.std.specs.Prelude.{Err, Ok}
use mathlib.Core.List.{List}
use mathlib.Core.Path.{◌≡◌, refl}
use Prim.Native.Nat.{ℕ, zero, suc, ◌-◌, ◌≤◌, ◌<◌}
use native.Mathlib.Omega.{arith}
use borrow.Author.Tests.{lt-ltb, le-ltb}
use lib.Dec.{ltb, ltb→lt}
use Rattle.rules.specs.declared.Refusal.TheVariants.{ReelFull, NotHeld}
use Rattle.rules.specs.Conversions.{channel_checks}
use Rattle.rules.specs.Pixels.{pixel}
use Rattle.rules.specs.Record.{value, digits, bytes_of, record_of, setting_of, channel_at, code_bytes, pixel_record}
use Rattle.rules.specs.Reel.{append, replace, drop_last, reel_most, meter_check, held, call_check}
use Rattle.rules.specs.Refusal.{refuse_unless, number_of_check}
use Rattle.rules.specs.Setting.{setting_check, aces_check, codes_of, code_check, ValidForAces}
use Rattle.rules.proofs.Settings.{both, passed_only, first}
use Rattle.rules.proofs.Channels.{AllPass, all_pass}

-- ---- EACH IN ITS PLACE

-- a record of one code, and the number that its append to an empty reel gives
abbrev pixel_of : (curve width ei code : ℕ) → List ℕ
pixel_of curve width ei code = pixel_record (record { curve = curve; width = width; ei = ei }) (pixel code 0 0)

abbrev appended : List ℕ → ℕ
appended r = number_of_check (call_check reel_most 0 (append r))

pub record InPlace : Type 0 where
  -- by the numbers, 15 and 16 before the record, whatever it is: 4,096 records are held and no more, and 7 are held at 0 to 6
  pub full : (r : List ℕ) → number_of_check (call_check reel_most 4096 (append r)) ≡ 15
  pub not_full : (r : List ℕ) → call_check reel_most 4095 (append r) ≡ meter_check r
  pub not_held : (r : List ℕ) → number_of_check (call_check reel_most 7 (replace 7 r)) ≡ 16
  pub last_held : (r : List ℕ) → call_check reel_most 7 (replace 6 r) ≡ meter_check r
  pub none_to_drop : number_of_check (call_check reel_most 0 drop_last) ≡ 16
  pub one_to_drop : number_of_check (call_check reel_most 1 drop_last) ≡ 0
  -- of the record 3, 4 and 5, then 12, then 13, 11 and 6 of its codes
  pub three : appended (pixel_of 5 12 800 0) ≡ 3
  pub four_before_twelve : appended (pixel_of 2 16 800 0) ≡ 4
  pub five_before_twelve : appended (pixel_of 2 12 0 0) ≡ 5
  pub twelve_before_codes : appended (pixel_of 2 12 800 4096) ≡ 12
  pub six : appended (pixel_of 3 12 800 4096) ≡ 6
  pub thirteen : appended (pixel_of 4 16 0 8) ≡ 13
  pub eleven : appended (pixel_of 4 140 0 255) ≡ 11
  pub passes : appended (pixel_of 3 12 800 4095) ≡ 0
  -- the same for any room and count
  pub full_first : (room count : ℕ) (r : List ℕ) → room ≤ count → call_check room count (append r) ≡ Err ReelFull
  pub append_then : (room count : ℕ) (r : List ℕ) → count < room → call_check room count (append r) ≡ meter_check r
  pub not_held_first : (room count i : ℕ) (r : List ℕ) → count ≤ i → call_check room count (replace i r) ≡ Err NotHeld
  pub at_the_count : (room count : ℕ) (r : List ℕ) → call_check room count (replace count r) ≡ Err NotHeld
  pub replace_then : (room count i : ℕ) (r : List ℕ) → i < count → i < room → call_check room count (replace i r) ≡ meter_check r
  pub drop_of_none : (room : ℕ) → call_check room 0 drop_last ≡ Err NotHeld
  pub drop_passes : (room count : ℕ) → 0 < count → count ≤ room → call_check room count drop_last ≡ Ok tt

pub in_place : InPlace
unfolding call_check meter_check setting_check aces_check codes_of channel_checks record_of bytes_of digits value
in_place =
    record {
      full = λ r. refl;
      not_full = λ r. refl;
      not_held = λ r. refl;
      last_held = λ r. refl;
      none_to_drop = refl;
      one_to_drop = refl;
      three = refl;
      four_before_twelve = refl;
      five_before_twelve = refl;
      twelve_before_codes = refl;
      six = refl;
      thirteen = refl;
      eleven = refl;
      passes = refl;
      full_first = λ room count r h. rw (le-ltb count room h);
      append_then = λ room count r h. rw (lt-ltb count room h);
      not_held_first = λ room count i r h. rw (le-ltb i count h);
      at_the_count = λ room count r. rw (le-ltb count count (omega arith));
      replace_then = λ room count i r h k. rw (lt-ltb i count h, lt-ltb i room k);
      drop_of_none = λ room. refl;
      drop_passes = λ room count h k. rw (lt-ltb (count - 1) count (omega arith), lt-ltb (count - 1) room (omega arith));
    }

-- ---- where a record's checks pass, its setting is valid for ACES and so is each of its codes
pub record Passing (r : List ℕ) : Type 0 where
  pub setting : ValidForAces (setting_of r)
  pub code : (channel : ℕ) → channel < 3 → code_check (setting_of r) (channel_at code_bytes r channel) ≡ Ok tt

pub passing : (r : List ℕ) → meter_check r ≡ Ok tt → Passing r
unfolding meter_check
passing r e = record { setting = b.0; code = code }
  where
    b : (aces_check (setting_of r) ≡ Ok tt) × (channel_checks code_bytes (code_check (setting_of r)) r ≡ Ok tt)
    b = both (aces_check (setting_of r)) (channel_checks code_bytes (code_check (setting_of r)) r) e

    c : AllPass code_bytes (code_check (setting_of r)) r
    c = all_pass code_bytes (code_check (setting_of r)) r b.1

    code : (i : ℕ) → i < 3 → code_check (setting_of r) (channel_at code_bytes r i) ≡ Ok tt
    code zero h = c.red
    code (suc zero) h = c.green
    code (suc (suc zero)) h = c.blue
    code (suc (suc (suc i))) h = absurd (omega arith)

-- ---- where a call's checks pass
pub accepted_append : (room count : ℕ) (r : List ℕ) → call_check room count (append r) ≡ Ok tt → (count < room) × (meter_check r ≡ Ok tt)
unfolding call_check
accepted_append room count r e =
    let b = both (refuse_unless (ltb count room) ReelFull) (meter_check r) e in
    (ltb→lt count room (passed_only (ltb count room) ReelFull b.0), b.1)

held_below : (room count i : ℕ) → refuse_unless (held room count i) NotHeld ≡ Ok tt → i < count
held_below room count i e = ltb→lt i count (first (ltb i count) (ltb i room) (passed_only (held room count i) NotHeld e))

pub accepted_replace : (room count i : ℕ) (r : List ℕ) → call_check room count (replace i r) ≡ Ok tt → (i < count) × (meter_check r ≡ Ok tt)
unfolding call_check
accepted_replace room count i r e =
    let b = both (refuse_unless (held room count i) NotHeld) (meter_check r) e in
    (held_below room count i b.0, b.1)

pub accepted_drop : (room count : ℕ) → call_check room count drop_last ≡ Ok tt → count - 1 < count
unfolding call_check
accepted_drop room count e = held_below room count (count - 1) e
