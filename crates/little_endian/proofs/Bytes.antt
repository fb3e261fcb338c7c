-- The library's words for reading and writing a number's bytes, and the rules' words: the same.
-- Assumes nothing.
use mathlib.Core.Bool.{Bool, true, false}
use mathlib.Core.Path.{◌≡◌, refl, sym, ap, ap₂, ◌∙◌}
use mathlib.Core.List.{List, ◌∷◌}
use Prim.Native.Nat.{ℕ, zero, suc, ◌+◌, ◌*◌, ◌/◌, ◌%◌, ◌^◌, ◌≤◌}
use native.Mathlib.Nat.{div-one, div-div-eq-div-mul, pow-suc}
use native.Mathlib.Omega.{arith}
use borrow.Author.Tests.{ltb-true, ltb-false, le-ltb, lt-ltb}
use lib.Dec.{ltb}
use lib.IntN.{ℤ, pos, negsuc}
use lib.ListN.{length, get_or, take, drop}
use lib.Seq.{drop-cons}
use mir.Syntax.{w64}
use mir.Val.{to_z, of_z}
use Rattle.std.specs.Int.{byte_at, bytes_low_first}
use Rattle.rules.specs.Record.{value, digits, to_bits, of_bits, number_bytes}

-- the number of n bytes from a place on, byte by byte
abbrev pub value_at : (n at : ℕ) → List ℕ → ℕ
value_at zero at r = 0
value_at (suc n) at r = get_or r at 0 + 256 * value_at n (suc at) r

pub value_at_lem : (n at : ℕ) (r : List ℕ) → at + n ≤ length r → value (take n (drop at r)) ≡ value_at n at r
unfolding value
value_at_lem zero at r h = refl
value_at_lem (suc n) at r h =
    rw (drop-cons r at 0 (omega arith)) (ap (λ (x : ℕ). get_or r at 0 + 256 * x) (value_at_lem n (suc at) r (omega arith)))

-- the bytes of a number, the lowest first
byte_is : (i x : ℕ) → byte_at i x ≡ x / 256 ^ i % 256
byte_is zero x = ap (λ (n : ℕ). n % 256) (sym (div-one x))
byte_is (suc i) x = refl

bytes_from : (i n x : ℕ) → bytes_low_first i n x ≡ digits n (x / 256 ^ i)
unfolding digits
bytes_from i zero x = refl
bytes_from i (suc n) x =
    ap₂ (λ (b : ℕ) (bs : List ℕ). b ∷ bs) (byte_is i x)
    (bytes_from (suc i) n x
    ∙ ap (digits n) (ap (λ (p : ℕ). x / p) (pow-suc 256 i) ∙ sym (div-div-eq-div-mul x (256 ^ i) 256)))

pub low_bytes : (n x : ℕ) → bytes_low_first 0 n x ≡ digits n x
low_bytes n x = bytes_from 0 n x ∙ ap (digits n) (div-one x)

-- ---- signed numbers and their bits
pub bits_are : (z : ℤ) → of_z w64 z ≡ to_bits number_bytes z
bits_are (pos a) = refl
bits_are (negsuc a) = refl

pub signed_is : (u : ℕ) → to_z w64 u ≡ of_bits number_bytes u
signed_is u = go (ltb u 9223372036854775808) refl
  where
    go : (t : Bool) → ltb u 9223372036854775808 ≡ t → to_z w64 u ≡ of_bits number_bytes u
    go true e = rw (e, lt-ltb (2 * u) 18446744073709551616 (omega (arith, ltb-true u 9223372036854775808 e))) refl
    go false e = rw (e, le-ltb (2 * u) 18446744073709551616 (omega (arith, ltb-false u 9223372036854775808 e))) refl
