-- Records: what is read of what was written, and what is written of what was read. The sizes of the fields are parameters.
-- Assumes nothing.
use mathlib.Core.Path.{◌≡◌, refl, sym, ap, ap₂, ◌∙◌, subst}
use mathlib.Core.Bool.{Bool, true, false}
use mathlib.Core.List.{List, [], ◌∷◌, ◌++◌, append-nil, append_assoc}
use Prim.Native.Nat.{ℕ, zero, suc, ◌+◌, ◌-◌, ◌*◌, ◌/◌, ◌%◌, ◌^◌, ◌≤◌, ◌<◌}
use native.Mathlib.Nat.{pow-zero, pow-suc, div-lt_iff_lt-mul}
use native.Mathlib.Omega.{arith}
use borrow.Author.Tests.{lt-ltb, le-ltb}
use lib.Dec.{ltb, lit<}
use lib.IntN.{ℤ, pos, negsuc}
use lib.ListN.{length, get_or, take, drop, length-append, length-drop, take-append-drop}
use lib.Seq.{take_at, drop_at, drop-drop, get_or-drop, length-take-le}
use Rattle.whole.specs.Parts.{up, dn}
use Rattle.rules.specs.declared.Setting.{Setting}
use Rattle.rules.specs.Choice.{choose}
use Rattle.rules.specs.Record.{IsBytes, value, digits, to_bits, of_bits, fields, bytes_of, layout, size_of, setting_of, Channels, channels_of, record_of}

-- ---- numbers in bytes
pub length_digits : (n x : ℕ) → length (digits n x) ≡ n
unfolding digits
length_digits zero x = refl
length_digits (suc n) x = ap suc (length_digits n (x / 256))

pub value_digits : (n x : ℕ) → x < 256 ^ n → value (digits n x) ≡ x
unfolding digits value
value_digits zero x h = omega (arith, pow-zero 256)
value_digits (suc n) x h =
    rw (value_digits n (x / 256) ((div-lt_iff_lt-mul (lit< tt)).1 (rw pow-suc at h))) (omega arith)

pub digits_bytes : (n x : ℕ) → IsBytes (digits n x)
unfolding digits
digits_bytes zero x i = omega arith
digits_bytes (suc n) x zero = omega arith
digits_bytes (suc n) x (suc i) = digits_bytes n (x / 256) i

pub digits_value : (bs : List ℕ) → IsBytes bs → digits (length bs) (value bs) ≡ bs
unfolding digits value
digits_value [] h = refl
digits_value (x ∷ xs) h =
    ap₂ {B = List ℕ} (λ (a : ℕ) (l : List ℕ). a ∷ l) low (ap (digits (length xs)) rest ∙ digits_value xs (λ i. h (suc i)))
  where
    small : x < 256
    small = h 0

    low : (x + 256 * value xs) % 256 ≡ x
    low = omega (arith, small)

    rest : (x + 256 * value xs) / 256 ≡ value xs
    rest = omega (arith, small)

-- ---- fields
-- each value fits its field
abbrev pub FitsFields : (sizes values : List ℕ) → Type 0
FitsFields [] [] = Unit {0}
FitsFields [] (v ∷ vs) = ⊥
FitsFields (n ∷ ns) [] = ⊥
FitsFields (n ∷ ns) (v ∷ vs) = (v < 256 ^ n) × FitsFields ns vs

abbrev pub total : List ℕ → ℕ
total [] = 0
total (n ∷ ns) = n + total ns

pub length-bytes_of : (sizes values : List ℕ) → length values ≡ length sizes → length (bytes_of sizes values) ≡ total sizes
unfolding bytes_of
length-bytes_of [] vs e = refl
length-bytes_of (n ∷ ns) [] e = absurd (omega arith)
length-bytes_of (n ∷ ns) (v ∷ vs) e = rw (length-append, length_digits, length-bytes_of ns vs (omega arith))

pub fields-bytes_of : (sizes values rest : List ℕ) → FitsFields sizes values → fields sizes (bytes_of sizes values ++ rest) ≡ values
unfolding fields bytes_of
fields-bytes_of [] [] rest f = refl
fields-bytes_of [] (v ∷ vs) rest f = absurd f
fields-bytes_of (n ∷ ns) [] rest f = absurd f
fields-bytes_of (n ∷ ns) (v ∷ vs) rest f =
    rw (append_assoc, take_at (digits n v) (bytes_of ns vs ++ rest) n (length_digits n v), drop_at (digits n v) (bytes_of ns vs ++ rest) n (length_digits n v), value_digits n v f.0, fields-bytes_of ns vs rest f.1)

pub take_bytes : (n : ℕ) (s : List ℕ) → IsBytes s → IsBytes (take n s)
take_bytes zero s h i = omega arith
take_bytes (suc n) [] h i = omega arith
take_bytes (suc n) (x ∷ xs) h zero = h 0
take_bytes (suc n) (x ∷ xs) h (suc i) = take_bytes n xs (λ j. h (suc j)) i

pub drop_bytes : (n : ℕ) (s : List ℕ) → IsBytes s → IsBytes (drop n s)
drop_bytes n s h i = rw get_or-drop (h (n + i))

-- the first n bytes write a number of n bytes
pub value_small : (n : ℕ) (s : List ℕ) → IsBytes s → value (take n s) < 256 ^ n
unfolding value
value_small zero s h = rw pow-zero (lit< tt)
value_small (suc n) [] h = rw pow-suc (positive (256 ^ n) (value_small n [] h))
  where
    positive : (p : ℕ) {x : ℕ} → x < p → 0 < p * 256
    positive p g = omega arith
value_small (suc n) (x ∷ xs) h = rw pow-suc (more (256 ^ n) (h 0) (value_small n xs (λ i. h (suc i))))
  where
    more : (p : ℕ) {x y : ℕ} → x < 256 → y < p → x + 256 * y < p * 256
    more p g f = omega arith

pub bytes_of-fields : (sizes r : List ℕ) → IsBytes r → length r ≡ total sizes → bytes_of sizes (fields sizes r) ≡ r
unfolding fields bytes_of
bytes_of-fields [] [] h e = refl
bytes_of-fields [] (x ∷ r) h e = absurd (omega arith)
bytes_of-fields (n ∷ ns) r h e =
    let l : length (take n r) ≡ n = length-take-le n r (omega arith) in
    let d : digits n (value (take n r)) ≡ take n r = subst (λ (m : ℕ). digits m (value (take n r)) ≡ take n r) l (digits_value (take n r) (take_bytes n r h)) in
    rw (d, bytes_of-fields ns (drop n r) (drop_bytes n r h) (rw length-drop (omega arith))) (take-append-drop n r)

-- ---- a record's fields
one_byte : (r : List ℕ) → value (take 1 r) ≡ get_or r 0 0
unfolding value
one_byte [] = refl
one_byte (x ∷ r) = omega arith

-- a setting and channels as fields
abbrev pub row : Setting → Channels → List ℕ
row s c = s.curve ∷ s.width ∷ s.ei ∷ c.red ∷ c.green ∷ c.blue ∷ []

abbrev setting_in : List ℕ → Setting
setting_in l = record { curve = get_or l 0 0; width = get_or l 1 0; ei = get_or l 2 0 }

abbrev channels_in : List ℕ → Channels
channels_in l = record { red = get_or l 3 0; green = get_or l 4 0; blue = get_or l 5 0 }

pub fields_are : (n : ℕ) (r : List ℕ) → fields (layout n) r ≡ row (setting_of r) (channels_of n r)
unfolding fields
fields_are n r =
    rw (one_byte r, one_byte (drop 1 r), get_or-drop 1 r 0 0, drop-drop 1 1 r, drop-drop 2 2 r, drop-drop n 4 r, drop-drop n (4 + n) r, first, second, third)
  where
    first : 4 + 0 * n ≡ 4
    first = omega arith

    second : 4 + 1 * n ≡ 4 + n
    second = omega arith

    third : 4 + 2 * n ≡ 4 + n + n
    third = omega arith

-- what fits a record
pub record FitsRecord (n : ℕ) (s : Setting) (c : Channels) : Type 0 where
  pub curve : s.curve < 256
  pub width : s.width < 256
  pub ei : s.ei < 65536
  pub red : c.red < 256 ^ n
  pub green : c.green < 256 ^ n
  pub blue : c.blue < 256 ^ n

pub length_record : (n : ℕ) (s : Setting) (c : Channels) → length (record_of n s c) ≡ size_of n
unfolding record_of
length_record n s c = length-bytes_of (layout n) (row s c) refl ∙ omega arith

-- a record, written stretch by stretch
pub record_parts : (n : ℕ) (s : Setting) (c : Channels) → ((bytes_of (1 ∷ 1 ∷ 2 ∷ []) (s.curve ∷ s.width ∷ s.ei ∷ []) ++ digits n c.red) ++ digits n c.green) ++ digits n c.blue ≡ record_of n s c
unfolding record_of bytes_of
record_parts n s c = simp (append_assoc, append-nil)

pub length_setting : (s : Setting) → length (bytes_of (1 ∷ 1 ∷ 2 ∷ []) (s.curve ∷ s.width ∷ s.ei ∷ [])) ≡ 4
length_setting s = length-bytes_of (1 ∷ 1 ∷ 2 ∷ []) (s.curve ∷ s.width ∷ s.ei ∷ []) refl

-- READING WHAT WAS WRITTEN returns it
module _ (n : ℕ) (s : Setting) (c : Channels) (f : FitsRecord n s c) where
  read_row : row (setting_of (record_of n s c)) (channels_of n (record_of n s c)) ≡ row s c
  unfolding record_of
  read_row =
      sym (fields_are n (bytes_of (layout n) (row s c)))
      ∙ ap (fields (layout n)) (sym (append-nil (bytes_of (layout n) (row s c))))
      ∙ fields-bytes_of (layout n) (row s c) [] (f.curve, (f.width, (f.ei, (f.red, (f.green, (f.blue, tt))))))

  pub read_setting : setting_of (record_of n s c) ≡ s
  read_setting = ap setting_in read_row

  pub read_channels : channels_of n (record_of n s c) ≡ c
  read_channels = ap channels_in read_row

-- WRITING WHAT WAS READ returns the bytes
pub write_read : (n : ℕ) (r : List ℕ) → IsBytes r → length r ≡ size_of n → record_of n (setting_of r) (channels_of n r) ≡ r
unfolding record_of
write_read n r h e =
    ap (bytes_of (layout n)) (sym (fields_are n r)) ∙ bytes_of-fields (layout n) r h (e ∙ omega arith)

-- ---- two's complement
pub of_to : (n : ℕ) (z : ℤ) → 2 * up z < 256 ^ n → 2 * dn z ≤ 256 ^ n → of_bits n (to_bits n z) ≡ z
of_to n (pos k) h g = rw (lt-ltb (2 * k) (256 ^ n) h)
of_to n (negsuc k) h g =
    rw (le-ltb (2 * (256 ^ n - suc k)) (256 ^ n) (omega arith)) (ap negsuc (omega arith))

pub to_of : (n u : ℕ) → u < 256 ^ n → to_bits n (of_bits n u) ≡ u
to_of n u h = go (ltb (2 * u) (256 ^ n))
  where
    go : (x : Bool) → to_bits n (choose x (pos u) (negsuc (256 ^ n - suc u))) ≡ u
    go true = refl
    go false = omega arith

pub bits_fit : (n : ℕ) (z : ℤ) → 2 * up z < 256 ^ n → 2 * dn z ≤ 256 ^ n → to_bits n z < 256 ^ n
bits_fit n (pos k) h g = omega arith
bits_fit n (negsuc k) h g = omega arith
