-- 01, "Refused, by the place of the check" and "Which form to use where": what a call gives, whatever it answers. "Where an answer is an
-- enum, a definition gives this paper's number and values for each case of the enum": `answered`, `numbered` and `strip_result` do.
-- Assumes nothing.
use Rattle.std.specs.Prelude.{List, [], ◌∷◌, ℕ, Err, Ok}
use Rattle.rules.specs.Refusal.{Answer, Check, OrNumber, OrRefusal, number_of}

-- the number, 0 for success; the index; the values
pub record Result (A : Type 0) : Type 0 where
  pub number : ℕ
  pub index : ℕ
  pub values : List A

abbrev pub done : {A : Type 0} → List A → Result A
done values = record { number = 0; index = 0; values = values }

-- "A refusal carries its number and the record's index"
abbrev pub refused_by : {A : Type 0} → (number index : ℕ) → Result A
refused_by number index = record { number = number; index = index; values = [] }

-- a call on a single pixel or record: values where its checks pass, else the refusal, whose index is 0
abbrev pub single : {A : Type 0} → Check → List A → Result A
single (Ok tt) values = done values
single (Err why) values = refused_by (number_of why) 0

-- the answer of such a call: the values of what it gives, or the refusal
abbrev pub answered : {A B : Type 0} → (A → List B) → OrRefusal A → Result B
answered values (Ok x) = done (values x)
answered values (Err why) = refused_by (number_of why) 0

-- the same where the answer has the refusal's number
abbrev pub numbered : {A B : Type 0} → (A → List B) → OrNumber A → Result B
numbered values (Ok x) = done (values x)
numbered values (Err number) = refused_by number 0

-- a conversion of strips: "Success carries the count of records"
abbrev pub strip_result : Answer → Result ℕ
strip_result (Ok n) = done (n ∷ [])
strip_result (Err e) = refused_by (number_of e.cause) e.index

-- every value is as P says
abbrev pub Each : {A : Type 0} → (A → Type 0) → List A → Type 0
Each P [] = Unit {0}
Each P (x ∷ xs) = P x × Each P xs
