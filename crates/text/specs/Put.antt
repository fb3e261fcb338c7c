-- Text put into a buffer: the room for it, and what a function that puts it has done.
-- Assumes nothing.
use Rattle.std.specs.Prelude.{List, ◌++◌, ◌≡◌, ℕ, ◌+◌, ◌≤◌, length, take, drop}

-- there is room for the text from `at` on
pub record Room (text buffer : List ℕ) (at : ℕ) : Type 0 where
  pub within : at + length text ≤ length buffer

-- the text stands in the buffer from `at` up to `end`, and every other byte is as it was
pub record Put (text buffer : List ℕ) (at : ℕ) (after : List ℕ) (end : ℕ) : Type 0 where
  pub ends : end ≡ at + length text
  pub is : after ≡ take at buffer ++ (text ++ drop end buffer)
