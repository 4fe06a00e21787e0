-- The cells in a session's words. Assumes nothing.
use Rattle.std.specs.Prelude.{ℕ, ◌+◌, ◌<◌, ◌≡◌, List, length, get_or}

-- the first j cells are those of the words
pub record Loaded (words : List ℕ) (j : ℕ) (cells : List ℕ) : Type 0 where
  pub long : length cells ≡ 1152
  pub same : (i : ℕ) → i < j → get_or cells i 0 ≡ get_or words (2 + i) 0
