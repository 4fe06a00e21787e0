-- What the pass over the changes of one signal keeps. Assumes nothing: these are definitions.
use Prim.Native.Nat.{ℕ, ◌+◌, ◌/◌, ◌≤◌, ◌<◌}
use mathlib.Core.Path.{◌≡◌}
use mathlib.Core.Logic.{◌⊎◌}
use mathlib.Core.List.{List}
use lib.ListN.{get_or}

abbrev pub time_at : List ℕ → ℕ → ℕ → ℕ
time_at words from j = get_or words (from + j) 0 / 2

-- the last time is that of a change, or the time itself where there is none
pub record Last (words : List ℕ) (from j last : ℕ) : Type 0 where
  pub place : ℕ
  pub before : place < j
  pub is : last ≡ time_at words from place

-- the first j changes rise from the time to the last
pub record Climbs (words : List ℕ) (from j time last : ℕ) : Type 0 where
  pub low : time ≤ last
  pub later : (i : ℕ) → i < j → time < time_at words from i
  pub most : (i : ℕ) → i < j → time_at words from i ≤ last
  pub rising : (i k : ℕ) → i < k → k < j → time_at words from i < time_at words from k
  pub end : (last ≡ time) ⊎ Last words from j last
