-- Parts of a session's words. Assumes nothing: these are definitions.
use Rattle.std.specs.Prelude.{ℕ, ◌+◌, ◌*◌, ◌/◌, ◌≤◌, ◌<◌, ◌≡◌, List, Option, Some, None, length, get_or}
use Rattle.words.specs.Unit.{longest}
use Rattle.rules.specs.Sizes.{most_pending}
use Rattle.fitness.specs.Inside.Parts.{Within}

-- how many signals there are, the time and the values
pub record Head (words : List ℕ) (signals : ℕ) : Type 0 where
  pub long : 1154 ≤ length words
  pub count : get_or words 0 0 ≡ signals
  pub early : get_or words 1 0 ≤ longest
  pub values : Within words 2 (2 + signals) 1
  pub no_values : Within words (2 + signals) 66 0

-- the changes of one signal, from a place on, at this time: later, near, rising, and behind them zeros
pub record Changes (words : List ℕ) (from count time : ℕ) : Type 0 where
  pub later : (j : ℕ) → j < count → time < get_or words (from + j) 0 / 2
  pub near : (j : ℕ) → j < count → get_or words (from + j) 0 / 2 ≤ time + longest
  pub rising : (i j : ℕ) → i < j → j < count → get_or words (from + i) 0 / 2 < get_or words (from + j) 0 / 2
  pub unused : Within words (from + count) (from + 16) 0

-- how many may be pending for a signal with this driver
abbrev pub most_for : Option ℕ → ℕ
most_for (Some process) = most_pending
most_for None = 0

-- what is pending for signal k is fit
pub record Signal (words : List ℕ) (driver : Option ℕ) (k : ℕ) : Type 0 where
  pub few : get_or words (66 + k) 0 ≤ most_for driver
  pub changes : Changes words (130 + 16 * k) (get_or words (66 + k) 0) (get_or words 1 0)

-- for the first n signals
abbrev pub Signals : List ℕ → List (Option ℕ) → ℕ → Type 0
Signals words own n = (k : ℕ) → k < n → Signal words (get_or own k None) k
