-- The word of a pending change, read back and bounded; and what holds of each change of a list, by its place. Assumes nothing.
use Prim.Native.Nat.{ℕ, zero, suc, ◌+◌, ◌*◌, ◌/◌, ◌%◌, ◌^◌, ◌≤◌, ◌<◌}
use native.Mathlib.Omega.{arith}
use mathlib.Core.Path.{◌≡◌}
use mathlib.Core.Bool.{Bool, true, false}
use mathlib.Core.List.{List, [], ◌∷◌}
use lib.ListN.{length, get_or}
use Rattle.words.specs.Unit.{longest}
use Rattle.rules.specs.Pending.{Change, change}
use Rattle.rules.specs.Session.{Each, Rising}
use Rattle.table.specs.Translation.{number}
use Rattle.layout.specs.SessionWords.{change_word}
use Rattle.layout.proofs.Columns.{truth, truth-number}

-- the change of a word
unfoldable pub change_of : ℕ → Change
change_of word = change (word / 2) (truth (word % 2))

time_of : (time : ℕ) (value : Bool) → (2 * time + number value) / 2 ≡ time
time_of time true = omega arith
time_of time false = omega arith

value_of_lem : (time : ℕ) (value : Bool) → (2 * time + number value) % 2 ≡ number value
value_of_lem time true = omega arith
value_of_lem time false = omega arith

pub time_of_word : (c : Change) → change_word c / 2 ≡ c.time
time_of_word c = time_of c.time c.value

pub value_of_word : (c : Change) → change_word c % 2 ≡ number c.value
value_of_word c = value_of_lem c.time c.value

-- every change is read back from its word
pub change_of_word : (c : Change) → change_of (change_word c) ≡ c
unfolding change_of
change_of_word c = rw (time_of_word c, value_of_word c, truth-number c.value)

word_below : (time : ℕ) (value : Bool) → time ≤ longest + longest → 2 * time + number value < 2 ^ 63
word_below time true h = omega arith
word_below time false h = omega arith

-- a change within twice the longest time has a word of 64 bits
pub change_word-below : (c : Change) → c.time ≤ longest + longest → change_word c < 2 ^ 63
change_word-below c h = word_below c.time c.value h

-- no change: what stands in an unused place
abbrev pub none : Change
none = change 0 false

-- EACH CHANGE OF A LIST

module _ (P : Change → Type 0) where
  pub each_at : (cs : List Change) (d : Change) (j : ℕ) → Each P cs → j < length cs → P (get_or cs j d)
  unfolding Each
  each_at [] d j e l = absurd (omega arith)
  each_at (c ∷ cs) d zero e l = e.0
  each_at (c ∷ cs) d (suc j) e l = each_at cs d j e.1 (omega arith)

  pub each_from : (cs : List Change) (d : Change) → ((j : ℕ) → j < length cs → P (get_or cs j d)) → Each P cs
  unfolding Each
  each_from [] d h = tt
  each_from (c ∷ cs) d h = (h 0 (omega arith), each_from cs d (λ j l. h (suc j) (omega arith)))

pub rising_at : (cs : List Change) (d : Change) (i j : ℕ) → Rising cs → i < j → j < length cs → (get_or cs i d).time < (get_or cs j d).time
unfolding Rising
rising_at [] d i j r m l = absurd (omega arith)
rising_at (c ∷ cs) d i zero r m l = absurd (omega arith)
rising_at (c ∷ cs) d zero (suc j) r m l = each_at (λ e. c.time < e.time) cs d j r.0 (omega arith)
rising_at (c ∷ cs) d (suc i) (suc j) r m l = rising_at cs d i j r.1 (omega arith) (omega arith)

pub rising-from : (cs : List Change) (d : Change) → ((i j : ℕ) → i < j → j < length cs → (get_or cs i d).time < (get_or cs j d).time) → Rising cs
unfolding Rising
rising-from [] d h = tt
rising-from (c ∷ cs) d h = (
  each_from (λ e. c.time < e.time) cs d (λ j l. h 0 (suc j) (omega arith) (omega arith)),
  rising-from cs d (λ i j m l. h (suc i) (suc j) (omega arith) (omega arith)),
)
