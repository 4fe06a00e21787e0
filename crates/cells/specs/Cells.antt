-- The cells of a session, which are the words of a session behind its count and time: the value of signal k at k, how many changes are
-- pending for it at 64 + k, and its changes from 128 + 16 * k on, each twice its time, and one more where its value is true.
-- Assumes nothing: these are definitions.
use Rattle.std.specs.Prelude.{ℕ, ◌+◌, ◌*◌, ◌/◌, ◌%◌, ◌^◌, ◌<◌, ◌≤◌, ◌≡◌, refl, Bool, true, false, List, [], ◌∷◌, Option, Some, None, eqb, length, get_or}
use Rattle.rules.specs.Outcome.{Outcome, refuses, gives}
use Rattle.rules.specs.Formulas.{Values, differ}
use Rattle.rules.specs.Pending.{Change, change, Pending, post, taken, kept, due_in, nothing, first, least}
use Rattle.rules.specs.Session.{Each, Rising}
use Rattle.table.specs.Table.{bit, tabulate}
use Rattle.cells.specs.declared.Coming.{Coming}

abbrev pub truth : ℕ → Bool
truth word = eqb word 1

-- the change in the cell at place z
unfoldable pub change_in : List ℕ → ℕ → Change
change_in cells z = change (get_or cells z 0 / 2) (truth (get_or cells z 0 % 2))

abbrev pub count_of : List ℕ → ℕ → ℕ
count_of cells k = get_or cells (64 + k) 0

abbrev pub pending_of : List ℕ → ℕ → List Change
pending_of cells k = tabulate (change_in cells) (128 + k * 16) (count_of cells k)

abbrev pub value_of : List ℕ → ℕ → Bool
value_of cells k = truth (get_or cells k 0)

-- the values and the pending changes of the first n signals
unfoldable pub values : ℕ → List ℕ → Values
values n cells = tabulate (value_of cells) 0 n

unfoldable pub pendings : ℕ → List ℕ → Pending
pendings n cells = tabulate (pending_of cells) 0 n

-- cells that are as they should be: unused ones are zero
pub record Fit (cells : List ℕ) : Type 0 where
  pub long : length cells ≡ 1152
  pub bits : (k : ℕ) → k < 64 → get_or cells k 0 ≤ 1
  pub few : (k : ℕ) → k < 64 → count_of cells k ≤ 16
  pub rising : (k : ℕ) → k < 64 → Rising (pending_of cells k)
  pub unused : (k i : ℕ) → k < 64 → count_of cells k ≤ i → i < 16 → get_or cells (128 + k * 16 + i) 0 ≡ 0

-- cells of n signals: those of others are zero
pub record FitFor (n : ℕ) (cells : List ℕ) : Type 0 where
  pub few : n ≤ 64
  pub fit : Fit cells
  pub no_values : (k : ℕ) → n ≤ k → k < 64 → get_or cells k 0 ≡ 0
  pub no_counts : (k : ℕ) → n ≤ k → k < 64 → count_of cells k ≡ 0

-- given, or refused 15
abbrev pub told : {A : Type 0} → Bool → A → Outcome A
told true a = gives a
told false a = refuses 15

-- what a post for signal k answers and leaves
pub record Posted (cells : List ℕ) (k t : ℕ) (v : Bool) (yes : Bool) (after : List ℕ) : Type 0 where
  pub answer : (n : ℕ) → k < n → n ≤ 64 → post k (change t v) (pendings n cells) ≡ told yes (pendings n after)
  pub values : (j : ℕ) → j < 64 → get_or after j 0 ≡ get_or cells j 0
  pub counts : (j : ℕ) → j < 64 → (j ≡ k → ⊥) → count_of after j ≡ count_of cells j
  pub fit : Fit after
  pub left : yes ≡ false → after ≡ cells

-- no change comes before t
abbrev pub Reached : ℕ → List Change → Type 0
Reached t = Each (λ c. t ≤ c.time)

-- what taking the changes of t of signal k answers (whether the signal has an event) and leaves
pub record Took (cells : List ℕ) (k t : ℕ) (yes : Bool) (after : List ℕ) : Type 0 where
  pub event : yes ≡ differ (value_of cells k) (taken t (value_of cells k) (pending_of cells k))
  pub value : value_of after k ≡ taken t (value_of cells k) (pending_of cells k)
  pub pending : pending_of after k ≡ kept t (pending_of cells k)
  pub other_value : (j : ℕ) → j < 64 → (j ≡ k → ⊥) → get_or after j 0 ≡ get_or cells j 0
  pub other_count : (j : ℕ) → j < 64 → (j ≡ k → ⊥) → count_of after j ≡ count_of cells j
  pub other_pending : (j : ℕ) → j < 64 → (j ≡ k → ⊥) → pending_of after j ≡ pending_of cells j
  pub fit : Fit after

-- a word with a bit for each signal that has a change at t, and no other; no change comes before t
pub record Due (word t : ℕ) (p : Pending) : Type 0 where
  pub small : word < 2 ^ length p
  pub tells : (k : ℕ) → bit word k ≡ due_in t (get_or p k [])
  pub reached : (k : ℕ) → Reached t (get_or p k [])

-- what comes next: the least pending time, with the word of the signals that have a change then
abbrev pub ComesNext : Pending → Option Coming → Type 0
ComesNext p None = least p ≡ nothing
ComesNext p (Some next) = (least p ≡ first next.time) × (0 < next.due) × Due next.due next.time p

-- a change to true at 3 fs
change_at_3 : change_in (7 ∷ []) 0 ≡ change 3 true
unfolding change_in
change_at_3 = refl
