-- What the loops over one signal's cells do, cell by cell. Assumes nothing.
use Rattle.std.specs.Prelude.{ℕ, ◌+◌, ◌/◌, ◌^◌, ◌<◌, ◌≤◌, suc, ◌≡◌, List, [], length, get_or}
use Rattle.std.specs.Int.Bits.{bit_or}
use Rattle.rules.specs.Pending.{due_in}
use Rattle.table.specs.Table.{bit}
use Rattle.cells.specs.Cells.{pending_of, Reached}
use Rattle.cells.specs.declared.Coming.{Coming}

-- of n cells from base on, those from r on, which come at t or later, are zero now, and nothing else changes
pub record Cut (cells : List ℕ) (base n t r : ℕ) (after : List ℕ) : Type 0 where
  pub long : length after ≡ 1152
  pub most : r ≤ n
  pub early : (i : ℕ) → i < r → get_or cells (base + i) 0 / 2 < t
  pub late : (i : ℕ) → r ≤ i → i < n → t ≤ get_or cells (base + i) 0 / 2
  pub gone : (i : ℕ) → r ≤ i → i < n → get_or after (base + i) 0 ≡ 0
  pub still : (z : ℕ) → ((i : ℕ) → r ≤ i → i < n → base + i ≡ z → ⊥) → get_or after z 0 ≡ get_or cells z 0

-- of the sixteen cells from base on, each is the one behind it now, and the last is zero
pub record Dropped (cells : List ℕ) (base : ℕ) (after : List ℕ) : Type 0 where
  pub long : length after ≡ 1152
  pub moved : (m : ℕ) → m < 15 → get_or after (base + m) 0 ≡ get_or cells (base + (m + 1)) 0
  pub last : get_or after (base + 15) 0 ≡ 0
  pub still : (z : ℕ) → ((m : ℕ) → m < 16 → base + m ≡ z → ⊥) → get_or after z 0 ≡ get_or cells z 0

-- of a time with its word and a signal's first time x with its bit, the earlier, or both
pub record Nearer (x one time word : ℕ) (r : Coming) : Type 0 where
  pub earlier : x < time → (r.time ≡ x) × (r.due ≡ one)
  pub same : x ≡ time → (r.time ≡ time) × (r.due ≡ bit_or word one)
  pub later : time < x → (r.time ≡ time) × (r.due ≡ word)
  pub fits : x < 2 ^ 64

-- what is known of the first k signals: none has a change before the time, and the word says which have one then; where none has
-- a change at all, no time is above that time
pub record Seen (cells : List ℕ) (k : ℕ) (next : Coming) : Type 0 where
  pub small : next.due < 2 ^ k
  pub tells : (j : ℕ) → j < k → bit next.due j ≡ due_in next.time (pending_of cells j)
  pub reached : (j : ℕ) → j < k → Reached next.time (pending_of cells j)
  pub nothing : next.due ≡ 0 → (j : ℕ) → j < k → pending_of cells j ≡ []
  pub above : next.due ≡ 0 → 2 ^ 64 ≤ suc next.time
