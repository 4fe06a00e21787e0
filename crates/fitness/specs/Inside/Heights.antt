-- What the pass over a process's instructions answers: a list of heights, 0 where none is known, else one more than the number of operands.
-- Assumes nothing: these are definitions.
use Rattle.std.specs.Prelude.{ℕ, ◌+◌, ◌-◌, ◌≤◌, ◌<◌, ◌≡◌, Bool, true, false, ◌⊎◌, List, length, get_or}
use Rattle.table.specs.Instructions.{Instruction}
use Rattle.table.specs.Fit.{Sound}
use Rattle.kind.specs.declared.Kind.{Kind}
use Rattle.fitness.specs.Inside.Kinds.{takes_of, leaves_of, Follows}

-- h is put at j, unless another stood there
pub record PutAs (hs : List ℕ) (j h : ℕ) (r : Bool) (gs : List ℕ) : Type 0 where
  pub long : length gs ≡ length hs
  pub grown : (k : ℕ) → (get_or gs k 0 ≡ get_or hs k 0) ⊎ ((k ≡ j) × (get_or hs k 0 ≡ 0) × (get_or gs k 0 ≡ h))
  pub there : r ≡ true → get_or gs j 0 ≡ h
  pub clash : r ≡ false → (get_or hs j 0 ≡ 0 → ⊥) × (get_or hs j 0 ≡ h → ⊥)

-- the height after the instruction at x
abbrev pub after : List ℕ → Kind → ℕ → ℕ
after hs kind x = get_or hs x 0 - takes_of kind + leaves_of kind

-- too few operands; too many; or another number where it leads
pub data Broken (hs : List ℕ) (kind : Kind) (about x : ℕ) : Type 0 where
  short : get_or hs x 0 ≤ takes_of kind → Broken hs kind about x
  high : takes_of kind < get_or hs x 0 → 35 < after hs kind x → Broken hs kind about x
  clash : (k : ℕ) → takes_of kind < get_or hs x 0 → Follows kind about x k → (get_or hs k 0 ≡ 0 → ⊥) → (get_or hs k 0 ≡ after hs kind x → ⊥)
      → Broken hs kind about x

pub record New (hs : List ℕ) (kind : Kind) (about x k : ℕ) (gs : List ℕ) : Type 0 where
  pub enough : takes_of kind < get_or hs x 0
  pub follows : Follows kind about x k
  pub none : get_or hs k 0 ≡ 0
  pub some : get_or gs k 0 ≡ after hs kind x

pub record Kept (hs : List ℕ) (kind : Kind) (about x : ℕ) (gs : List ℕ) : Type 0 where
  pub enough : takes_of kind < get_or hs x 0
  pub most : after hs kind x ≤ 35
  pub all : (k : ℕ) → Follows kind about x k → get_or gs k 0 ≡ after hs kind x

-- the instruction at x is done to the heights
pub record Stepped (hs : List ℕ) (kind : Kind) (about x : ℕ) (r : Bool) (gs : List ℕ) : Type 0 where
  pub long : length gs ≡ length hs
  pub grown : (k : ℕ) → (get_or gs k 0 ≡ get_or hs k 0) ⊎ New hs kind about x k gs
  pub there : r ≡ true → 0 < get_or hs x 0 → Kept hs kind about x gs
  pub broken : r ≡ false → (0 < get_or hs x 0) × Broken hs kind about x

-- before a process: its start has height 0, and nothing is known beyond
pub record Fresh (from : ℕ) (hs : List ℕ) : Type 0 where
  pub long : length hs ≡ 4097
  pub start : get_or hs from 0 ≡ 1
  pub clear : (j : ℕ) → from < j → get_or hs j 0 ≡ 0

-- the pass over a process
pub record Passed (code : List Instruction) (from upto : ℕ) (r : Bool) (gs : List ℕ) : Type 0 where
  pub holds : r ≡ true → Sound code from upto
  pub fails : r ≡ false → Sound code from upto → ⊥
  pub fresh : r ≡ true → Fresh upto gs
