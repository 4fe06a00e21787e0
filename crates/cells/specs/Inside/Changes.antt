-- The word of the signals whose values differ between cells and cells. Assumes nothing.
use Rattle.std.specs.Prelude.{ℕ, ◌^◌, ◌<◌, ◌≡◌, List}
use Rattle.rules.specs.Formulas.{differ}
use Rattle.table.specs.Table.{bit}
use Rattle.cells.specs.Cells.{value_of}

-- of the first n signals; the word has no other bit
pub record Differs (n word : ℕ) (before after : List ℕ) : Type 0 where
  pub small : word < 2 ^ n
  pub tells : (k : ℕ) → k < n → bit word k ≡ differ (value_of before k) (value_of after k)
