-- Parts of a table's words: ranges of them, counts, and the processes' ends. Assumes nothing: these are definitions.
use Rattle.std.specs.Prelude.{ℕ, suc, ◌+◌, ◌-◌, ◌^◌, ◌≤◌, ◌<◌, ◌≡◌, List, length, get_or}
use Rattle.table.specs.Table.{Table, begins}
use Rattle.table.specs.Fit.{Sound}
use Rattle.layout.specs.TableWords.{signals_at, processes_at, instructions_at}
use Rattle.layout.proofs.Tables.{decode_table}
use Rattle.fitness.specs.Inside.Kinds.{Legals}

abbrev pub signals : List ℕ → ℕ
signals words = get_or words signals_at 0

abbrev pub processes : List ℕ → ℕ
processes words = get_or words processes_at 0

abbrev pub instructions : List ℕ → ℕ
instructions words = get_or words instructions_at 0

-- the words from one place up to another are at most top
abbrev pub Within : List ℕ → ℕ → ℕ → ℕ → Type 0
Within words from upto top = (j : ℕ) → from ≤ j → j < upto → get_or words j 0 ≤ top

-- a number is zero just where the words from one place up to another are
pub record Gathered (words : List ℕ) (from j n : ℕ) : Type 0 where
  pub low : from ≤ j
  pub none : n ≡ 0 → Within words from j 0
  pub zero : Within words from j 0 → n ≡ 0

-- the counts keep the sizes
pub record Few (words : List ℕ) : Type 0 where
  pub long : 8387 ≤ length words
  pub few_signals : signals words ≤ 64
  pub few_processes : processes words ≤ 64
  pub few_instructions : instructions words ≤ 4096

-- starting values are yes-or-nos, and signals wake no process that is not there
pub record Used (words : List ℕ) : Type 0 where
  pub values : Within words 3 (3 + signals words) 1
  pub listeners : Within words 67 (67 + signals words) (2 ^ processes words - 1)

-- unused words are zero
pub record Unused (words : List ℕ) : Type 0 where
  pub no_values : Within words (3 + signals words) 67 0
  pub no_listeners : Within words (67 + signals words) 131 0
  pub no_ends : Within words (131 + processes words) 195 0
  pub no_operations : Within words (195 + instructions words) 4291 0
  pub no_delays : Within words (4291 + instructions words) 8387 0

-- the processes' instructions follow one another without gap and cover all
pub record Rows (t : Table) (n m : ℕ) : Type 0 where
  pub rising : (p : ℕ) → p < n → begins t p ≤ begins t (suc p)
  pub cover : begins t n ≡ m

-- the operands of the first n processes keep the rules
abbrev pub Sounds : Table → ℕ → Type 0
Sounds t n = (p : ℕ) → p < n → Sound t.code (begins t p) (begins t (suc p))

-- what is known of words before their operands and drivers are looked at
pub record Ready (words : List ℕ) : Type 0 where
  pub few : Few words
  pub rows : Rows (decode_table words) (processes words) (instructions words)
  pub legal : Legals words (signals words) (instructions words)
