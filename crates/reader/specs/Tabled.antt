-- What `read` answers of a text and a lent table, and what it leaves in the table, for each case of the answer.
-- Assumes nothing: these are definitions.
use Rattle.std.specs.Prelude.{ℕ, ◌≤◌, ◌<◌, ◌≡◌, refl, List, [], ◌++◌, length, drop, Result, Ok, Err}
use Rattle.std.proofs.Common.{arith}
use Rattle.laws.specs.Text.{bytes}
use Rattle.syntax.specs.Tree.{Design}
use Rattle.table.specs.Translation.{translate}
use Rattle.names.specs.CircuitOf.{circuit_of}
use Rattle.names.specs.Text.{accepts, refuses, Gets}
use Rattle.layout.specs.TableWords.{table_size, table_words}
use Rattle.refusal.specs.declared.Refusal.{Refusal}
use Rattle.refusal.specs.declared.Reason.TheVariants.{Buffer}
use Rattle.refusal.specs.Numbers.{number_of}

-- 11 comes before all others, and has no place: 0
pub data RefusedWith (text table : List ℕ) : ℕ → ℕ → Type 0 where
  short : length table < table_size → RefusedWith text table 11 0
  turned : {number place : ℕ} → table_size ≤ length table → Gets text (refuses number place) → RefusedWith text table number place

-- the words of the circuit's translation stand in front of what stood behind them
pub record Translates (text table after : List ℕ) : Type 0 where
  pub long : table_size ≤ length table
  pub tree : Design
  pub gets : Gets text (accepts tree)
  pub words : after ≡ table_words (translate (circuit_of tree)) ++ drop table_size table

abbrev pub Tables : (text table : List ℕ) → Result (Unit {0}) Refusal → List ℕ → Type 0
Tables text table (Ok done) after = Translates text table after
Tables text table (Err refusal) after = RefusedWith text table (number_of refusal.reason) refusal.place × (after ≡ table)

-- no words are lent: 11, whatever the text
no_words : Tables (bytes "entity") [] (Err (record { reason = Buffer; place = 0 })) []
no_words = (short (omega arith), refl)
