-- What a start and an advance on cells answer and leave: o is what the rules say. Assumes nothing.
use Rattle.std.specs.Prelude.{ℕ, ◌^◌, ◌<◌, ◌≡◌, true, List, [], length, replicate, Result}
use Rattle.rules.specs.Calls.{refused, quiet, stop_reached, moved}
use Rattle.rules.specs.Calls as calls
use Rattle.table.specs.Table.{bit}
use Rattle.layout.proofs.Tables.{decode_table}
use Rattle.cells.specs.Cells.{values, pendings, FitFor}
use Rattle.machine.specs.Inside.Steps.{signals_of}
use Rattle.cycles.specs.Inside.Turns.{session_of}
use Rattle.refusal.specs.declared.Reason.{Reason}
use Rattle.session.specs.Answers.{AnswersAs, out_after}
use Rattle.session.specs.declared.Answer.{Answer}

-- a refused call leaves cells that are of no use, one that was quiet or reached the stop leaves them as they were
abbrev pub CellsAfter : calls.Answer → ℕ → List ℕ → List ℕ → Type 0
CellsAfter (refused r) n cells left = Unit {0}
CellsAfter quiet n cells left = left ≡ cells
CellsAfter stop_reached n cells left = left ≡ cells
CellsAfter (moved m) n cells left = (m.session ≡ session_of m.session.time n left) × FitFor n left

pub record GoesAs (o : calls.Answer) (n : ℕ) (cells out : List ℕ) (answer : Result Answer Reason) (left after : List ℕ) : Type 0 where
  pub answers : AnswersAs o answer
  pub session : CellsAfter o n cells left
  pub bytes : after ≡ out_after o out

-- the cells of a session at the start
pub record Fresh (tb cells : List ℕ) : Type 0 where
  pub fit : FitFor (signals_of tb) cells
  pub values : values (signals_of tb) cells ≡ (decode_table tb).initial
  pub pending : pendings (signals_of tb) cells ≡ replicate (length (decode_table tb).initial) []

-- the word of the first n numbers
pub record AllOf (n word : ℕ) : Type 0 where
  pub small : word < 2 ^ n
  pub set : (k : ℕ) → k < n → bit word k ≡ true
