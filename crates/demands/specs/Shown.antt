-- What a text does with these stops: its refusal, or its header and what each call shows. Nothing here knows a table.
-- Assumes nothing: these are definitions.
use Rattle.std.specs.Prelude.{ℕ, List, map}
use Rattle.syntax.specs.Tree.{Design}
use Rattle.rules.specs.Statements.{means}
use Rattle.rules.specs.Dump.{header}
use Rattle.rules.specs.Calls.{Answer, refused, quiet, stop_reached, moved, calls}
use Rattle.names.specs.CircuitOf.{circuit_of, entity_name, signal_names}
use Rattle.names.specs.Text.{Answer as TextAnswer, accepts, refuses}

-- a call that moved: the bytes written, the time, the cycles and the steps
pub data Shown : Type 0 where
  moves : (bytes : List ℕ) (time cycles steps : ℕ) → Shown
  is_quiet reaches_stop : Shown
  is_refused : ℕ → Shown

abbrev pub shown : Answer → Shown
shown (refused number) = is_refused number
shown quiet = is_quiet
shown stop_reached = reaches_stop
shown (moved m) = moves m.bytes m.session.time m.cycles m.steps

-- the calls of a design: start, and an advance for each stop
unfoldable pub design_calls : Design → List ℕ → List Answer
design_calls d stops = calls (map means (circuit_of d).processes) (circuit_of d).initial stops

unfoldable pub design_header : Design → List ℕ
design_header d = header (entity_name d) (signal_names d)

pub data Seen : Type 0 where
  turned_away : (number place : ℕ) → Seen
  dumped : (header : List ℕ) → List Shown → Seen

abbrev pub seen : TextAnswer → List ℕ → Seen
seen (refuses number place) stops = turned_away number place
seen (accepts d) stops = dumped (design_header d) (map shown (design_calls d stops))
