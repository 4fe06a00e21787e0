-- What demand 3 says of a lent table and a circuit: whatever start and advance do with the table's words is what the rules give on the
-- circuit's statements as written. Assumes nothing: these are definitions.
use Rattle.std.specs.Prelude.{ℕ, ◌≤◌, List, map, length, Result}
use Rattle.syntax.specs.Circuit.{Circuit}
use Rattle.words.specs.Unit.{longest}
use Rattle.rules.specs.Statements.{means}
use Rattle.rules.specs.Runner.{Runner}
use Rattle.rules.specs.Session.{Session, FitSession}
use Rattle.rules.specs.Calls.{start, advance}
use Rattle.layout.specs.TableWords.{FitTableWords}
use Rattle.layout.specs.SessionWords.{HoldsSession}
use Rattle.refusal.specs.declared.Reason.{Reason}
use Rattle.session.specs.declared.Answer.{Answer}
use Rattle.run.specs.Lent.{LongEnough, Gives, Starts, Advances}
use Rattle.demands_code.specs.Calls.{Call, Called, GivenAfter}

-- the processes of a circuit, as its statements are written
abbrev pub written : Circuit → List Runner
written c = map means c.processes

pub record AsWritten (c : Circuit) (table : List ℕ) : Type 0 where
  pub fit : FitTableWords table
  -- the start: answer, session, bytes
  pub starts : (session out session_left out_left : List ℕ) (answer : Result Answer Reason) → LongEnough table session out → Starts table session out answer session_left out_left
      → Gives (start (written c) c.initial) session out answer session_left out_left
  -- an advance, from every fit session
  pub advances : (stop : ℕ) → stop ≤ longest → (s : Session) → FitSession (written c) (length c.initial) s
      → (session out session_left out_left : List ℕ) (answer : Result Answer Reason) → LongEnough table session out → HoldsSession session s
      → Advances table session out stop answer session_left out_left → Gives (advance (written c) stop s) session out answer session_left out_left
  -- the start and any number of advances after it
  pub runs : (session out session_left out_left : List ℕ) (answer : Result Answer Reason) → LongEnough table session out → Starts table session out answer session_left out_left
      → (more : List Call) → Called table session_left more → GivenAfter (written c) (start (written c) c.initial) session_left more
