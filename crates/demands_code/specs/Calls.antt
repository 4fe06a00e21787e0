-- Calls of advance, one after the other, on a lent table: what their promises tell of them, and what the rules give on statements.
-- Assumes nothing: these are definitions.
use Rattle.std.specs.Prelude.{ℕ, ◌≤◌, List, [], ◌∷◌, Result}
use Rattle.words.specs.Unit.{longest}
use Rattle.rules.specs.Runner.{Runner}
use Rattle.rules.specs.Session.{Session}
use Rattle.rules.specs.Calls.{refused, quiet, stop_reached, moved, advance, leaves}
use Rattle.rules.specs.Calls as calls
use Rattle.refusal.specs.declared.Reason.{Reason}
use Rattle.session.specs.declared.Answer.{Answer}
use Rattle.run.specs.Lent.{LongEnough, Gives, Advances}

-- a call: its stop and its lent buffer, its answer, and the session's words and the buffer's bytes after it
pub record Call : Type 0 where
  pub stop : ℕ
  pub out : List ℕ
  pub answer : Result Answer Reason
  pub session_left : List ℕ
  pub out_left : List ℕ

-- each call on the session's words that the one before left, with buffers that are long enough
unfoldable pub Called : (table session : List ℕ) → List Call → Type 0
Called table session [] = Unit {0}
Called table session (c ∷ more) =
    LongEnough table session c.out × (c.stop ≤ longest) × Advances table session c.out c.stop c.answer c.session_left c.out_left
    × Called table c.session_left more

-- each call gives the answer, the words and the bytes that the rules give on the processes rs, from the session s on
unfoldable pub Given : List Runner → (s : Session) (session : List ℕ) → List Call → Type 0
Given rs s session [] = Unit {0}
Given rs s session (c ∷ more) =
    Gives (advance rs c.stop s) session c.out c.answer c.session_left c.out_left × Given rs (leaves (advance rs c.stop s) s) c.session_left more

-- and so after a start that answered o; where a start is refused there is no session to go on from
abbrev pub GivenAfter : List Runner → calls.Answer → (session : List ℕ) → List Call → Type 0
GivenAfter rs (refused r) session more = Unit {0}
GivenAfter rs quiet session more = Unit {0}
GivenAfter rs stop_reached session more = Unit {0}
GivenAfter rs (moved m) session more = Given rs m.session session more

-- after a start that is refused, nothing is said of the calls that follow
nothing-after : (rs : List Runner) (session : List ℕ) (more : List Call) → GivenAfter rs (refused 16) session more
nothing-after rs session more = tt
