-- Answers of a run as numbers: a call writes no more than a buffer has.
-- Assumes nothing.
use Prim.Native.Nat.{ℕ, ◌≤◌}
use mathlib.Core.Path.{◌≡◌, ap}
use mathlib.Core.List.{List}
use lib.ListN.{length}
use Rattle.std.specs.Prelude.{Result, Ok, Err, IsOkAnd, MatchResult}
use Rattle.refusal.specs.declared.Reason.{Reason}
use Rattle.rules.specs.Calls.{refused, quiet, stop_reached, moved}
use Rattle.rules.specs.Calls as calls
use Rattle.table.proofs.Written.{WritesFit}
use Rattle.table.proofs.Demand3.{start-short, advance-short}
use Rattle.session.specs.Answers.{AnswersAs, started}
use Rattle.session.specs.declared.Moved.{Moved}
use Rattle.session.specs.declared.Answer.{Answer}
use Rattle.session.specs.declared.Answer.TheVariants.{Moved as Moves}
use Rattle.run.specs.Lent.{StartDue, AdvanceDue, Starts, Advances}
use Rattle.compassnail.specs.Codes.{code_of, report_after, Small, StartsInC, starts, AdvancesInC, advances}

small_of : (o : calls.Answer) (a : Result Answer Reason) → AnswersAs o a → WritesFit o → Small a
small_of (refused r) (Err reason) e w = tt
small_of (refused r) (Ok a) e w = absurd e
small_of quiet a e w = rw e tt
small_of stop_reached a e w = rw e tt
small_of (moved m) a e w = rw e w

start-writes : {table session out : List ℕ} {o : calls.Answer} → StartDue table session out o → WritesFit o
start-writes (StartDue.short h) = tt
start-writes (StartDue.unfit l h) = tt
start-writes (StartDue.runs l f) = start-short f.table f.fit

advance-writes : {table session out : List ℕ} {stop : ℕ} {o : calls.Answer} → AdvanceDue table session out stop o → WritesFit o
advance-writes (AdvanceDue.short h) = tt
advance-writes (AdvanceDue.late l h) = tt
advance-writes (AdvanceDue.unfit l s h) = tt
advance-writes (AdvanceDue.unfit_session l s f h) = tt
advance-writes {stop = stop} (AdvanceDue.runs l s f g) = advance-short f.table f.fit stop g.session s g.fit

pub start_small : {table session out session_left out_left : List ℕ} {a : Result Answer Reason} → Starts table session out a session_left out_left → Small a
start_small s = small_of s.says _ s.gives.answers (start-writes s.due)

pub advance-small : {table session out session_left out_left : List ℕ} {stop : ℕ} {a : Result Answer Reason} → Advances table session out stop a session_left out_left → Small a
advance-small s = small_of s.says _ s.gives.answers (advance-writes s.due)

-- a start's answer among those of an advance
pub mapped : (r : Result Moved Reason) (a : Result Answer Reason) → MatchResult r (λ m. IsOkAnd a (λ b. b ≡ Moves m)) (λ reason. a ≡ Err reason) → a ≡ started r
mapped (Ok m) (Ok b) e = ap Ok e
mapped (Ok m) (Err reason) e = absurd e
mapped (Err reason) a e = e

-- the answer's number and the report, as they stand in the code
module _ (table session out report session_left out_left report_left : List ℕ) (a : Result Answer Reason) (r : ℕ) (long : 3 ≤ length report)
    (number : r ≡ code_of a) (left : report_left ≡ report_after a report) where
  pub in_c_start : Starts table session out a session_left out_left → StartsInC table session out report r session_left out_left report_left
  in_c_start s = rw (number, left) (starts a long s)

  pub in_c_advance : (stop : ℕ) → Advances table session out stop a session_left out_left → AdvancesInC table session stop out report r session_left out_left report_left
  in_c_advance stop s = rw (number, left) (advances a long s)
