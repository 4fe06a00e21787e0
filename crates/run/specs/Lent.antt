-- Start and advance over lent words: which answer is due, and what it leaves of each lent word and byte.
-- Assumes nothing: these are definitions.
use Rattle.std.specs.Prelude.{ℕ, ◌≤◌, ◌<◌, ◌≡◌, List, length, Result}
use Rattle.std.proofs.lemmas.List.Edits.{sets}
use Rattle.words.specs.Unit.{longest}
use Rattle.rules.specs.Sizes.{buffer_bytes}
use Rattle.rules.specs.Calls.{refused, quiet, stop_reached, moved, start, advance}
use Rattle.rules.specs.Calls as calls
use Rattle.table.specs.Table.{runners}
use Rattle.layout.specs.TableWords.{table_size, FitTableWords}
use Rattle.layout.specs.SessionWords.{session_size, session_words, FitSessionWords}
use Rattle.refusal.specs.declared.Reason.{Reason}
use Rattle.session.specs.Answers.{AnswersAs, out_after}
use Rattle.session.specs.declared.Answer.{Answer}

-- the session's words after a call: those of the session that it leaves, where it moved; the words behind them stay
abbrev pub words_after : calls.Answer → List ℕ → List ℕ
words_after (refused r) words = words
words_after quiet words = words
words_after stop_reached words = words
words_after (moved m) words = sets words 0 (session_words m.session)

-- the lent buffers have their sizes
pub record LongEnough (tb ws bs : List ℕ) : Type 0 where
  pub table : table_size ≤ length tb
  pub session : session_size ≤ length ws
  pub out : buffer_bytes ≤ length bs

-- the answer that is due to a start: 11, 13, then the run
pub data StartDue (table session out : List ℕ) : calls.Answer → Type 0 where
  short : (LongEnough table session out → ⊥) → StartDue table session out (refused 11)
  unfit : LongEnough table session out → (FitTableWords table → ⊥) → StartDue table session out (refused 13)
  runs : LongEnough table session out → (f : FitTableWords table) → StartDue table session out (start (runners f.table) f.table.initial)

-- the answer that is due to an advance: 11, 12, 13, 14, then quiet, stop reached or the run
pub data AdvanceDue (table session out : List ℕ) (stop : ℕ) : calls.Answer → Type 0 where
  short : (LongEnough table session out → ⊥) → AdvanceDue table session out stop (refused 11)
  late : LongEnough table session out → longest < stop → AdvanceDue table session out stop (refused 12)
  unfit : LongEnough table session out → stop ≤ longest → (FitTableWords table → ⊥) → AdvanceDue table session out stop (refused 13)
  unfit_session : LongEnough table session out → stop ≤ longest → (f : FitTableWords table) → (FitSessionWords f.table session → ⊥)
      → AdvanceDue table session out stop (refused 14)
  runs : LongEnough table session out → stop ≤ longest → (f : FitTableWords table) (s : FitSessionWords f.table session)
      → AdvanceDue table session out stop (advance (runners f.table) stop s.session)

-- a call that gives the answer o, and leaves the lent words and bytes that o leaves
pub record Gives (o : calls.Answer) (before out : List ℕ) (answer : Result Answer Reason) (session_left out_left : List ℕ) : Type 0 where
  pub answers : AnswersAs o answer
  pub session : session_left ≡ words_after o before
  pub bytes : out_left ≡ out_after o out

pub record Starts (table session out : List ℕ) (answer : Result Answer Reason) (session_left out_left : List ℕ) : Type 0 where
  pub says : calls.Answer
  pub due : StartDue table session out says
  pub gives : Gives says session out answer session_left out_left

pub record Advances (table session out : List ℕ) (stop : ℕ) (answer : Result Answer Reason) (session_left out_left : List ℕ) : Type 0 where
  pub says : calls.Answer
  pub due : AdvanceDue table session out stop says
  pub gives : Gives says session out answer session_left out_left
