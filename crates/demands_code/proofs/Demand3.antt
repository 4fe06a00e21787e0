-- Demand 3 about the code: where a text is read, start and advance give over the words read what the rules give on its statements as
-- written, for the start and for any number of calls after it. Assumes nothing.
use Prim.Native.Nat.{ℕ, ◌+◌, ◌≤◌}
use mathlib.Core.Path.{◌≡◌, sym, subst, ◌∙◌}
use mathlib.Core.List.{List, [], ◌∷◌}
use lib.ListN.{length, drop}
use lib.Seq.{sets-eq}
use native.Mathlib.Omega.{arith}
use Rattle.std.specs.Prelude.{Result}
use Rattle.syntax.specs.Tree.{Design}
use Rattle.words.specs.Unit.{longest}
use Rattle.rules.specs.Session.{Session, FitSession}
use Rattle.rules.specs.Calls.{Moved, refused, quiet, stop_reached, moved, start, advance, leaves}
use Rattle.rules.specs.Calls as calls
use Rattle.table.specs.Table.{runners}
use Rattle.table.specs.Translation.{translate}
use Rattle.table.proofs.Sessions.{AnswersFit, leaves-fit}
use Rattle.table.proofs.Demand3.{SameCalls, fit-start, fit-advance}
use Rattle.layout.specs.TableWords.{table_size, HoldsTable, FitTableWords}
use Rattle.layout.proofs.Tables.{holds-table_words}
use Rattle.reader.specs.Tabled.{Translates}
use Rattle.layout.specs.SessionWords.{session_size, session_words, HoldsSession, FitSessionWords}
use Rattle.layout.proofs.Sessions.{length-session_words, holds-session_words}
use Rattle.names.specs.CircuitOf.{circuit_of}
use Rattle.names.specs.Text.{accepts, Gets}
use Rattle.demands.proofs.Demands.{accepted_same_calls}
use Rattle.refusal.specs.declared.Reason.{Reason}
use Rattle.session.specs.declared.Answer.{Answer}
use Rattle.run.specs.Lent.{LongEnough, words_after, StartDue, AdvanceDue, Gives, Starts, Advances}
use Rattle.run.specs.Lent as lent
use Rattle.run.proofs.Once.{start-once, advance-once}
use Rattle.demands_code.specs.Calls.{Call, Called, Given, GivenAfter}
use Rattle.demands_code.specs.AsWritten.{written, AsWritten}

-- a session that a call leaves has as many lists of changes as values
abbrev Agrees : calls.Answer → Type 0
Agrees (refused r) = Unit {0}
Agrees quiet = Unit {0}
Agrees stop_reached = Unit {0}
Agrees (moved m) = length m.session.pending ≡ length m.session.values

holds-words : (m : Moved) (words : List ℕ) → session_size ≤ length words → length m.session.pending ≡ length m.session.values
    → HoldsSession (words_after (moved m) words) m.session
holds-words m words h a =
    let long : 0 + length (session_words m.session) ≤ length words = omega (arith, h, length-session_words m.session) in
    rw (sets-eq (session_words m.session) words 0 long) (holds-session_words m.session _ a)

-- the words of a lent session after a call hold the session that the call leaves
holds_after : (o : calls.Answer) (s : Session) (words : List ℕ) → HoldsSession words s → Agrees o → HoldsSession (words_after o words) (leaves o s)
holds_after (refused r) s words h a = h
holds_after quiet s words h a = h
holds_after stop_reached s words h a = h
holds_after (moved m) s words h a = holds-words m words h.long a

module _ (text : List ℕ) (d : Design) (accepted : Gets text (accepts d)) (table : List ℕ) (held : HoldsTable table (translate (circuit_of d))) where
  abbrev same : SameCalls (circuit_of d)
  same = accepted_same_calls text d accepted

  abbrev fit_words : FitTableWords table
  fit_words = record { table = translate (circuit_of d); holds = held; fit = same.fit }

  fits-here : (o : calls.Answer) → AnswersFit (runners (translate (circuit_of d))) (length (translate (circuit_of d)).initial) o
      → AnswersFit (written (circuit_of d)) (length (circuit_of d).initial) o
  fits-here (refused r) f = tt
  fits-here quiet f = tt
  fits-here stop_reached f = tt
  fits-here (moved m) f = (same.sessions m.session).0 f

  agrees : (o : calls.Answer) → AnswersFit (written (circuit_of d)) (length (circuit_of d).initial) o → Agrees o
  agrees (refused r) f = tt
  agrees quiet f = tt
  agrees stop_reached f = tt
  agrees (moved m) f = f.agrees ∙ sym f.counted

  -- the start, over the statements as written
  pub code-start : (session out session_left out_left : List ℕ) (answer : Result Answer Reason) → LongEnough table session out → Starts table session out answer session_left out_left
      → Gives (start (written (circuit_of d)) (circuit_of d).initial) session out answer session_left out_left
  code-start session out session_left out_left answer long s =
      let e = start-once table session out s.says (start (runners (translate (circuit_of d))) (translate (circuit_of d)).initial) s.due (lent.StartDue.runs long fit_words) in
      subst (λ o. Gives o session out answer session_left out_left) (e ∙ same.starts) s.gives

  -- an advance from any session that is fit, over the statements as written
  module _ (stop : ℕ) (in_size : stop ≤ longest) (s : Session) (fit : FitSession (written (circuit_of d)) (length (circuit_of d).initial) s) where
    abbrev fit_there : FitSession (runners (translate (circuit_of d))) (length (translate (circuit_of d)).initial) s
    fit_there = (same.sessions s).1 fit

    pub code-advance : (session out session_left out_left : List ℕ) (answer : Result Answer Reason) → LongEnough table session out → HoldsSession session s
        → Advances table session out stop answer session_left out_left
        → Gives (advance (written (circuit_of d)) stop s) session out answer session_left out_left
    code-advance session out session_left out_left answer long holds a =
        let words : FitSessionWords (translate (circuit_of d)) session = record { session = s; holds = holds; fit = fit_there } in
        let e = advance-once table session out stop a.says (advance (runners (translate (circuit_of d))) stop s) a.due (lent.AdvanceDue.runs long in_size fit_words words) in
        subst (λ o. Gives o session out answer session_left out_left) (e ∙ same.advances stop s) a.gives

    -- what an advance answers over the statements leaves a session that is fit again
    abbrev fit_answer : AnswersFit (written (circuit_of d)) (length (circuit_of d).initial) (advance (written (circuit_of d)) stop s)
    fit_answer = fits-here (advance (written (circuit_of d)) stop s)
        (subst (AnswersFit (runners (translate (circuit_of d))) (length (translate (circuit_of d)).initial)) (same.advances stop s)
        (fit-advance (translate (circuit_of d)) same.fit stop s in_size fit_there))

  -- any number of advances: each gives what the rules give on the statements, from the session that the one before left
  pub code-calls : (more : List Call) (s : Session) (session : List ℕ) → FitSession (written (circuit_of d)) (length (circuit_of d).initial) s
      → HoldsSession session s → Called table session more → Given (written (circuit_of d)) s session more
  unfolding Called Given
  code-calls [] s session f g called = tt
  code-calls (c ∷ more) s session f g called =
      let o = advance (written (circuit_of d)) c.stop s in
      let gives = code-advance c.stop called.1 s f session c.out c.session_left c.out_left c.answer called.0 g called.2 in
      let fit = fit_answer c.stop called.1 s f in
      let holds : HoldsSession c.session_left (leaves o s) = subst (λ w. HoldsSession w (leaves o s)) (sym gives.session) (holds_after o s session g (agrees o fit)) in
      (gives, code-calls more (leaves o s) c.session_left (leaves-fit _ _ o s fit f) holds called.3)

  -- and so after the start
  pub code-run : (session out session_left out_left : List ℕ) (answer : Result Answer Reason) → LongEnough table session out → Starts table session out answer session_left out_left
      → (more : List Call) → Called table session_left more
      → GivenAfter (written (circuit_of d)) (start (written (circuit_of d)) (circuit_of d).initial) session_left more
  code-run session out session_left out_left answer long s more called =
      go (start (written (circuit_of d)) (circuit_of d).initial) (code-start session out session_left out_left answer long s).session
      (fits-here (start (written (circuit_of d)) (circuit_of d).initial)
      (subst (AnswersFit (runners (translate (circuit_of d))) (length (translate (circuit_of d)).initial)) same.starts (fit-start (translate (circuit_of d)) same.fit)))
    where
      go : (o : calls.Answer) → session_left ≡ words_after o session → AnswersFit (written (circuit_of d)) (length (circuit_of d).initial) o
          → GivenAfter (written (circuit_of d)) o session_left more
      go (refused r) e f = tt
      go quiet e f = tt
      go stop_reached e f = tt
      go (moved m) e f = code-calls more m.session session_left f (subst (λ w. HoldsSession w m.session) (sym e) (holds-words m session long.session (agrees (moved m) f))) called

  as_written : AsWritten (circuit_of d) table
  as_written = record { fit = fit_words; starts = code-start; advances = code-advance; runs = code-run }

-- demand 3: where a text is read, start and advance give over the words read what the rules give on its statements
pub demand_3 : (text table table_left : List ℕ) (t : Translates text table table_left) → Gets text (accepts t.tree) × AsWritten (circuit_of t.tree) table_left
demand_3 text table table_left t =
    (t.gets, as_written text t.tree t.gets table_left (subst (λ w. HoldsTable w (translate (circuit_of t.tree))) (sym t.words) (holds-table_words (translate (circuit_of t.tree)) (drop table_size table))))
