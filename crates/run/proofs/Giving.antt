-- What a call on cells leaves of the lent words. Assumes nothing.
use Prim.Native.Nat.{ℕ, ◌≤◌}
use mathlib.Core.Path.{◌≡◌, refl, ap, sym, subst, ◌∙◌}
use mathlib.Core.List.{List, ◌∷◌}
use native.Mathlib.Omega.{arith}
use lib.ListN.{length}
use lib.Seq.{sets}
use Rattle.std.specs.Prelude.{Result, Ok, Err}
use Rattle.refusal.specs.declared.Reason.{Reason}
use Rattle.rules.specs.Session.{FitSession}
use Rattle.rules.specs.Calls.{refused, quiet, stop_reached, moved, start, advance}
use Rattle.rules.specs.Calls as calls
use Rattle.table.specs.Table.{runners}
use Rattle.layout.specs.TableWords.{FitTableWords}
use Rattle.layout.specs.SessionWords.{session_words, FitSessionWords}
use Rattle.layout.proofs.Tables.{decode_table, table_of_fit_words}
use Rattle.layout.proofs.Sessions.{session_of_fit_words}
use Rattle.cells.specs.Cells.{FitFor}
use Rattle.machine.specs.Inside.Steps.{signals_of}
use Rattle.machine.proofs.Fetching.{held, fits}
use Rattle.cycles.specs.Inside.Turns.{session_of}
use Rattle.session.specs.Inside.Goings.{GoesAs}
use Rattle.session.specs.declared.Answer.{Answer}
use Rattle.session.specs.declared.Answer.TheVariants.{Moved as Moves}
use Rattle.session.specs.declared.Moved.{Moved}
use Rattle.run.specs.Lent.{Gives}
use Rattle.run.specs.Inside.Copies.{Loaded}
use Rattle.run.proofs.Holding.{values-here, pendings-here, cells_fit, words_are}

module _ (n : ℕ) (cells words out left after : List ℕ) where
  pub gives-refused : (o : calls.Answer) (reason : Reason) → GoesAs o n cells out (Err reason) left after → Gives o words out (Err reason) words after
  gives-refused (refused r) reason g = record { answers = g.answers; session = refl; bytes = g.bytes }
  gives-refused quiet reason g = absurd (cc g.answers)
  gives-refused stop_reached reason g = absurd (cc g.answers)
  gives-refused (moved m) reason g = absurd (cc g.answers)

  pub gives-still : (o : calls.Answer) (answer : Answer) → ((m : Moved) → answer ≡ Moves m → ⊥) → GoesAs o n cells out (Ok answer) left after → Gives o words out (Ok answer) words after
  gives-still (refused r) answer still g = absurd g.answers
  gives-still quiet answer still g = record { answers = g.answers; session = refl; bytes = g.bytes }
  gives-still stop_reached answer still g = record { answers = g.answers; session = refl; bytes = g.bytes }
  gives-still (moved m) answer still g = absurd (still (record { bytes = length m.bytes; time = m.session.time; cycles = m.cycles; steps = m.steps }) (cc g.answers))

  pub gives_moved : (o : calls.Answer) (m : Moved) (k : ℕ) (stored : List ℕ) → k ≡ n → stored ≡ sets words 0 (k ∷ m.time ∷ left)
      → GoesAs o n cells out (Ok (Moves m)) left after → Gives o words out (Ok (Moves m)) stored after
  gives_moved (refused r) m k stored d e g = absurd g.answers
  gives_moved quiet m k stored d e g = absurd (cc g.answers)
  gives_moved stop_reached m k stored d e g = absurd (cc g.answers)
  gives_moved (moved by) m k stored d e g =
      let q = g.answers in
      let same : m.time ≡ by.session.time = cc in
      record {
        answers = g.answers;
        session =
            e
            ∙ ap (λ l. sets words 0 l)
            (ap (λ i. i ∷ m.time ∷ left) d ∙ words_are n m.time left g.session.1 ∙ ap (λ u. session_words (session_of u n left)) same ∙ ap session_words (sym g.session.0));
        bytes = g.bytes;
      }

-- THE TABLE AND THE SESSION OF LENT WORDS

pub for_table : (tb : List ℕ) (f : FitTableWords tb) (words out : List ℕ) (r : Result Answer Reason) (left after : List ℕ)
    → Gives (start (runners (decode_table tb)) (decode_table tb).initial) words out r left after
    → Gives (start (runners f.table) f.table.initial) words out r left after
for_table tb f words out r left after g =
    subst (λ t. Gives (start (runners t) t.initial) words out r left after) (sym (table_of_fit_words tb f)) g

module _ (tb words : List ℕ) (table : FitTableWords tb) (fit : FitSessionWords (decode_table tb) words) (cells : List ℕ) (ld : Loaded words 1152 cells) where
  abbrev n : ℕ
  n = signals_of tb

  few : n ≤ 64
  few = omega (arith, (held tb table).signals, (fits tb table).few_signals)

  its_fit : FitSession (runners (decode_table tb)) n fit.session
  its_fit = subst (λ m. FitSession (runners (decode_table tb)) m fit.session) (sym (held tb table).signals) fit.fit

  pub loaded_fit : FitFor n cells
  loaded_fit = cells_fit (decode_table tb) n few words fit.session fit.holds its_fit cells ld

  session_is : session_of fit.session.time n cells ≡ fit.session
  session_is =
      let v = values-here (decode_table tb) n few words fit.session fit.holds its_fit cells ld in
      let p = pendings-here (decode_table tb) n few words fit.session fit.holds its_fit cells ld in
      λ i. record { time = fit.session.time; values = v i; pending = p i }

  abbrev pub its_time : ℕ
  its_time = fit.session.time

  pub for_session : (f : FitTableWords tb) (s : FitSessionWords f.table words) (stop : ℕ) (out : List ℕ) (r : Result Answer Reason) (left after : List ℕ)
      → Gives (advance (runners (decode_table tb)) stop (session_of its_time n cells)) words out r left after
      → Gives (advance (runners f.table) stop s.session) words out r left after
  for_session f s stop out r left after g =
      let t : f.table ≡ decode_table tb = table_of_fit_words tb f in
      let small : length f.table.initial ≤ 64 = f.fit.few_signals in
      let smaller : length (decode_table tb).initial ≤ 64 = (fits tb table).few_signals in
      let u : s.session ≡ fit.session = session_of_fit_words f.table words small s ∙ sym (session_of_fit_words (decode_table tb) words smaller fit) in
      subst (λ x. Gives (advance (runners x) stop s.session) words out r left after) (sym t)
      (subst (λ x. Gives (advance (runners (decode_table tb)) stop x) words out r left after) (session_is ∙ sym u) g)
