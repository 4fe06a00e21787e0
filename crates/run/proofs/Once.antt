-- No second outcome of a start or an advance fits. Assumes nothing.
use Prim.Native.Nat.{ℕ}
use mathlib.Core.Path.{◌≡◌, refl, ap, sym, subst, ◌∙◌}
use mathlib.Core.List.{List}
use native.Mathlib.Omega.{arith}
use Rattle.std.specs.Prelude.{Result, Ok, Err}
use Rattle.refusal.specs.declared.Reason.{Reason}
use Rattle.refusal.proofs.Numbers.{one_reason}
use Rattle.rules.specs.Calls.{refused, quiet, stop_reached, moved, start, advance}
use Rattle.rules.specs.Calls as calls
use Rattle.rules.specs.Session.{Session}
use Rattle.table.specs.Table.{Table, runners}
use Rattle.layout.specs.TableWords.{FitTableWords}
use Rattle.layout.specs.SessionWords.{FitSessionWords}
use Rattle.layout.proofs.Tables.{table_of_fit_words}
use Rattle.layout.proofs.Sessions.{session_of_fit_words}
use Rattle.session.specs.Answers.{AnswersAs, started, out_after}
use Rattle.session.specs.declared.Moved.{Moved}
use Rattle.session.specs.declared.Answer.{Answer}
use Rattle.run.specs.Lent.{words_after, Gives, StartDue, AdvanceDue, Starts, Advances}
use Rattle.run.specs.Lent as lent

module _ (tb ws bs : List ℕ) where
  same_table : (f g : FitTableWords tb) → f.table ≡ g.table
  same_table f g = table_of_fit_words tb f ∙ sym (table_of_fit_words tb g)

  pub start-once : (o p : calls.Answer) → StartDue tb ws bs o → StartDue tb ws bs p → o ≡ p
  start-once o p (lent.StartDue.short n) (lent.StartDue.short m) = refl
  start-once o p (lent.StartDue.short n) (lent.StartDue.unfit l m) = absurd (n l)
  start-once o p (lent.StartDue.short n) (lent.StartDue.runs l f) = absurd (n l)
  start-once o p (lent.StartDue.unfit l n) (lent.StartDue.short m) = absurd (m l)
  start-once o p (lent.StartDue.unfit l n) (lent.StartDue.unfit k m) = refl
  start-once o p (lent.StartDue.unfit l n) (lent.StartDue.runs k f) = absurd (n f)
  start-once o p (lent.StartDue.runs l f) (lent.StartDue.short m) = absurd (m l)
  start-once o p (lent.StartDue.runs l f) (lent.StartDue.unfit k m) = absurd (m f)
  start-once o p (lent.StartDue.runs l f) (lent.StartDue.runs k g) =
      ap (λ (t : Table). start (runners t) t.initial) (same_table f g)

  pub advance-once : (stop : ℕ) (o p : calls.Answer) → AdvanceDue tb ws bs stop o → AdvanceDue tb ws bs stop p → o ≡ p
  advance-once stop o p (lent.AdvanceDue.short n) (lent.AdvanceDue.short m) = refl
  advance-once stop o p (lent.AdvanceDue.short n) (lent.AdvanceDue.late l g) = absurd (n l)
  advance-once stop o p (lent.AdvanceDue.short n) (lent.AdvanceDue.unfit l g m) = absurd (n l)
  advance-once stop o p (lent.AdvanceDue.short n) (lent.AdvanceDue.unfit_session l g f m) = absurd (n l)
  advance-once stop o p (lent.AdvanceDue.short n) (lent.AdvanceDue.runs l g f s) = absurd (n l)
  advance-once stop o p (lent.AdvanceDue.late k h) (lent.AdvanceDue.short m) = absurd (m k)
  advance-once stop o p (lent.AdvanceDue.late k h) (lent.AdvanceDue.late l g) = refl
  advance-once stop o p (lent.AdvanceDue.late k h) (lent.AdvanceDue.unfit l g m) = absurd (omega arith)
  advance-once stop o p (lent.AdvanceDue.late k h) (lent.AdvanceDue.unfit_session l g f m) = absurd (omega arith)
  advance-once stop o p (lent.AdvanceDue.late k h) (lent.AdvanceDue.runs l g f s) = absurd (omega arith)
  advance-once stop o p (lent.AdvanceDue.unfit k h n) (lent.AdvanceDue.short m) = absurd (m k)
  advance-once stop o p (lent.AdvanceDue.unfit k h n) (lent.AdvanceDue.late l g) = absurd (omega arith)
  advance-once stop o p (lent.AdvanceDue.unfit k h n) (lent.AdvanceDue.unfit l g m) = refl
  advance-once stop o p (lent.AdvanceDue.unfit k h n) (lent.AdvanceDue.unfit_session l g f m) = absurd (n f)
  advance-once stop o p (lent.AdvanceDue.unfit k h n) (lent.AdvanceDue.runs l g f s) = absurd (n f)
  advance-once stop o p (lent.AdvanceDue.unfit_session k h e n) (lent.AdvanceDue.short m) = absurd (m k)
  advance-once stop o p (lent.AdvanceDue.unfit_session k h e n) (lent.AdvanceDue.late l g) = absurd (omega arith)
  advance-once stop o p (lent.AdvanceDue.unfit_session k h e n) (lent.AdvanceDue.unfit l g m) = absurd (m e)
  advance-once stop o p (lent.AdvanceDue.unfit_session k h e n) (lent.AdvanceDue.unfit_session l g f m) = refl
  advance-once stop o p (lent.AdvanceDue.unfit_session k h e n) (lent.AdvanceDue.runs l g f s) =
      absurd (n (subst (λ t. FitSessionWords t ws) (same_table f e) s))
  advance-once stop o p (lent.AdvanceDue.runs k h e u) (lent.AdvanceDue.short m) = absurd (m k)
  advance-once stop o p (lent.AdvanceDue.runs k h e u) (lent.AdvanceDue.late l g) = absurd (omega arith)
  advance-once stop o p (lent.AdvanceDue.runs k h e u) (lent.AdvanceDue.unfit l g m) = absurd (m e)
  advance-once stop o p (lent.AdvanceDue.runs k h e u) (lent.AdvanceDue.unfit_session l g f m) =
      absurd (m (subst (λ t. FitSessionWords t ws) (same_table e f) u))
  advance-once stop o p (lent.AdvanceDue.runs k h e u) (lent.AdvanceDue.runs l g f s) =
      ap (λ (t : Table). advance (runners t) stop u.session) (same_table e f)
      ∙ ap (λ (x : Session). advance (runners f.table) stop x)
      (session_of_fit_words e.table ws e.fit.few_signals u ∙ sym (session_of_fit_words f.table ws f.fit.few_signals s))

-- no second answer fits: a number is that of one reason
pub one-answer : (o : calls.Answer) (r q : Result Answer Reason) → AnswersAs o r → AnswersAs o q → r ≡ q
one-answer (refused number) (Err a) (Err b) e d = ap Err (one_reason a b (e ∙ sym d))
one-answer (refused number) (Ok a) q e d = absurd e
one-answer (refused number) (Err a) (Ok b) e d = absurd d
one-answer quiet r q e d = e ∙ sym d
one-answer stop_reached r q e d = e ∙ sym d
one-answer (moved m) r q e d = e ∙ sym d

-- the theorems: what a call answers, and every word and byte that it leaves
pub record Same (r q : Result Answer Reason) (ws vs bs cs : List ℕ) : Type 0 where
  pub answer : r ≡ q
  pub session : ws ≡ vs
  pub bytes : bs ≡ cs

same : (o p : calls.Answer) (e : o ≡ p) (before out : List ℕ) (r q : Result Answer Reason) (us vs cs ds : List ℕ) → Gives o before out r us cs → Gives p before out q vs ds
    → Same r q us vs cs ds
same o p e before out r q us vs cs ds a b =
    record {
      answer = one-answer o r q a.answers (subst (λ p. AnswersAs p q) (sym e) b.answers);
      session = a.session ∙ ap (λ o. words_after o before) e ∙ sym b.session;
      bytes = a.bytes ∙ ap (λ o. out_after o out) e ∙ sym b.bytes;
    }

pub one_start : (tb ws bs : List ℕ) (r q : Result Answer Reason) (us vs cs ds : List ℕ) → Starts tb ws bs r us cs → Starts tb ws bs q vs ds → Same r q us vs cs ds
one_start tb ws bs r q us vs cs ds a b =
    same a.says b.says (start-once tb ws bs a.says b.says a.due b.due) ws bs r q us vs cs ds a.gives b.gives

pub one_advance : (tb ws bs : List ℕ) (stop : ℕ) (r q : Result Answer Reason) (us vs cs ds : List ℕ) → Advances tb ws bs stop r us cs → Advances tb ws bs stop q vs ds
    → Same r q us vs cs ds
one_advance tb ws bs stop r q us vs cs ds a b =
    same a.says b.says (advance-once tb ws bs stop a.says b.says a.due b.due) ws bs r q us vs cs ds a.gives b.gives

-- what a start answers is one value too: no two of its answers are the same among those of an advance
pub one_started : (r q : Result Moved Reason) → started r ≡ started q → r ≡ q
one_started (Ok a) (Ok b) e = cc
one_started (Ok a) (Err b) e = absurd (cc e)
one_started (Err a) (Ok b) e = absurd (cc e)
one_started (Err a) (Err b) e = cc
