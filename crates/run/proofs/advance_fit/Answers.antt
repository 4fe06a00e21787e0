-- `run::advance_fit` meets its contract: the advance on loaded cells, which are stored where it moved. Assumes nothing.
use mathlib.Core.Path.{◌≡◌, refl, ap, ◌∙◌}
use borrow.Author.Rules.{rules}
use Rattle.std.specs.Prelude.{Ok, Err}
use Rattle.machine.proofs.Relaying.{unrelayed}
use Rattle.machine.proofs.Running.{planned_empty}
use Rattle.session.specs.declared.Answer.TheVariants.{Moved as Moves}
use Rattle.run.proofs.Giving.{gives_moved, gives-refused, gives-still, loaded_fit, its_time, for_session}
use Rattle.run.proofs.advance_fit.Goals as goal

pub forward-requires-clause-fit_for : goal.forward-requires-clause-fit_for
forward-requires-clause-fit_for c = loaded_fit c.args.table.now c.args.words.now c.requires.fit_table_words c.requires.fit_session_words c.load-cells.result c.load-cells.ensures

pub forward-requires-clause-works : goal.forward-requires-clause-works
forward-requires-clause-works c = record { table = c.requires.fit_table_words; planned = planned_empty c.args.table.now; relayed = unrelayed c.args.table.now }

pub returns-in_err-answer : goal.returns-in_err-answer
returns-in_err-answer c = λ f s.
    let time = its_time c.args.table.now c.args.words.now c.requires.fit_table_words c.requires.fit_session_words c.load-cells.result c.load-cells.ensures in
    let e : c.from_residual.result ≡ Err c.in_err-answer.field-0.0 = search rules in
    rw e (for_session c.args.table.now c.args.words.now c.requires.fit_table_words c.requires.fit_session_words c.load-cells.result c.load-cells.ensures f s c.args.stop _ _ _ _
    (gives-refused _ _ _ _ _ _ _ c.in_err-answer.field-0.0 (rw c.in_err-answer.was at (c.forward.ensures time))))

pub returns-in-Moved : goal.returns-in-Moved
returns-in-Moved c = λ f s.
    let time = its_time c.args.table.now c.args.words.now c.requires.fit_table_words c.requires.fit_session_words c.load-cells.result c.load-cells.ensures in
    let e : c.forward.result ≡ Ok (Moves c.in-Moved.moved) = c.in_ok-answer.was ∙ ap Ok c.in-Moved.is in
    for_session c.args.table.now c.args.words.now c.requires.fit_table_words c.requires.fit_session_words c.load-cells.result c.load-cells.ensures f s c.args.stop _ _ _ _
    (gives_moved _ _ _ _ _ _ _ c.in-Moved.moved _ _ refl c.store.ensures (rw e at (c.forward.ensures time)))

pub returns-in_default : goal.returns-in_default
returns-in_default c = λ f s.
    let time = its_time c.args.table.now c.args.words.now c.requires.fit_table_words c.requires.fit_session_words c.load-cells.result c.load-cells.ensures in
    for_session c.args.table.now c.args.words.now c.requires.fit_table_words c.requires.fit_session_words c.load-cells.result c.load-cells.ensures f s c.args.stop _ _ _ _
    (gives-still _ _ _ _ _ _ _ c.in_ok-answer.answer c.in_default.not-Moved (rw c.in_ok-answer.was at (c.forward.ensures time)))
