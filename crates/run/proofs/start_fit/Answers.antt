-- `run::start_fit` meets its contract: the start on cells, which are stored where it moved. Assumes nothing.
use mathlib.Core.Path.{◌≡◌, refl}
use borrow.Author.Rules.{rules}
use Rattle.std.specs.Prelude.{Err}
use Rattle.machine.proofs.Relaying.{unrelayed}
use Rattle.machine.proofs.Running.{planned_empty}
use Rattle.run.proofs.Giving.{gives_moved, gives-refused, for_table}
use Rattle.run.proofs.start_fit.Goals as goal

pub begin-requires-clause-works : goal.begin-requires-clause-works
begin-requires-clause-works c = record { table = c.requires.fit_table_words; planned = planned_empty c.args.table.now; relayed = unrelayed c.args.table.now }

pub returns-in_err-moved : goal.returns-in_err-moved
returns-in_err-moved c = λ f.
    let e : c.from_residual.result ≡ Err c.in_err-moved.field-0.0 = search rules in
    rw e (for_table c.args.table.now f _ _ _ _ _ (gives-refused _ _ _ _ _ _ _ c.in_err-moved.field-0.0 (rw c.in_err-moved.was at c.begin.ensures)))

pub returns : goal.returns
returns c = λ f. for_table c.args.table.now f _ _ _ _ _ (gives_moved _ _ _ _ _ _ _ c.in_ok-moved.moved _ _ refl c.store.ensures (rw c.in_ok-moved.was at c.begin.ensures))
