-- `reader::read` meets its contract: 11 first, then the text's own refusals, over one scratch word, then its table.
-- Assumes nothing.
use mathlib.Core.Path.{refl, subst}
use Rattle.std.proofs.lemmas.Result.{err_from_is_err_and}
use Rattle.reader.specs.Answers.{Answers}
use Rattle.reader.specs.Tabled.{short, turned}
use Rattle.reader.proofs.read.Goals as goal

pub returns-then-table-lt8387 : goal.returns-then-table-lt8387
returns-then-table-lt8387 c = rw c.into.ensures (short c.if-table-lt8387.true, refl)

pub tabulate-requires : goal.tabulate-requires
tabulate-requires c = record { answers = subst (Answers c.args.text.now) c.in_ok-check.was c.check.ensures; table_size_in_bounds = c.if-table-lt8387.false }

pub returns-in_err-check : goal.returns-in_err-check
returns-in_err-check c =
    let e = err_from_is_err_and c.from_residual.result c.from_residual.ensures.1 in
    rw (e.1, e.2) (turned c.if-table-lt8387.false c.in_err-check.ensures, refl)
