-- `run::start` meets its contract: 11, 13, then the run. Assumes nothing.
use Rattle.run.proofs.Answering.{starts_short, starts_unfit, starts_runs}
use Rattle.run.proofs.start.Goals as goal

pub returns-then-not-long_enough : goal.returns-then-not-long_enough
returns-then-not-long_enough c = starts_short _ _ _ (c.long_enough.ensures.fails c.if-not-long_enough.true)

pub returns-then-not-fit_table : goal.returns-then-not-fit_table
returns-then-not-fit_table c = starts_unfit _ _ _ (c.long_enough.ensures.holds c.if-not-long_enough.false) (c.fit_table.ensures.fails c.if-not-fit_table.true)

pub returns : goal.returns
returns c = let f = c.fit_table.ensures.holds c.if-not-fit_table.false in starts_runs _ _ _ _ _ _ (c.long_enough.ensures.holds c.if-not-long_enough.false) f (c.start_fit.ensures f)
