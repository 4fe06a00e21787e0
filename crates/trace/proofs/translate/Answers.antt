-- `trace::translate` meets its contract: the table of an accepted text is fit.
-- Assumes nothing.
use Rattle.demands_code.proofs.Demand3.{demand_3}
use Rattle.trace.proofs.translate.Goals as goal

pub run-requires-clause-fit_table_words : goal.run-requires-clause-fit_table_words
run-requires-clause-fit_table_words g c = (demand_3 _ _ _ c.in-Ok.ensures).1.fit
