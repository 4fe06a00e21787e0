-- `dump::run` meets its contract: the table of an accepted text is fit.
-- Assumes nothing.
use Rattle.demands_code.proofs.Demand3.{demand_3}
use Rattle.dump.proofs.run.Goals as goal

pub play-requires-clause-fit_table_words : goal.play-requires-clause-fit_table_words
play-requires-clause-fit_table_words g c = (demand_3 _ _ _ c.in-Ok.ensures).1.fit
