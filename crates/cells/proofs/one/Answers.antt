-- `cells::one` meets its contract: no bit is lost. Assumes nothing.
use Rattle.cells.proofs.Words.{one_fits}
use Rattle.cells.proofs.one.Goals as goal

pub returns : goal.returns
returns c = one_fits c.args.k c.requires
