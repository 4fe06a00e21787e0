-- `run::store` meets its contract: count and time, and the cells behind them. Assumes nothing.
use Rattle.run.proofs.Copying.{stored}
use Rattle.run.proofs.store.Goals as goal

pub returns : goal.returns
returns c = stored c.args.words.now c.args.count c.args.time c.args.cells.now c.copy_from_slice.new.self c.copy_from_slice.ensures.after c.requires.cells_len c.requires.in_bounds
