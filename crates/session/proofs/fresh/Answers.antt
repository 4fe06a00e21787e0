-- `session::fresh` meets its contract: the table's starting values, and zeros behind them. Assumes nothing.
use Rattle.session.proofs.Beginning.{fresh_copied}
use Rattle.session.proofs.fresh.Goals as goal

pub returns : goal.returns
returns c = fresh_copied c.args.table.now c.copy_from_slice.new.self c.requires c.copy_from_slice.ensures.after c.copy_from_slice.ensures.len
