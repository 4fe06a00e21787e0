-- `ledger::fresh` meets its contract.
-- Assumes nothing.
use Rattle.ledger.proofs.Keeping.{fresh_keeps}
use Rattle.ledger.proofs.fresh.Goals as goal

pub returns : goal.returns
returns c = λ t. fresh_keeps t
