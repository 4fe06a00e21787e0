-- `ledger::same_name` meets its contract.
-- Assumes nothing.
use Rattle.look.specs.Inside.Looks.{name_at}
use Rattle.ledger.proofs.same_name.Goals as goal

pub returns : goal.returns
unfolding name_at
returns c = c.same_word.ensures
