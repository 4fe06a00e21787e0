-- `player::play` meets its contract: the relays are listed, and the plan is made, in words that are all zero.
-- Assumes nothing.
use Rattle.laws.proofs.Lists.{zero_at}
use Rattle.machine.proofs.Relaying.{unrelayed}
use Rattle.player.proofs.play.Goals as goal

pub list_relays-requires-clause-relayed : goal.list_relays-requires-clause-relayed
list_relays-requires-clause-relayed g c = unrelayed c.args.table.now

pub make-units-requires-clause-by_index : goal.make-units-requires-clause-by_index
make-units-requires-clause-by_index g c = zero_at 16384
