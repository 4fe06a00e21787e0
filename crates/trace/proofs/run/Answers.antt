-- `trace::run` meets its contract: the relays are listed in words that are all zero. Assumes nothing.
use Rattle.machine.proofs.Relaying.{unrelayed}
use Rattle.trace.proofs.run.Goals as goal

pub list_relays-requires-clause-relayed : goal.list_relays-requires-clause-relayed
list_relays-requires-clause-relayed g c = unrelayed c.args.table.now
