-- `fitness::drivers::alone` meets its contract: where the drivers are known, there is one for each signal.
-- Assumes nothing.
use Rattle.layout.proofs.Tables.{decode_table}
use Rattle.fitness.specs.Inside.Parts.{processes, instructions}
use Rattle.fitness.proofs.Owners.{alone-known}
use Rattle.fitness.proofs.drivers.alone.Goals as goal

pub returns : goal.returns
returns c =
    let w = c.args.words.now in
    alone-known (decode_table w) (processes w) (instructions w) c.requires.rows c.owners.result c.is_some.result c.is_some.ensures c.owners.ensures
