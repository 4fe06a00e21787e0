-- `program::stop_words` meets its contract: no stop that words say is too late.
-- Assumes nothing.
use Rattle.program.proofs.Stops.{said_in_time}
use Rattle.program.proofs.stop_words.Goals as goal

pub returns : goal.returns
returns g c = said_in_time _ _ _ c.stop_of.ensures
