-- `fitness::drivers::drives` meets its contract: the instructions below x are done.
-- Assumes nothing.
use Rattle.layout.proofs.Tables.{decode_table}
use Rattle.fitness.specs.Inside.Parts.{processes}
use Rattle.fitness.specs.Inside.Drivers.{Owned}
use Rattle.fitness.proofs.drivers.drives.Given as goal

abbrev pub invariant-loop-x : goal.invariant-loop-x
invariant-loop-x l = Owned (decode_table l.words) (processes l.words) l.x l.own
