-- `fitness::drivers::owners` meets its contract: the instructions of the processes below p are done.
-- Assumes nothing.
use mathlib.Core.Path.{◌≡◌}
use Rattle.table.specs.Table.{begins}
use Rattle.layout.proofs.Tables.{decode_table}
use Rattle.fitness.specs.Inside.Parts.{processes}
use Rattle.fitness.specs.Inside.Drivers.{Owned}
use Rattle.fitness.proofs.drivers.owners.Given as goal

abbrev pub invariant-loop-p : goal.invariant-loop-p
invariant-loop-p l = (l.from ≡ begins (decode_table l.words) l.p) × Owned (decode_table l.words) (processes l.words) l.from l.own
