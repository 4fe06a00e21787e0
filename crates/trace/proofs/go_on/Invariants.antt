-- `trace::go_on`: at each turn the cells are fit, and the buffer of a call is long enough.
use Rattle.std.proofs.Common.{◌≤◌, length}
use Rattle.cells.specs.Cells.{FitFor}
use Rattle.machine.specs.Inside.Steps.{signals_of}
use Rattle.trace.proofs.go_on.Given as goal

abbrev pub invariant-loop : goal.invariant-loop
invariant-loop g l = FitFor (signals_of l.machine.table.now) l.cells × (4096 ≤ length l.out)
