-- `cells::cut` meets its contract: from n on all changes come at t or later, and are gone. Assumes nothing.
use Rattle.cells.proofs.Cutting.{Cutting}
use Rattle.cells.proofs.cut.Given as goal

abbrev pub invariant-loop-n : goal.invariant-loop-n
invariant-loop-n l = Cutting l.initial.cells l.base l.count l.t l.n l.cells
