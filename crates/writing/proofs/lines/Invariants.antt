-- `writing::lines` meets its contract: the lines of the first k signals are written. Assumes nothing.
use Rattle.rules.specs.Dump.{all}
use Rattle.cells.specs.Cells.{values}
use Rattle.writing.specs.Inside.Written.{Writes}
use Rattle.writing.proofs.lines.Given as goal

abbrev pub invariant-loop-k : goal.invariant-loop-k
invariant-loop-k l = Writes l.initial.out l.at (all 0 (values l.k l.cells)) l.place l.out
