-- `writing::chosen_lines` meets its contract: the lines of the chosen among the first signals are written. Assumes nothing.
use Rattle.writing.proofs.Choosing.{Chosen}
use Rattle.writing.proofs.chosen_lines.Given as goal

abbrev pub invariant-loop-signal : goal.invariant-loop-signal
invariant-loop-signal l = Chosen l.word l.cells l.initial.out l.at l.out l.place l.signal-iterator.0
