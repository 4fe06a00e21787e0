-- `fitness::parts::zeros` meets its contract: the words before are gathered.
-- Assumes nothing.
use Prim.Native.Nat.{◌+◌}
use Rattle.fitness.specs.Inside.Parts.{Gathered}
use Rattle.fitness.proofs.parts.zeros.Given as goal

abbrev pub invariant-loop-word : goal.invariant-loop-word
invariant-loop-word l = Gathered l.words l.from (l.from + l.word-index) l.all
