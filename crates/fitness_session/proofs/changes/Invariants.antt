-- `fitness_session::changes` meets its contract: the changes before rise to the last.
-- Assumes nothing.
use Rattle.fitness_session.proofs.Climbing.{Climbs}
use Rattle.fitness_session.proofs.changes.Given as goal

abbrev pub invariant-loop-word : goal.invariant-loop-word
invariant-loop-word l = Climbs l.words l.from l.word-index l.time l.last
