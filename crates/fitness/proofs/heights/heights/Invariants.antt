-- `fitness::heights::heights` meets its contract: the instructions below x are done, and their heights are those of the ways.
-- Assumes nothing.
use Rattle.layout.proofs.Tables.{decode_table}
use Rattle.fitness.proofs.Passes.{Done}
use Rattle.fitness.proofs.heights.heights.Given as goal

abbrev pub invariant-loop-x : goal.invariant-loop-x
invariant-loop-x l = Done (decode_table l.words).code l.from l.upto l.x l.hs
