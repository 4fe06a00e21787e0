-- `lexis::run::single_underscores` meets its contract: what is left of the run has single underscores just where the run has.
-- Assumes nothing.
use Rattle.std.proofs.Common.{◌≡◌, false, drop}
use Rattle.lexis.specs.Run.{singles}
use Rattle.lexis.proofs.run.single_underscores.Given as goal

abbrev pub invariant-loop-byte : goal.invariant-loop-byte
invariant-loop-byte l = singles l.after (drop l.byte-index l.run) ≡ singles false l.run
