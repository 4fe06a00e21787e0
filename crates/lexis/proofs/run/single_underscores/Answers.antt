-- `lexis::run::single_underscores` meets its contract: what is left of the run has single underscores just where the run has.
-- Assumes nothing.
use Rattle.std.proofs.Common.{◌∙◌}
use Rattle.lexis.proofs.Walks.{not_both, singles_on, singles-off, singles_end}
use Rattle.lexis.proofs.run.single_underscores.Goals as goal

pub returns-then-here : goal.returns-then-here
returns-then-here c = singles-off c.args.run.now c.loop-byte.byte-index c.loop-byte-test.true c.is_underscore-here.result c.is_underscore-here.ensures c.loop-byte.after (rw (c.if-after.true, c.if-here.true)) ∙ c.loop-byte.invariant

pub loop-byte-preserved : goal.loop-byte-preserved
loop-byte-preserved c = singles_on c.args.run.now c.loop-byte.byte-index c.loop-byte-test.true c.is_underscore-here.result c.is_underscore-here.ensures c.loop-byte.after (not_both _ _ c.else-after.either) ∙ c.loop-byte.invariant

pub returns : goal.returns
returns c = singles_end c.args.run.now c.loop-byte.byte-index c.loop-byte-test.false c.loop-byte.after ∙ c.loop-byte.invariant
