-- `trace::go_on` meets its contract: an advance that moved leaves cells that are fit.
-- Assumes nothing.
use mathlib.Core.Path.{ap, ◌∙◌}
use borrow.Author.Rules.{rules}
use Rattle.std.specs.Prelude.{Ok}
use Rattle.session.proofs.Goes.{moved_fit}
use Rattle.trace.proofs.go_on.Goals as goal

pub loop-preserved : goal.loop-preserved
loop-preserved g c = (moved_fit _ _ _ _ c.in-Ok-Moved.moved _ _ (rw (c.in-Ok-Moved.is ∙ ap Ok c.in-Ok-Moved.field-0-is) at (c.forward.ensures 0)), search rules)
