-- `fitness::heights::put` meets its contract: by what stood there.
-- Assumes nothing.
use borrow.Author.Tests.{eqb-true, eqb-false}
use Rattle.fitness.proofs.Passes.{put-new, put_old}
use Rattle.fitness.proofs.heights.put.Goals as goal

pub returns-then-old-eq0 : goal.returns-then-old-eq0
returns-then-old-eq0 c = put-new c.args.hs.now c.args.j c.args.h c.requires c.if-old-eq0.true

pub returns : goal.returns
returns c = put_old c.args.hs.now c.args.j c.args.h _ c.if-old-eq0.false (eqb-true _ _) (eqb-false _ _)
