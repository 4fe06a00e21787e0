-- `cells::earlier` meets its contract: the signal has no change, or a first one. Assumes nothing.
use Rattle.cells.proofs.Nearest.{seen_none, seen_some}
use Rattle.cells.proofs.earlier.Goals as goal

pub returns-then-cells-top-eq0 : goal.returns-then-cells-top-eq0
returns-then-cells-top-eq0 c = seen_none c.args.cells.now c.args.signal _ _ c.requires.fit c.requires.signal_bound c.requires.seen c.if-cells-top-eq0.true

pub returns : goal.returns
returns c = seen_some c.args.cells.now c.args.signal _ _ c.requires.fit c.requires.signal_bound c.requires.seen c.if-cells-top-eq0.false c.args.bit c.nearer.result c.requires.bit_value c.nearer.ensures
