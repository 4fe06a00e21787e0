-- `expressions::literal` meets its contract.
-- Assumes nothing.
use mathlib.Core.Path.{refl}
use Rattle.expressions.proofs.Expressions.{primary-literal}
use Rattle.expressions.proofs.literal.Goals as goal

pub returns : goal.returns
returns c = λ text room inside look. primary-literal inside refl look c.requires.1 c.requires.2 (c.count.ensures text) c.requires.3 c.emit-next.ensures.0 c.emit-next.ensures.1
