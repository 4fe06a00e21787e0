-- `expressions::signal` meets its contract.
-- Assumes nothing.
use mathlib.Core.Path.{refl}
use native.Mathlib.Omega.{arith}
use Rattle.reading.proofs.Generic.{span}
use Rattle.expressions.proofs.Expressions.{primary-name}
use Rattle.expressions.proofs.signal.Goals as goal

pub read_signal-k-requires : goal.read_signal-k-requires
read_signal-k-requires c = record { sound = c.requires.0.sound refl; span = span c.requires.0.inside c.requires.1 (λ z. omega (arith, c.requires.2, z)) }

pub returns : goal.returns
returns c = λ room. primary-name c.requires.0.inside refl c.requires.1 c.requires.2 c.read_signal-k.ensures.judges c.read_signal-k.ensures.numbers c.emit-next.ensures.0 c.emit-next.ensures.1
