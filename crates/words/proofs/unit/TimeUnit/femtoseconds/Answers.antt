-- `words::unit::TimeUnit::femtoseconds` meets its contract: an amount is short enough just where it is at most the longest over the unit.
-- Assumes nothing.
use native.Mathlib.Omega.{arith}
use Rattle.words.proofs.Units.{short, delay-short, delay-long}
use Rattle.words.proofs.unit.TimeUnit.femtoseconds.Goals as goal

pub overflow_mul-result : goal.overflow_mul-result
overflow_mul-result c = omega (arith, short c.args.self c.args.amount c.size-size.result c.size-size.ensures.0 c.size-size.ensures.1 c.if-amount-size.true)

pub returns-then-amount-size : goal.returns-then-amount-size
returns-then-amount-size c = delay-short c.args.self c.args.amount c.size-size.result c.size-size.ensures.0 c.size-size.ensures.1 c.if-amount-size.true

pub returns-else-amount-size : goal.returns-else-amount-size
returns-else-amount-size c = delay-long c.args.self c.args.amount c.size-size.result c.size-size.ensures.0 c.size-size.ensures.1 c.if-amount-size.false
