-- `words::integer::amount_of` meets its contract: the value so far, with the digits that are left, has the value of the whole run.
-- Assumes nothing.
use Rattle.std.proofs.Common.{rules, ◌+◌}
use Rattle.words.proofs.Integers.{value_on, value_large, value-small}
use Rattle.words.proofs.integer.amount_of.Goals as goal

pub returns-then-sum-gt-LONGEST : goal.returns-then-sum-gt-LONGEST
returns-then-sum-gt-LONGEST c = value_large c.args.run.now _ (c.loop-byte.byte-index + 1) (value_on c.args.run.now c.loop-byte.sum c.loop-byte.byte-index c.loop-byte.invariant.0 c.loop-byte-test.true _ c.digit.ensures.0) c.if-sum-gt-LONGEST.true

pub loop-byte-preserved : goal.loop-byte-preserved
loop-byte-preserved c = (value_on c.args.run.now c.loop-byte.sum c.loop-byte.byte-index c.loop-byte.invariant.0 c.loop-byte-test.true _ c.digit.ensures.0, search rules)

pub returns : goal.returns
returns c = value-small c.args.run.now c.loop-byte.sum c.loop-byte.byte-index c.loop-byte.invariant.0 c.loop-byte-test.false c.loop-byte.invariant.1
