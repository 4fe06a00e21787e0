-- `lexis::blank::skip` meets its contract: what is skipped from i on ends where all that is skipped ends.
-- Assumes nothing.
use Rattle.std.proofs.Common.{arith, ap, ◌∙◌}
use Rattle.laws.proofs.Lists.{rest}
use Rattle.lexis.specs.Blank.{dashes_of}
use Rattle.lexis.proofs.Walks.{skip_on, skip_stop, skip-refused, skip_end}
use Rattle.lexis.proofs.blank.skip.Goals as goal

pub loop-i-preserved : goal.loop-i-preserved
loop-i-preserved c = skip_on c.args.text.now c.loop-i.i c.loop-i-test.true c.class_of-class.result c.class_of-class.ensures
    c.loop-i.inside c.dashes-begins.result (c.dashes-begins.ensures ∙ ap dashes_of (rest c.args.text.now c.loop-i.i)) c.step_of.result c.step_of.ensures
    c.in-Pass.comment c.in-Pass.is ∙ c.loop-i.invariant

pub returns-in-Stop : goal.returns-in-Stop
returns-in-Stop c = skip_stop c.args.text.now c.loop-i.i c.loop-i-test.true c.class_of-class.result c.class_of-class.ensures
    c.loop-i.inside c.dashes-begins.result (c.dashes-begins.ensures ∙ ap dashes_of (rest c.args.text.now c.loop-i.i)) c.step_of.result c.step_of.ensures
    c.in-Stop.is ∙ c.loop-i.invariant

pub returns-in-Refuse : goal.returns-in-Refuse
returns-in-Refuse c = skip-refused c.args.text.now c.loop-i.i c.loop-i-test.true c.class_of-class.result c.class_of-class.ensures
    c.loop-i.inside c.dashes-begins.result (c.dashes-begins.ensures ∙ ap dashes_of (rest c.args.text.now c.loop-i.i)) c.step_of.result c.step_of.ensures
    c.in-Refuse.is ∙ c.loop-i.invariant

pub returns : goal.returns
returns c = skip_end c.args.text.now c.loop-i.i c.loop-i-test.false c.loop-i.inside (omega arith) ∙ c.loop-i.invariant
