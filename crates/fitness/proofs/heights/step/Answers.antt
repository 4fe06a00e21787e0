-- `fitness::heights::step` meets its contract: the heights where the instruction leads are put there.
-- Assumes nothing.
use mathlib.Core.Path.{ap}
use native.Mathlib.Omega.{arith}
use Rattle.fitness.proofs.Passes.{leaves-few, step-idle, step-short, step-high, step-clash, step-both, step-next, step-jump, goes_only}
use Rattle.fitness.specs.Inside.Kinds.{goes_on, jumps}
use Rattle.fitness.proofs.heights.step.Goals as goal

pub returns-then-h-eq0 : goal.returns-then-h-eq0
returns-then-h-eq0 c = step-idle c.args.hs.now c.args.kind c.args.about c.args.x c.if-h-eq0.true

pub returns-then-h-takes : goal.returns-then-h-takes
returns-then-h-takes c = step-short c.args.hs.now c.args.kind c.args.about c.args.x c.if-h-eq0.false (omega arith)

pub overflow_add-left : goal.overflow_add-left
overflow_add-left c = omega (arith, leaves-few c.args.kind)

pub returns-then-left-gt35 : goal.returns-then-left-gt35
returns-then-left-gt35 c = step-high c.args.hs.now c.args.kind c.args.about c.args.x (omega arith) (omega arith)

pub returns-then-put : goal.returns-then-put
returns-then-put c =
    step-both c.args.hs.now c.args.kind c.args.about c.args.x _ (omega arith) (omega arith) (omega arith) (ap goes_on c.in-Test.is) (ap jumps c.in-Test.is)
    c.put.new.hs c.put-then-put.new.hs _ _ c.if-put.true c.put.ensures c.put-then-put.ensures

pub returns-else-put : goal.returns-else-put
returns-else-put c =
    step-clash c.args.hs.now c.args.kind c.args.about c.args.x _ (omega arith) (omega arith) (omega arith) (ap goes_on c.in-Test.is)
    c.put.new.hs _ c.if-put.false c.put.ensures

pub returns-in-Skip : goal.returns-in-Skip
returns-in-Skip c =
    step-jump c.args.hs.now c.args.kind c.args.about c.args.x _ (omega arith) (omega arith) (omega arith) (ap jumps c.in-Skip.is) (ap goes_on c.in-Skip.is)
    c.put-in-Skip.new.hs _ c.put-in-Skip.ensures

pub returns-in_default : goal.returns-in_default
returns-in_default c =
    let g = goes_only c.args.kind c.in_default.not-Test c.in_default.not-Skip in
    step-next c.args.hs.now c.args.kind c.args.about c.args.x _ (omega arith) (omega arith) (omega arith) g.0 g.1
    c.put-in_default.new.hs _ c.put-in_default.ensures
