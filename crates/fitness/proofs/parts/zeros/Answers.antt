-- `fitness::parts::zeros` meets its contract: the words before are gathered.
-- Assumes nothing.
use Prim.Native.Nat.{◌+◌, ◌-◌}
use mathlib.Core.Path.{◌≡◌}
use native.Mathlib.Omega.{arith}
use Rattle.fitness.proofs.Ranges.{gather_more}
use Rattle.fitness.proofs.Spans.{at_part}
use Rattle.fitness.proofs.parts.zeros.Goals as goal

pub loop-word-preserved : goal.loop-word-preserved
loop-word-preserved c =
    let w = c.args.words.now in
    let j = c.args.from + c.loop-word.word-index in
    let e : c.args.from + (c.loop-word.word-index + 1) ≡ j + 1 = omega arith in
    rw (at_part w c.args.from (c.args.upto - c.args.from) (omega arith) c.loop-word.word-index 0 (omega arith), e)
    (gather_more w c.args.from j c.loop-word.all c.loop-word.invariant)
