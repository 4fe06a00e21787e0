-- `compassnail::compassnail_start` meets its contract: the start's answer, as a number.
-- Assumes nothing.
use Rattle.compassnail.specs.Codes.{StartsInC}
use Rattle.compassnail.proofs.Numbers.{mapped, start_small, in_c_start}
use Rattle.compassnail.proofs.compassnail_start.Goals as goal

pub returns-then-report-lt3 : goal.returns-then-report-lt3
returns-then-report-lt3 c = rw c.number.ensures (StartsInC.short c.if-report-lt3.true)

pub told-requires-clause-small : goal.told-requires-clause-small
told-requires-clause-small c = rw (mapped c.start.result c.map-answer.result c.map-answer.ensures.cases) (start_small c.start.ensures)

pub returns : goal.returns
returns c =
    let e = mapped c.start.result c.map-answer.result c.map-answer.ensures.cases in
    in_c_start _ _ _ _ _ _ _ _ _ c.if-report-lt3.false (rw e at c.told.ensures.value) (rw e at c.told.ensures.report_after) c.start.ensures
