-- `compassnail::compassnail_advance` meets its contract: the advance's answer, as a number.
-- Assumes nothing.
use borrow.Author.Rules.{rules}
use Rattle.compassnail.specs.Codes.{AdvancesInC}
use Rattle.compassnail.proofs.Numbers.{advance-small, in_c_advance}
use Rattle.compassnail.proofs.compassnail_advance.Goals as goal

pub returns-then-report-lt3 : goal.returns-then-report-lt3
returns-then-report-lt3 c = rw c.number.ensures (AdvancesInC.short c.if-report-lt3.true)

pub told-requires : goal.told-requires
told-requires c = record { small = advance-small c.advance-answer.ensures; in_bounds = search rules }

pub returns : goal.returns
returns c = in_c_advance _ _ _ _ _ _ _ _ _ c.if-report-lt3.false c.told.ensures.value c.told.ensures.report_after c.args.stop c.advance-answer.ensures
