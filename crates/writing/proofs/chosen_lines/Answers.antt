-- `writing::chosen_lines` meets its contract: the lines of the chosen among the first signals are written. Assumes nothing.
use native.Mathlib.Omega.{arith}
use Rattle.writing.proofs.Choosing.{chosen_first, chosen-place, chosen_last, step, chosen_more}
use Rattle.writing.proofs.chosen_lines.Goals as goal

pub loop-signal-init : goal.loop-signal-init
loop-signal-init c = rw c.into_iter-signal-iterator.ensures.into_iter_gives (chosen_first c.args.word c.args.cells.now c.args.out.now c.args.at (omega arith))

pub line-place-requires-clause-at_in_bounds : goal.line-place-requires-clause-at_in_bounds
line-place-requires-clause-at_in_bounds c =
    let a = c.args in
    let l = c.loop-signal in
    let goes = c.in-Some.ensures.steps in
    omega (
      arith,
      chosen-place a.word a.cells.now a.out.now a.at l.out l.place l.signal-iterator.0 l.invariant goes,
      (step a.word a.cells.now a.out.now a.at l.out l.place l.signal-iterator.0 l.invariant goes).inside,
    )

pub loop-signal-preserved : goal.loop-signal-preserved
loop-signal-preserved c =
    let a = c.args in
    let l = c.loop-signal in
    chosen_more a.word a.cells.now a.out.now a.at l.out l.place l.signal-iterator.0 l.invariant c.in-Some.ensures.steps
    c.line-place.result c.line-place.new.out c.line-place.ensures

pub returns : goal.returns
returns c =
    let a = c.args in
    let l = c.loop-signal in
    chosen_last a.word a.cells.now a.out.now a.at l.out l.place l.signal-iterator.0 l.invariant c.in-None.ensures.steps
