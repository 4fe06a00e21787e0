-- `writing::lines` meets its contract: the lines of the first k signals are written. Assumes nothing.
use native.Mathlib.Omega.{arith}
use Rattle.writing.proofs.Rows.{lines_first, lines_more, lines-place}
use Rattle.writing.proofs.lines.Goals as goal

pub loop-k-init : goal.loop-k-init
loop-k-init c = lines_first c.args.out.now c.args.at c.args.cells.now

pub line-place-requires-clause-at_in_bounds : goal.line-place-requires-clause-at_in_bounds
line-place-requires-clause-at_in_bounds c =
    let l = c.loop-k in
    omega (arith, lines-place c.args.out.now c.args.at c.args.cells.now l.k l.place l.out l.invariant, c.requires.fit_for.few)

pub loop-k-preserved : goal.loop-k-preserved
loop-k-preserved c =
    let l = c.loop-k in
    lines_more c.args.out.now c.args.at c.args.cells.now l.k l.place c.line-place.result l.out c.line-place.new.out l.invariant c.line-place.ensures
