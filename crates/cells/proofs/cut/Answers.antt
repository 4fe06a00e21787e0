-- `cells::cut` meets its contract: from n on all changes come at t or later, and are gone. Assumes nothing.
use mathlib.Core.Path.{◌≡◌}
use Prim.Native.Nat.{◌+◌, ◌-◌}
use native.Mathlib.Omega.{arith}
use Rattle.cells.proofs.Cutting.{cutting_none, cutting_more, cut-found, cut-none}
use Rattle.cells.proofs.cut.Goals as goal

pub loop-n-init : goal.loop-n-init
loop-n-init c = cutting_none _ _ _ _ c.requires.cells_len

pub returns-then-cells-at : goal.returns-then-cells-at
returns-then-cells-at c =
    let a = c.args in
    let same : c.loop-n.n - 1 + 1 ≡ c.loop-n.n = omega arith in
    rw same (cut-found a.cells.now a.base a.count a.t c.loop-n.n c.loop-n.cells c.loop-n.invariant (omega arith) c.requires.by_index c.if-cells-at.true)

pub loop-n-preserved : goal.loop-n-preserved
loop-n-preserved c =
    let a = c.args in
    cutting_more a.cells.now a.base a.count a.t c.loop-n.n c.loop-n.cells c.loop-n.invariant (omega arith) c.requires.count_bound (omega arith)

pub returns : goal.returns
returns c =
    let a = c.args in
    let none : c.loop-n.n ≡ 0 = omega arith in
    rw none at (cut-none a.cells.now a.base a.count a.t c.loop-n.n c.loop-n.cells c.loop-n.invariant none)
