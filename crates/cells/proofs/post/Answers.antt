-- `cells::post` meets its contract: what is left after the cut, and the new change behind it. Assumes nothing.
use Prim.Native.Nat.{◌+◌, ◌*◌}
use native.Mathlib.Omega.{arith}
use Rattle.cells.specs.Cells.{count_of, truth}
use Rattle.cells.proofs.Posting.{rising-cells, post-refused, post-done}
use Rattle.cells.proofs.post.Goals as goal

pub cut-m-requires : goal.cut-m-requires
cut-m-requires c = let k = c.args.signal in let cs = c.args.cells.now in record { cells_len = c.requires.fit.long; count_bound = omega (arith, c.requires.fit.few k c.requires.signal_bound); by_index = rising-cells cs (128 + k * 16) (count_of cs k) (c.requires.fit.rising k c.requires.signal_bound) }

pub returns-then-m-ge16-clause-posted : goal.returns-then-m-ge16-clause-posted
returns-then-m-ge16-clause-posted c =
    post-refused c.args.cells.now c.args.signal c.args.time c.cut-m.result c.cut-m.new.cells c.requires.fit c.requires.signal_bound
    c.cut-m.ensures (truth c.args.value) c.if-m-ge16.true

pub returns-clause-posted : goal.returns-clause-posted
returns-clause-posted c =
    post-done c.args.cells.now c.args.signal c.args.time c.cut-m.result c.cut-m.new.cells c.requires.fit c.requires.signal_bound
    c.cut-m.ensures c.args.value c.requires.value_bound c.if-m-ge16.false
