-- `cells::take` meets its contract: nothing is due, or the first change is. Assumes nothing.
use native.Mathlib.Omega.{arith}
use Rattle.cells.proofs.Taking.{took-none, took-later, took-done}
use Rattle.cells.proofs.take.Goals as goal

pub returns-then-count-eq0 : goal.returns-then-count-eq0
returns-then-count-eq0 c =
    took-none c.args.cells.now c.args.signal c.args.time c.requires.fit c.requires.signal_bound c.requires.reached c.if-count-eq0.true

pub returns-then-x-time : goal.returns-then-x-time
returns-then-x-time c =
    took-later c.args.cells.now c.args.signal c.args.time c.requires.fit c.requires.signal_bound c.requires.reached (omega arith) c.if-x-time.true

pub drop_first-requires : goal.drop_first-requires
drop_first-requires c = record { cells_len = c.requires.fit.long; base_bound = omega arith; by_index = λ i. c.requires.fit.unused c.args.signal i c.requires.signal_bound }

pub returns : goal.returns
returns c =
    took-done c.args.cells.now c.args.signal c.args.time c.requires.fit c.requires.signal_bound c.requires.reached c.drop_first.new.cells
    (omega arith) c.if-x-time.false c.drop_first.ensures
