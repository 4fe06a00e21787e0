-- `writing::write_start` meets its contract: three texts, one behind the other. Assumes nothing.
use native.Mathlib.Omega.{arith}
use Rattle.rules.specs.Dump.{start_bytes, all}
use Rattle.cells.specs.Cells.{values}
use Rattle.writing.proofs.Buffers.{writes_both, writes-length}
use Rattle.writing.proofs.Rows.{lines-place}
use Rattle.writing.proofs.write_start.Goals as goal

pub lines-end-requires : goal.lines-end-requires
lines-end-requires c = record { at_in_bounds = omega (arith, c.copy-begin.ensures.end, writes-length c.args.out.now 0 _ c.copy-begin.result c.copy-begin.new.out c.copy-begin.ensures); fit_for = c.requires.fit_for }

pub copy-requires : goal.copy-requires
copy-requires c = omega (arith, c.copy-begin.ensures.end, writes-length c.args.out.now 0 _ c.copy-begin.result c.copy-begin.new.out c.copy-begin.ensures, lines-place c.copy-begin.new.out c.copy-begin.result c.args.cells.now c.args.count c.lines-end.result c.lines-end.new.out c.lines-end.ensures, writes-length c.copy-begin.new.out c.copy-begin.result (all 0 (values c.args.count c.args.cells.now)) c.lines-end.result c.lines-end.new.out c.lines-end.ensures, c.requires.fit_for.few)

pub returns : goal.returns
unfolding start_bytes
returns c = writes_both c.args.out.now 0 _ _ c.copy-begin.result c.copy.result c.copy-begin.new.out c.copy.new.out c.copy-begin.ensures
    (writes_both c.copy-begin.new.out c.copy-begin.result _ _ c.lines-end.result c.copy.result c.lines-end.new.out c.copy.new.out c.lines-end.ensures c.copy.ensures)
