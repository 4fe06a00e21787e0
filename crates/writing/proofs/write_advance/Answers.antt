-- `writing::write_advance` meets its contract: nothing where no value differs, else the time and the lines. Assumes nothing.
use Rattle.rules.specs.Dump as dump
use Rattle.cells.specs.Cells.{values}
use Rattle.writing.specs.Inside.Written.{chosen}
use Rattle.writing.proofs.Buffers.{writes_both, writes-none}
use Rattle.writing.proofs.Choosing.{nothing_written, advance-written}
use Rattle.writing.proofs.write_advance.Goals as goal

pub returns-then-changed-eq0 : goal.returns-then-changed-eq0
returns-then-changed-eq0 c = λ n before few d. rw (nothing_written n c.args.changed before c.args.cells.now few d c.args.time c.if-changed-eq0.true) (writes-none c.args.out.now 0)

pub returns : goal.returns
returns c = λ n before few d.
    let a = c.args in
    let lines = writes_both _ _ _ (chosen a.changed 0 (values 64 a.cells.now)) _ _ _ c.chosen_lines.new.out c.copy-begin.ensures c.chosen_lines.ensures in
    let times = writes_both _ _ (dump.decimal a.time) _ _ _ _ c.chosen_lines.new.out c.decimal-end.ensures.writes lines in
    rw (advance-written n a.changed before a.cells.now few d a.time c.if-changed-eq0.false)
    (writes_both a.out.now 0 _ _ _ c.chosen_lines.result _ c.chosen_lines.new.out c.copy-digits.ensures times)
