-- `reader::tabulate` meets its contract: the second run over the text, over zeros.
-- Assumes nothing.
use mathlib.Core.Path.{refl}
use native.Mathlib.Omega.{arith}
use lib.ListN.{length-set}
use Rattle.reader.proofs.Tabling.{translated, read_again}
use Rattle.reader.proofs.tabulate.Goals as goal

pub design-requires : goal.design-requires
design-requires c = record { judgement = _; keeps = c.fresh-ledger.ensures c.args.text.now }

pub unwrap-q-requires : goal.unwrap-q-requires
unwrap-q-requires c = read_again c.requires.answers.1 c.design.result c.design.ensures (c.fresh-ledger.ensures c.args.text.now)

pub bounds-table-1 : goal.bounds-table-1
bounds-table-1 c = simp (length-set) (omega (arith, c.table-2-1.given, c.table-1.given, c.requires.table_size_in_bounds))

pub bounds-table-2 : goal.bounds-table-2
bounds-table-2 c = simp (length-set) (omega (arith, c.table-2-1.given, c.table-1.given, c.requires.table_size_in_bounds))

pub shape_of-table : goal.shape_of-table
shape_of-table c = simp (length-set) (omega (arith, c.table-2-1.given, c.table-1.given, c.requires.table_size_in_bounds))

pub returns : goal.returns
returns c = translated c.requires.answers.1 (rw c.unwrap-q.ensures at c.design.ensures) (c.fresh-ledger.ensures c.args.text.now) c.requires.table_size_in_bounds c.clear.ensures refl
