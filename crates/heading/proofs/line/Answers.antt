-- `heading::line` meets its contract: part by part.
-- Assumes nothing.
use native.Mathlib.Omega.{arith}
use Rattle.words.specs.Vocabulary.{lower}
use Rattle.heading.proofs.Rows.{line_written, variable-length, lower-length}
use Rattle.heading.proofs.line.Goals as goal

pub copy-a-requires : goal.copy-a-requires
copy-a-requires c = omega (arith, c.requires.end_in_bounds, variable-length c.args.k (lower c.args.name.now))

pub overflow_add-k : goal.overflow_add-k
overflow_add-k c = omega (arith, c.requires.k_bound)

pub copy-b-requires : goal.copy-b-requires
copy-b-requires c = omega (arith, c.requires.end_in_bounds, variable-length c.args.k (lower c.args.name.now), c.copy-a.ensures.end, c.out-1.given)

pub copy_name-c-requires : goal.copy_name-c-requires
copy_name-c-requires c = omega (arith, lower-length c.args.name.now, c.requires.end_in_bounds, variable-length c.args.k (lower c.args.name.now), c.copy-a.ensures.end, c.copy-b.ensures.end, c.out-1.given, c.out-2-1.given)

pub copy-requires : goal.copy-requires
copy-requires c = omega (arith, c.requires.end_in_bounds, variable-length c.args.k (lower c.args.name.now), c.copy-a.ensures.end, c.copy-b.ensures.end, c.copy_name-c.ensures.end, c.out-1.given, c.out-2-1.given, c.out-3-1.given)

pub shape_of-out : goal.shape_of-out
shape_of-out c = omega (arith, c.out-1.given, c.out-2-1.given, c.out-3-1.given, c.out-4-1.given)

pub returns : goal.returns
returns c = line_written c.args.k c.copy-a.ensures c.copy-b.ensures c.copy_name-c.ensures c.copy.ensures
