-- `heading::lines` meets its contract: one after the other.
-- Assumes nothing.
use mathlib.Core.Path.{refl}
use native.Mathlib.Omega.{arith}
use lib.ListN.{length}
use Rattle.look.specs.Inside.Looks.{name_at}
use Rattle.heading.proofs.Rows.{names_first, onward_first, onward_more, onward_last, line_fits}
use Rattle.heading.proofs.lines.Goals as goal

pub loop-k-init : goal.loop-k-init
loop-k-init c = (onward_first c.args.text.now c.args.ledger.now c.args.count c.args.out.now c.args.at, rw (names_first c.args.text.now c.args.ledger.now c.args.count) c.requires.count_in_bounds, refl)

pub overflow_mul-from : goal.overflow_mul-from
overflow_mul-from c = omega (arith, c.requires.shelf.1)

pub overflow_add-from : goal.overflow_add-from
overflow_add-from c = omega (arith, c.requires.shelf.1)

pub overflow_mul-to : goal.overflow_mul-to
overflow_mul-to c = omega (arith, c.requires.shelf.1)

pub overflow_add-to : goal.overflow_add-to
overflow_add-to c = omega (arith, c.requires.shelf.1)

pub overflow_add-to-in-loop-k : goal.overflow_add-to-in-loop-k
overflow_add-to-in-loop-k c = omega (arith, c.requires.shelf.1)

pub overflow_cast-k : goal.overflow_cast-k
overflow_cast-k c = omega (arith, c.requires.shelf.1)

pub line-place-requires : goal.line-place-requires
unfolding name_at
line-place-requires c = record { k_bound = omega (arith, c.requires.shelf.1); end_in_bounds = omega (arith, line_fits c.args.text.now c.args.ledger.now c.args.count c.loop-k.place c.loop-k.k (length c.loop-k.out) c.loop-k-test.true c.loop-k.invariant.1) }

pub loop-k-preserved : goal.loop-k-preserved
unfolding name_at
loop-k-preserved c = (
  onward_more c.args.text.now c.args.ledger.now c.args.count c.args.out.now c.args.at c.loop-k.k c.loop-k-test.true c.line-place.ensures c.loop-k.invariant.0,
  omega (arith, line_fits c.args.text.now c.args.ledger.now c.args.count c.loop-k.place c.loop-k.k (length c.loop-k.out) c.loop-k-test.true c.loop-k.invariant.1, c.line-place.ensures.end, c.out-1.given),
  omega (arith, c.out-1.given, c.loop-k.invariant.2),
)

pub shape_of-out : goal.shape_of-out
shape_of-out c = c.loop-k.invariant.2

pub returns : goal.returns
returns c = onward_last c.args.text.now c.args.ledger.now c.args.count c.args.out.now c.args.at c.loop-k.k c.loop-k-test.false c.loop-k.invariant.0
