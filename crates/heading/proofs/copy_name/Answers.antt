-- `heading::copy_name` meets its contract: the first i bytes are copied.
-- Assumes nothing.
use mathlib.Core.Path.{refl, ap, ◌∙◌}
use native.Mathlib.Omega.{arith}
use native.Mathlib.Numerals.{add-one}
use lib.ListN.{length, take}
use lib.Seq.{sets, length-sets, take_all}
use Rattle.words.specs.Vocabulary.{lower}
use Rattle.heading.proofs.Rows.{lower_at, lower-length, copied_more}
use Rattle.heading.proofs.copy_name.Goals as goal

pub loop-i-init : goal.loop-i-init
loop-i-init c = (omega arith, refl)

pub loop-i-preserved : goal.loop-i-preserved
loop-i-preserved c = (
  omega arith,
  rw (add-one c.loop-i.i, c.lower.ensures, ← (lower_at c.args.name.now c.loop-i.i c.loop-i-test.true))
      (copied_more c.args.out.now c.args.at c.loop-i.i (lower c.args.name.now) c.loop-i.out (rw (lower-length c.args.name.now) c.loop-i-test.true) c.loop-i.invariant.1),
)

pub shape_of-out : goal.shape_of-out
shape_of-out c = ap length c.loop-i.invariant.1 ∙ length-sets c.args.out.now c.args.at (take c.loop-i.i (lower c.args.name.now))

pub returns : goal.returns
returns c =
    let e = take_all c.loop-i.i (lower c.args.name.now) (rw (lower-length c.args.name.now) c.loop-i-test.false) in
    record { bytes = c.loop-i.invariant.1 ∙ ap (sets c.args.out.now c.args.at) e; end = omega (arith, c.loop-i.invariant.0, c.loop-i-test.false, lower-length c.args.name.now) }
