-- `fitness::drivers::owners` meets its contract: the instructions of the processes below p are done.
-- Assumes nothing.
use mathlib.Core.Path.{◌≡◌, refl, sym, ap, subst, ◌∙◌}
use native.Mathlib.Omega.{arith}
use Rattle.table.specs.Table.{begins}
use Rattle.layout.proofs.Tables.{decode_table}
use Rattle.fitness.specs.Inside.Parts.{processes, instructions}
use Rattle.fitness.specs.Inside.Drivers.{Owned}
use Rattle.fitness.proofs.Reading.{begins-word, begins_next}
use Rattle.fitness.proofs.Owners.{own-none}
use Rattle.fitness.proofs.drivers.owners.Goals as goal

pub loop-p-init : goal.loop-p-init
loop-p-init c = (refl, own-none (decode_table c.args.words.now) (processes c.args.words.now))

pub drives-requires-clause-upto_value : goal.drives-requires-clause-upto_value
drives-requires-clause-upto_value c = sym (begins-word c.args.words.now c.loop-p.p c.loop-p-test.true)

pub loop-p-preserved : goal.loop-p-preserved
loop-p-preserved c = (begins_next c.args.words.now c.loop-p.p c.loop-p-test.true, c.drives.ensures.holds c.if-not-drives.false)

pub returns : goal.returns
returns c =
    let q : c.loop-p.p ≡ processes c.args.words.now = omega arith in
    let e : c.loop-p.from ≡ instructions c.args.words.now = c.loop-p.invariant.0 ∙ ap (begins (decode_table c.args.words.now)) q ∙ c.requires.rows.cover in
    subst (λ x. Owned (decode_table c.args.words.now) (processes c.args.words.now) x c.loop-p.own) e c.loop-p.invariant.1
