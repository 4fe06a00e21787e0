-- `fitness::heights::sounds` meets its contract: the processes below p keep the rules, and nothing is known beyond.
-- Assumes nothing.
use mathlib.Core.Path.{refl, sym}
use native.Mathlib.Omega.{arith}
use Rattle.laws.proofs.Deciding.{decides_no}
use Rattle.layout.proofs.Tables.{decode_table}
use Rattle.fitness.proofs.Reading.{begins-word, begins_next, begins-low}
use Rattle.fitness.proofs.Passes.{fresh_first, sounds_bad, sounds_more}
use Rattle.fitness.proofs.heights.sounds.Goals as goal

pub loop-p-init : goal.loop-p-init
loop-p-init c = (refl, fresh_first, λ q l. absurd (omega arith))

pub heights-requires-clause-from_le_upto : goal.heights-requires-clause-from_le_upto
heights-requires-clause-from_le_upto c = omega (arith, (begins-low c.args.words.now c.requires c.loop-p.p c.loop-p-test.true).0)

pub heights-requires-clause-upto_bound : goal.heights-requires-clause-upto_bound
heights-requires-clause-upto_bound c = (begins-low c.args.words.now c.requires c.loop-p.p c.loop-p-test.true).1

pub returns-then-not-heights : goal.returns-then-not-heights
returns-then-not-heights c = decides_no _ (sounds_bad (decode_table c.args.words.now) c.loop-p.p c.loop-p.from _ c.heights.new.hs c.heights.result c.loop-p.invariant.0
    (sym (begins-word c.args.words.now c.loop-p.p c.loop-p-test.true)) c.heights.ensures _ c.loop-p-test.true c.if-not-heights.true)

pub loop-p-preserved : goal.loop-p-preserved
loop-p-preserved c = (
  begins_next c.args.words.now c.loop-p.p c.loop-p-test.true,
  c.heights.ensures.fresh c.if-not-heights.false,
  sounds_more (decode_table c.args.words.now) c.loop-p.p c.loop-p.from _ c.heights.new.hs c.heights.result c.loop-p.invariant.0
      (sym (begins-word c.args.words.now c.loop-p.p c.loop-p-test.true)) c.heights.ensures c.if-not-heights.false c.loop-p.invariant.2,
)
