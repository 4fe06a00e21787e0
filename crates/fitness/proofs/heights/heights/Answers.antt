-- `fitness::heights::heights` meets its contract: the instructions below x are done, and their heights are those of the ways.
-- Assumes nothing.
use mathlib.Core.Path.{◌≡◌, subst}
use native.Mathlib.Omega.{arith}
use Rattle.laws.proofs.Deciding.{differ}
use Rattle.layout.proofs.Tables.{decode_table}
use Rattle.fitness.proofs.Reading.{means_at}
use Rattle.fitness.proofs.Passes.{Done, pass-none, pass_more, pass-back, pass-broken, pass-sound, pass_end, pass-fresh, passed-not}
use Rattle.fitness.proofs.heights.heights.Goals as goal
use Rattle.fitness.proofs.heights.heights.Goals.{then-not-ahead-via-then-not-ahead, then-not-ahead-via-else-not-ahead+then-not-step}

pub loop-x-init : goal.loop-x-init
loop-x-init c = pass-none (decode_table c.args.words.now).code c.args.from c.args.upto c.args.hs.now (omega arith) c.requires.fresh

pub returns-then-not-ahead : goal.returns-then-not-ahead
returns-then-not-ahead c =
    let code = (decode_table c.args.words.now).code in
    let m = means_at c.args.words.now c.loop-x.x c.in-Ok.kind (omega arith) c.in-Ok.ensures in
    passed-not code c.args.from c.args.upto _
    (elim c.then-not-ahead.branch [
      | then-not-ahead-via-then-not-ahead w ↦ pass-back code c.args.from c.args.upto c.loop-x.x c.loop-x.hs c.loop-x.invariant c.loop-x-test.true _ _ m
          (c.ahead.ensures.fails w.if-not-ahead.true)
      | then-not-ahead-via-else-not-ahead+then-not-step w ↦ pass-broken code c.args.from c.args.upto c.loop-x.x c.loop-x.hs c.loop-x.invariant c.loop-x-test.true _ _ m
          w.step.new.hs w.step.result (c.ahead.ensures.holds w.if-not-ahead.false) w.step.ensures w.if-not-step.true
    ])

pub loop-x-preserved : goal.loop-x-preserved
loop-x-preserved c =
    pass_more (decode_table c.args.words.now).code c.args.from c.args.upto c.loop-x.x c.loop-x.hs c.loop-x.invariant c.loop-x-test.true _ _
    (means_at c.args.words.now c.loop-x.x c.in-Ok.kind (omega arith) c.in-Ok.ensures)
    c.step.new.hs c.step.result (c.ahead.ensures.holds c.if-not-ahead.false) c.step.ensures c.if-not-step.false

pub returns-then-hs-upto-gt1 : goal.returns-then-hs-upto-gt1
returns-then-hs-upto-gt1 c =
    let code = (decode_table c.args.words.now).code in
    let q : c.loop-x.x ≡ c.args.upto = omega arith in
    let d = subst (λ x. Done code c.args.from c.args.upto x c.loop-x.hs) q c.loop-x.invariant in
    passed-not code c.args.from c.args.upto _ (pass_end code c.args.from c.args.upto c.loop-x.hs d c.if-hs-upto-gt1.true)

pub returns : goal.returns
returns c =
    let code = (decode_table c.args.words.now).code in
    let q : c.loop-x.x ≡ c.args.upto = omega arith in
    let d = subst (λ x. Done code c.args.from c.args.upto x c.loop-x.hs) q c.loop-x.invariant in
    record {
      holds = λ z. pass-sound code c.args.from c.args.upto c.loop-x.hs d c.if-hs-upto-gt1.false;
      fails = λ z. differ z;
      fresh = λ z. pass-fresh code c.args.from c.args.upto c.loop-x.hs d (omega arith);
    }
