-- `statements::assignment` meets its contract.
-- Assumes nothing.
use mathlib.Core.List.{[]}
use mathlib.Core.Path.{refl}
use native.Mathlib.Omega.{arith}
use Rattle.words.specs.Token.{ARROW, TRANSPORT}
use Rattle.look.proofs.Looks.{seen-there}
use Rattle.reading.proofs.Words.{worded}
use Rattle.reading.proofs.Generic.{numbered, forward-ends, word-off, reads-stays, span, ready-token, ready-word, ready-reads}
use Rattle.statements.proofs.Returns.{ends-stays, statement_assignment}
use Rattle.statements.proofs.assignment.Goals as goal

pub assign-k-requires : goal.assign-k-requires
assign-k-requires c = record { sound = c.requires.ready.sound refl; span = span c.requires.ready.inside c.requires.target.0 (λ z. omega (arith, c.requires.target.1, z)) }

pub word-requires : goal.word-requires
word-requires c = rw c.past.ensures (seen-there c.requires.ready.inside c.requires.target.0 (λ z. omega (arith, c.requires.target.1, z))).inside

pub word-requires-2 : goal.word-requires-2
word-requires-2 c = (ready-word (ready-token c.requires.ready refl c.requires.target.0 (λ z. omega (arith, c.requires.target.1, z)) c.assign-k.ensures.judges) ARROW (rw c.past.ensures at c.in_ok-a.ensures)).inside

pub expression-requires : goal.expression-requires
expression-requires c = (ready-word (ready-word (ready-token c.requires.ready refl c.requires.target.0 (λ z. omega (arith, c.requires.target.1, z)) c.assign-k.ensures.judges) ARROW (rw c.past.ensures at c.in_ok-a.ensures)) TRANSPORT c.in_ok-b.ensures)

pub delay_end-requires : goal.delay_end-requires
delay_end-requires c = (ready-reads (ready-word (ready-word (ready-token c.requires.ready refl c.requires.target.0 (λ z. omega (arith, c.requires.target.1, z)) c.assign-k.ensures.judges) ARROW (rw c.past.ensures at c.in_ok-a.ensures)) TRANSPORT c.in_ok-b.ensures) c.in_ok-e.ensures)

pub returns-in_err-a : goal.returns-in_err-a
returns-in_err-a c =
    let d = rw c.past.ensures at c.in_err-a.ensures in
    let inside = (worded ARROW (seen-there c.requires.ready.inside c.requires.target.0 (λ z. omega (arith, c.requires.target.1, z))).inside d).inside in
    forward-ends c.from_residual.result _ c.from_residual.ensures.1 (statement_assignment c.requires.ready.inside refl c.requires.target.0 c.requires.target.1 c.assign-k.ensures.judges c.assign-k.ensures.numbers d (word-off _ _ _ (numbered c.in_err-a.field-0.0)) (reads-stays _ inside (numbered c.in_err-a.field-0.0)) (ends-stays inside (numbered c.in_err-a.field-0.0)) refl refl)

pub returns-in_err-b : goal.returns-in_err-b
returns-in_err-b c =
    let inside = (worded TRANSPORT (ready-word (ready-token c.requires.ready refl c.requires.target.0 (λ z. omega (arith, c.requires.target.1, z)) c.assign-k.ensures.judges) ARROW (rw c.past.ensures at c.in_ok-a.ensures)).inside c.in_err-b.ensures).inside in
    forward-ends c.from_residual-in_err-b.result _ c.from_residual-in_err-b.ensures.1 (statement_assignment c.requires.ready.inside refl c.requires.target.0 c.requires.target.1 c.assign-k.ensures.judges c.assign-k.ensures.numbers (rw c.past.ensures at c.in_ok-a.ensures) c.in_err-b.ensures (reads-stays _ inside (numbered c.in_err-b.field-0.0)) (ends-stays inside (numbered c.in_err-b.field-0.0)) refl refl)

pub returns-in_err-e : goal.returns-in_err-e
returns-in_err-e c = forward-ends c.from_residual-in_err-e.result _ c.from_residual-in_err-e.ensures.1 (statement_assignment c.requires.ready.inside refl c.requires.target.0 c.requires.target.1 c.assign-k.ensures.judges c.assign-k.ensures.numbers (rw c.past.ensures at c.in_ok-a.ensures) c.in_ok-b.ensures c.in_err-e.ensures (ends-stays c.in_err-e.ensures.inside (numbered c.in_err-e.field-0.0)) refl refl)

pub returns-in_err-d : goal.returns-in_err-d
returns-in_err-d c = forward-ends c.from_residual-in_err-d.result _ c.from_residual-in_err-d.ensures.1 (statement_assignment c.requires.ready.inside refl c.requires.target.0 c.requires.target.1 c.assign-k.ensures.judges c.assign-k.ensures.numbers (rw c.past.ensures at c.in_ok-a.ensures) c.in_ok-b.ensures c.in_ok-e.ensures (c.in_err-d.ensures c.args.room _) refl refl)

pub returns : goal.returns
returns c =
    let a = rw c.past.ensures at c.in_ok-a.ensures in
    let x = seen-there c.requires.ready.inside c.requires.target.0 (λ z. omega (arith, c.requires.target.1, z)) in
    let w1 = worded ARROW x.inside a in
    let w2 = worded TRANSPORT w1.inside c.in_ok-b.ensures in
    let e = c.in_ok-e.ensures in (
      statement_assignment c.requires.ready.inside refl c.requires.target.0 c.requires.target.1 c.assign-k.ensures.judges c.assign-k.ensures.numbers a c.in_ok-b.ensures e (c.in_ok-d.ensures c.args.room _) c.emit-next.ensures.0 c.emit-next.ensures.1,
      record { more = λ z. omega (arith, x.after, x.some, w1.ahead, w2.ahead, e.ahead, (c.in_ok-d.ensures c.args.room []).reads.ahead) },
    )
