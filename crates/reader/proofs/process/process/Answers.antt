-- `reader::process::process` meets its contract: with its label or without.
-- Assumes nothing.
use Rattle.look.specs.declared.token.Token.TheVariants.{Name}
use Rattle.look.proofs.Tokens.{eq-other, eq-same}
use mathlib.Core.Path.{refl}
use native.Mathlib.Omega.{arith}
use mathlib.Core.List.{[]}
use Rattle.words.specs.Token.{COLON, PROCESS}
use Rattle.look.proofs.Looks.{seen-there}
use Rattle.reading.proofs.Words.{worded}
use Rattle.reading.proofs.Generic.{numbered, reads-stays, forward-ends, span, ready-token, ready-word}
use Rattle.reader.proofs.Processes.{opens-off, ready_open, ready-opened, process-labelled, process-plain}
use Rattle.reader.proofs.process.process.Goals as goal

pub label-requires : goal.label-requires
label-requires c = record { sound = c.requires.ready.sound refl; span = span c.requires.ready.inside c.requires.first.0 (λ z. omega (arith, (eq-same c.args.t.token Name c.if-eq.ensures), z)) }

pub word-requires : goal.word-requires
word-requires c = rw c.past.ensures (seen-there c.requires.ready.inside c.requires.first.0 (λ z. omega (arith, (eq-same c.args.t.token Name c.if-eq.ensures), z))).inside

pub returns-in_err-a : goal.returns-in_err-a
returns-in_err-a c =
    let no = numbered c.in_err-a.field-0.0 in
    let d = rw c.past.ensures at c.in_err-a.ensures in
    let r = ready-word (ready-token c.requires.ready refl c.requires.first.0 (λ z. omega (arith, (eq-same c.args.t.token Name c.if-eq.ensures), z)) c.label.ensures) COLON d in
    forward-ends c.from_residual.result _ c.from_residual.ensures.1 (process-labelled c.requires.ready.inside refl c.requires.first.0 (eq-same c.args.t.token Name c.if-eq.ensures) c.label.ensures d (opens-off {l' = []} no) (reads-stays _ r.inside no))

pub opening-requires : goal.opening-requires
opening-requires c = (ready-word (ready-token c.requires.ready refl c.requires.first.0 (λ z. omega (arith, (eq-same c.args.t.token Name c.if-eq.ensures), z)) c.label.ensures) COLON (rw c.past.ensures at c.in_ok-a.ensures))

pub returns-in_err-b : goal.returns-in_err-b
returns-in_err-b c =
    let no = numbered c.in_err-b.field-0.0 in
    let o = c.in_err-b.ensures in
    let r = ready-opened (ready-word (ready-token c.requires.ready refl c.requires.first.0 (λ z. omega (arith, (eq-same c.args.t.token Name c.if-eq.ensures), z)) c.label.ensures) COLON (rw c.past.ensures at c.in_ok-a.ensures)) (o []) in
    forward-ends c.from_residual-in_err-b.result _ c.from_residual-in_err-b.ensures.1 (process-labelled c.requires.ready.inside refl c.requires.first.0 (eq-same c.args.t.token Name c.if-eq.ensures) c.label.ensures (rw c.past.ensures at c.in_ok-a.ensures) (o _) (reads-stays _ r.inside no))

pub body-requires : goal.body-requires
body-requires c = (ready-opened (ready-word (ready-token c.requires.ready refl c.requires.first.0 (λ z. omega (arith, (eq-same c.args.t.token Name c.if-eq.ensures), z)) c.label.ensures) COLON (rw c.past.ensures at c.in_ok-a.ensures)) (c.in_ok-b.ensures []), span c.requires.ready.inside c.requires.first.0 (λ z. omega (arith, (eq-same c.args.t.token Name c.if-eq.ensures), z)))

pub returns-then-eq : goal.returns-then-eq
returns-then-eq c =
    let x = seen-there c.requires.ready.inside c.requires.first.0 (λ z. omega (arith, (eq-same c.args.t.token Name c.if-eq.ensures), z)) in
    let a = rw c.past.ensures at c.in_ok-a.ensures in
    let w1 = worded COLON x.inside a in
    let w2 = worded PROCESS w1.inside (c.in_ok-b.ensures []).worded in (
      process-labelled c.requires.ready.inside refl c.requires.first.0 (eq-same c.args.t.token Name c.if-eq.ensures) c.label.ensures a (c.in_ok-b.ensures _) c.body.ensures,
      record { more = λ z. omega (arith, x.after, x.some, w1.ahead, w2.ahead, c.body.ensures.ahead) },
    )

pub opening-requires-2 : goal.opening-requires-2
opening-requires-2 c = ready_open c.requires.ready

pub returns-in_err-b-2 : goal.returns-in_err-b-2
returns-in_err-b-2 c =
    let o = c.in_err-b-2.ensures in
    let r = ready-opened (ready_open c.requires.ready) (o []) in
    forward-ends c.from_residual-in_err-b-2.result _ c.from_residual-in_err-b-2.ensures.1 (process-plain c.requires.ready.inside refl c.requires.first.0 (eq-other c.args.t.token Name c.if-eq.ensures) c.requires.first.1 (o _) (reads-stays _ r.inside (numbered c.in_err-b-2.field-0.0)))

pub body-requires-2 : goal.body-requires-2
body-requires-2 c = (ready-opened (ready_open c.requires.ready) (c.in_ok-b-2.ensures []), tt)

pub returns : goal.returns
returns c = (
  process-plain c.requires.ready.inside refl c.requires.first.0 (eq-other c.args.t.token Name c.if-eq.ensures) c.requires.first.1 (c.in_ok-b-2.ensures _) c.body-2.ensures,
  record { more = λ z. omega (arith, (worded PROCESS c.requires.ready.inside (c.in_ok-b-2.ensures []).worded).further (c.body-2.ensures.fine z), c.body-2.ensures.ahead) },
)
