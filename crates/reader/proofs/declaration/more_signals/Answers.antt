-- `reader::declaration::more_signals` meets its contract: each return by its law.
-- Assumes nothing.
use Rattle.look.specs.declared.token.Token.TheVariants.{Comma}
use Rattle.look.proofs.Tokens.{ne-other, ne-same}
use mathlib.Core.Path.{refl}
use native.Mathlib.Omega.{arith}
use borrow.Author.Rules.{rules}
use mathlib.Core.List.{[]}
use Rattle.words.specs.Token.{COLON, BOOLEAN}
use Rattle.look.proofs.Looks.{seen-there}
use Rattle.reading.proofs.Words.{worded}
use Rattle.reading.proofs.Generic.{numbered, word-off, reads-stays, reads-ends, ready-pass, ready-reads}
use Rattle.reader.proofs.Declarations.{more_typed, more_comma}
use Rattle.reader.proofs.declaration.more_signals.Goals as goal

pub returns-in_err-a : goal.returns-in_err-a
returns-in_err-a c =
    let w = worded COLON c.loop-t.invariant.0.inside c.in_err-a.ensures in
    let no = numbered c.in_err-a.field-0.0 in
    reads-ends c.from_residual.result _ c.from_residual.ensures.1 (c.loop-t.invariant.1 _ _ _ (more_typed c.loop-t.invariant.0.inside refl c.peek-t.ensures _ (ne-other c.peek-t.result.token Comma c.if-ne.ensures) c.in_err-a.ensures (word-off _ _ _ no) (reads-stays _ w.inside no)))

pub word-requires-then-ne : goal.word-requires-then-ne
word-requires-then-ne c = (worded COLON c.loop-t.invariant.0.inside c.in_ok-a.ensures).inside

pub returns-in_err-b : goal.returns-in_err-b
returns-in_err-b c =
    let w = worded BOOLEAN (worded COLON c.loop-t.invariant.0.inside c.in_ok-a.ensures).inside c.in_err-b.ensures in
    reads-ends c.from_residual-in_err-b.result _ c.from_residual-in_err-b.ensures.1 (c.loop-t.invariant.1 _ _ _ (more_typed c.loop-t.invariant.0.inside refl c.peek-t.ensures _ (ne-other c.peek-t.result.token Comma c.if-ne.ensures) c.in_ok-a.ensures c.in_err-b.ensures (reads-stays _ w.inside (numbered c.in_err-b.field-0.0))))

pub initial-requires : goal.initial-requires
initial-requires c = (worded BOOLEAN (worded COLON c.loop-t.invariant.0.inside c.in_ok-a.ensures).inside c.in_ok-b.ensures).inside

pub returns-then-ne : goal.returns-then-ne
returns-then-ne c = c.loop-t.invariant.1 _ _ _ (more_typed c.loop-t.invariant.0.inside refl c.peek-t.ensures _ (ne-other c.peek-t.result.token Comma c.if-ne.ensures) c.in_ok-a.ensures c.in_ok-b.ensures (c.initial.ensures _ refl))

pub declared-requires : goal.declared-requires
declared-requires c = rw c.past.ensures (ready-pass c.loop-t.invariant.0 refl c.peek-t.ensures (λ z. omega (arith, (ne-same c.peek-t.result.token Comma c.if-ne.ensures), z)))

pub returns-in_err-p : goal.returns-in_err-p
returns-in_err-p c =
    let d = (rw c.past.ensures at c.in_err-p.ensures) c.loop-t.table in
    reads-ends c.from_residual-in_err-p.result _ c.from_residual-in_err-p.ensures.1 (c.loop-t.invariant.1 _ _ _ (more_comma c.loop-t.invariant.0.inside refl c.peek-t.ensures _ (ne-same c.peek-t.result.token Comma c.if-ne.ensures) d (reads-stays _ d.inside (numbered c.in_err-p.field-0.0))))

pub loop-t-smaller : goal.loop-t-smaller
loop-t-smaller c =
    let x = seen-there c.loop-t.invariant.0.inside c.peek-t.ensures (λ z. omega (arith, (ne-same c.peek-t.result.token Comma c.if-ne.ensures), z)) in
    let d = (rw c.past.ensures at c.in_ok-p.ensures) [] in
    omega (arith, x.after, x.some, d.ahead, d.inside)

pub loop-t-preserved : goal.loop-t-preserved
loop-t-preserved c =
    let d = rw c.past.ensures at c.in_ok-p.ensures in
    (ready-reads (ready-pass c.loop-t.invariant.0 refl c.peek-t.ensures (λ z. omega (arith, (ne-same c.peek-t.result.token Comma c.if-ne.ensures), z))) (d []), (λ q l v o. c.loop-t.invariant.1 q l v (more_comma c.loop-t.invariant.0.inside refl c.peek-t.ensures _ (ne-same c.peek-t.result.token Comma c.if-ne.ensures) (d _) o)), search rules)
