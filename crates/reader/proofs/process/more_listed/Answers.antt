-- `reader::process::more_listed` meets its contract: each return by its law.
-- Assumes nothing.
use Rattle.look.specs.declared.token.Token.TheVariants.{Comma}
use Rattle.look.proofs.Tokens.{ne-other, ne-same}
use mathlib.Core.Path.{refl}
use native.Mathlib.Omega.{arith}
use borrow.Author.Rules.{rules}
use Rattle.look.proofs.Looks.{seen-there}
use Rattle.reading.proofs.Generic.{numbered, reads-stays, reads-ends, ready-pass, ready-reads}
use Rattle.reader.proofs.Processes.{listed_end, listed_comma}
use Rattle.reader.proofs.process.more_listed.Goals as goal

pub returns-then-ne : goal.returns-then-ne
returns-then-ne c = c.loop-t.invariant.1 _ _ _ (listed_end c.loop-t.invariant.0.inside refl c.peek-t.ensures (ne-other c.peek-t.result.token Comma c.if-ne.ensures) c.word.ensures)

pub listened-requires : goal.listened-requires
listened-requires c = rw c.past.ensures (ready-pass c.loop-t.invariant.0 refl c.peek-t.ensures (λ z. omega (arith, (ne-same c.peek-t.result.token Comma c.if-ne.ensures), z)))

pub returns-in_err-p : goal.returns-in_err-p
returns-in_err-p c =
    let d = rw c.past.ensures at c.in_err-p.ensures in
    reads-ends c.from_residual.result _ c.from_residual.ensures.1 (c.loop-t.invariant.1 _ _ _ (listed_comma c.loop-t.invariant.0.inside refl c.peek-t.ensures (ne-same c.peek-t.result.token Comma c.if-ne.ensures) d (reads-stays _ d.inside (numbered c.in_err-p.field-0.0))))

pub loop-t-smaller : goal.loop-t-smaller
loop-t-smaller c =
    let x = seen-there c.loop-t.invariant.0.inside c.peek-t.ensures (λ z. omega (arith, (ne-same c.peek-t.result.token Comma c.if-ne.ensures), z)) in
    let d = rw c.past.ensures at c.in_ok-p.ensures in
    omega (arith, x.after, x.some, d.ahead, d.inside)

pub loop-t-preserved : goal.loop-t-preserved
loop-t-preserved c =
    let d = rw c.past.ensures at c.in_ok-p.ensures in
    (ready-reads (ready-pass c.loop-t.invariant.0 refl c.peek-t.ensures (λ z. omega (arith, (ne-same c.peek-t.result.token Comma c.if-ne.ensures), z))) d, (λ q l v o. c.loop-t.invariant.1 q l v (listed_comma c.loop-t.invariant.0.inside refl c.peek-t.ensures (ne-same c.peek-t.result.token Comma c.if-ne.ensures) d o)), search rules)
