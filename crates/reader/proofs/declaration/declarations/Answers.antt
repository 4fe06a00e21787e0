-- `reader::declaration::declarations` meets its contract: each return by its law.
-- Assumes nothing.
use Rattle.look.specs.declared.token.Token.TheVariants.{Signal}
use Rattle.look.proofs.Tokens.{ne-other, ne-same}
use mathlib.Core.Path.{refl}
use native.Mathlib.Omega.{arith}
use borrow.Author.Rules.{rules}
use mathlib.Core.List.{[]}
use Rattle.look.proofs.Looks.{seen-there}
use Rattle.reading.proofs.Generic.{numbered, reads-stays, reads-ends, ready-pass, ready-reads}
use Rattle.reader.proofs.Declarations.{signals_end, signals_more}
use Rattle.reader.proofs.declaration.declarations.Goals as goal

pub returns-then-ne : goal.returns-then-ne
returns-then-ne c = c.loop-t.invariant.1 _ _ _ (signals_end c.loop-t.invariant.0.inside refl c.peek-t.ensures (ne-other c.peek-t.result.token Signal c.if-ne.ensures) c.word.ensures)

pub declared-requires : goal.declared-requires
declared-requires c = rw c.past.ensures (ready-pass c.loop-t.invariant.0 refl c.peek-t.ensures (λ z. omega (arith, (ne-same c.peek-t.result.token Signal c.if-ne.ensures), z)))

pub returns-in_err-a : goal.returns-in_err-a
returns-in_err-a c =
    let d = (rw c.past.ensures at c.in_err-a.ensures) c.loop-t.table in
    let no = numbered c.in_err-a.field-0.0 in
    reads-ends c.from_residual.result _ c.from_residual.ensures.1 (c.loop-t.invariant.1 _ _ _ (signals_more c.loop-t.invariant.0.inside refl c.peek-t.ensures _ (ne-same c.peek-t.result.token Signal c.if-ne.ensures) refl d (reads-stays _ d.inside no) (reads-stays _ d.inside no)))

pub more_signals-requires : goal.more_signals-requires
more_signals-requires c = ready-reads (ready-pass c.loop-t.invariant.0 refl c.peek-t.ensures (λ z. omega (arith, (ne-same c.peek-t.result.token Signal c.if-ne.ensures), z))) ((rw c.past.ensures at c.in_ok-a.ensures) [])

pub returns-in_err-p : goal.returns-in_err-p
returns-in_err-p c =
    let o = c.in_err-p.ensures in
    reads-ends c.from_residual-in_err-p.result _ c.from_residual-in_err-p.ensures.1 (c.loop-t.invariant.1 _ _ _ (signals_more c.loop-t.invariant.0.inside refl c.peek-t.ensures _ (ne-same c.peek-t.result.token Signal c.if-ne.ensures) refl ((rw c.past.ensures at c.in_ok-a.ensures) _) o (reads-stays _ o.inside (numbered c.in_err-p.field-0.0))))

pub loop-t-smaller : goal.loop-t-smaller
loop-t-smaller c =
    let x = seen-there c.loop-t.invariant.0.inside c.peek-t.ensures (λ z. omega (arith, (ne-same c.peek-t.result.token Signal c.if-ne.ensures), z)) in
    let d = (rw c.past.ensures at c.in_ok-a.ensures) [] in
    let o = c.in_ok-p.ensures in
    omega (arith, x.after, x.some, d.ahead, o.ahead, o.inside)

pub loop-t-preserved : goal.loop-t-preserved
loop-t-preserved c =
    let d = rw c.past.ensures at c.in_ok-a.ensures in
    let o = c.in_ok-p.ensures in
    (ready-reads (ready-reads (ready-pass c.loop-t.invariant.0 refl c.peek-t.ensures (λ z. omega (arith, (ne-same c.peek-t.result.token Signal c.if-ne.ensures), z))) (d [])) o, (λ q l v i. c.loop-t.invariant.1 q l v (signals_more c.loop-t.invariant.0.inside refl c.peek-t.ensures _ (ne-same c.peek-t.result.token Signal c.if-ne.ensures) refl (d _) o i)), search rules)
