-- `reader::process::process_list` meets its contract: each return by its law.
-- Assumes nothing.
use Rattle.look.specs.declared.token.Token.TheVariants.{End}
use Rattle.look.proofs.Tokens.{eq-other, eq-same}
use mathlib.Core.Path.{refl}
use native.Mathlib.Omega.{arith}
use borrow.Author.Rules.{rules}
use Rattle.reading.proofs.Generic.{numbered, reads-stays, reads-ends, ready-reads}
use Rattle.reader.proofs.Processes.{processes_end, processes_more}
use Rattle.reader.proofs.process.process_list.Goals as goal

pub returns-then-eq : goal.returns-then-eq
returns-then-eq c = rw c.past.ensures (c.loop-t.invariant.1 _ _ _ (processes_end c.loop-t.invariant.0.inside refl c.peek-t.ensures (eq-same c.peek-t.result.token End c.if-eq.ensures)))

pub process-requires : goal.process-requires
process-requires c = record { ready = c.loop-t.invariant.0; first = (c.peek-t.ensures, (eq-other c.peek-t.result.token End c.if-eq.ensures)) }

pub returns-in_err-p : goal.returns-in_err-p
returns-in_err-p c =
    let d = c.in_err-p.ensures in
    reads-ends c.from_residual.result _ c.from_residual.ensures.1 (c.loop-t.invariant.1 _ _ _ (processes_more d.0 (reads-stays _ d.0.inside (numbered c.in_err-p.field-0.0))))

pub loop-t-smaller : goal.loop-t-smaller
loop-t-smaller c = let d = c.in_ok-p.ensures in omega (arith, d.1.more refl, d.0.inside)

pub loop-t-preserved : goal.loop-t-preserved
loop-t-preserved c =
    let d = c.in_ok-p.ensures in
    (ready-reads c.loop-t.invariant.0 d.0, (λ q l v o. c.loop-t.invariant.1 q l v (processes_more d.0 o)), search rules)
