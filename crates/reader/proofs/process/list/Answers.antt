-- `reader::process::list` meets its contract: each return by its law.
-- Assumes nothing.
use Rattle.look.specs.declared.token.Token.TheVariants.{Open}
use Rattle.look.proofs.Tokens.{ne-other, ne-same}
use mathlib.Core.Path.{refl}
use native.Mathlib.Omega.{arith}
use Rattle.reading.proofs.Generic.{numbered, reads-stays, reads-ends, ready-pass, ready-reads}
use Rattle.reader.proofs.Processes.{list_none, list_some}
use Rattle.reader.proofs.process.list.Goals as goal

pub returns-then-ne : goal.returns-then-ne
returns-then-ne c = list_none c.requires.inside refl c.peek-t.ensures (ne-other c.peek-t.result.token Open c.if-ne.ensures)

pub listened-requires : goal.listened-requires
listened-requires c = rw c.past.ensures (ready-pass c.requires refl c.peek-t.ensures (λ z. omega (arith, (ne-same c.peek-t.result.token Open c.if-ne.ensures), z)))

pub returns-in_err-a : goal.returns-in_err-a
returns-in_err-a c =
    let d = rw c.past.ensures at c.in_err-a.ensures in
    reads-ends c.from_residual.result _ c.from_residual.ensures.1 (list_some c.requires.inside refl c.peek-t.ensures (ne-same c.peek-t.result.token Open c.if-ne.ensures) d (reads-stays _ d.inside (numbered c.in_err-a.field-0.0)))

pub more_listed-requires : goal.more_listed-requires
more_listed-requires c = ready-reads (ready-pass c.requires refl c.peek-t.ensures (λ z. omega (arith, (ne-same c.peek-t.result.token Open c.if-ne.ensures), z))) (rw c.past.ensures at c.in_ok-a.ensures)

pub returns : goal.returns
returns c = list_some c.requires.inside refl c.peek-t.ensures (ne-same c.peek-t.result.token Open c.if-ne.ensures) (rw c.past.ensures at c.in_ok-a.ensures) c.more_listed.ensures
