-- `reader::process::closing_name` meets its contract: each return by its law.
-- Assumes nothing.
use Rattle.look.specs.declared.token.Token.TheVariants.{Name}
use Rattle.look.proofs.Tokens.{ne-other, ne-same}
use mathlib.Core.Path.{refl}
use native.Mathlib.Omega.{arith}
use Rattle.look.proofs.Looks.{seen-there}
use Rattle.reading.proofs.Generic.{span}
use Rattle.reader.proofs.Processes.{closing-none, closing_some}
use Rattle.reader.proofs.process.closing_name.Goals as goal

pub returns-then-ne : goal.returns-then-ne
returns-then-ne c = λ v. closing-none c.requires.0.inside refl c.peek-t.ensures (ne-other c.peek-t.result.token Name c.if-ne.ensures) c.word.ensures

pub close-requires : goal.close-requires
close-requires c = record { sound = c.requires.0.sound refl; span = (c.requires.1, span c.requires.0.inside c.peek-t.ensures (λ z. omega (arith, (ne-same c.peek-t.result.token Name c.if-ne.ensures), z))) }

pub word-requires-2 : goal.word-requires-2
word-requires-2 c = rw c.past.ensures (seen-there c.requires.0.inside c.peek-t.ensures (λ z. omega (arith, (ne-same c.peek-t.result.token Name c.if-ne.ensures), z))).inside

pub returns : goal.returns
returns c = λ v. closing_some c.requires.0.inside refl c.peek-t.ensures (ne-same c.peek-t.result.token Name c.if-ne.ensures) c.close.ensures (rw c.past.ensures at c.word-2.ensures)
