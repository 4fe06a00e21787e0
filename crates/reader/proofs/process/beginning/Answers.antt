-- `reader::process::beginning` meets its contract: each return by its law.
-- Assumes nothing.
use Rattle.look.specs.declared.token.Token.TheVariants.{Is}
use Rattle.look.proofs.Tokens.{ne-other, ne-same}
use mathlib.Core.Path.{refl}
use native.Mathlib.Omega.{arith}
use Rattle.look.proofs.Looks.{seen-there}
use Rattle.reader.proofs.Processes.{beginning-plain, beginning_is}
use Rattle.reader.proofs.process.beginning.Goals as goal

pub returns-then-ne : goal.returns-then-ne
returns-then-ne c = λ l v. beginning-plain c.requires refl c.peek-t.ensures (ne-other c.peek-t.result.token Is c.if-ne.ensures) c.word.ensures

pub word-requires-2 : goal.word-requires-2
word-requires-2 c = rw c.past.ensures (seen-there c.requires c.peek-t.ensures (λ z. omega (arith, (ne-same c.peek-t.result.token Is c.if-ne.ensures), z))).inside

pub returns : goal.returns
returns c = λ l v. beginning_is c.requires refl c.peek-t.ensures (ne-same c.peek-t.result.token Is c.if-ne.ensures) (rw c.past.ensures at c.word-2.ensures)
