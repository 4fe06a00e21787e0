-- `reader::design::closing` meets its contract: each return by its law.
-- Assumes nothing.
use Rattle.look.proofs.Tokens.{ne-other, ne-same}
use mathlib.Core.Path.{refl, sym, ◌∙◌}
use native.Mathlib.Omega.{arith}
use Rattle.reading.proofs.Generic.{ready-pass}
use Rattle.reader.proofs.Processes.{part-plain, part-word}
use Rattle.reader.proofs.design.closing.Goals as goal

pub returns-then-ne : goal.returns-then-ne
returns-then-ne c = λ u k v. part-plain c.requires.0.inside refl c.peek-t.ensures u (λ z. (ne-other c.peek-t.result.token c.args.part c.if-ne.ensures) (z ∙ sym k)) (c.closing_name.ensures v)

pub closing_name-requires-2 : goal.closing_name-requires-2
closing_name-requires-2 c = (rw c.past.ensures (ready-pass c.requires.0 refl c.peek-t.ensures (λ z. omega (arith, (ne-same c.peek-t.result.token c.args.part c.if-ne.ensures), c.requires.2, z))), c.requires.1)

pub returns : goal.returns
returns c = λ u k v. part-word c.requires.0.inside refl c.peek-t.ensures u ((ne-same c.peek-t.result.token c.args.part c.if-ne.ensures) ∙ k) (λ z. omega (arith, (ne-same c.peek-t.result.token c.args.part c.if-ne.ensures), c.requires.2, z)) ((rw c.past.ensures at c.closing_name-2.ensures) v)
