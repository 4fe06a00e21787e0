-- `reader::declaration::initial` meets its contract: each return by its law.
-- Assumes nothing.
use Rattle.look.specs.declared.token.Token.TheVariants.{Becomes}
use Rattle.look.proofs.Tokens.{bounds, ne-other, ne-same}
use mathlib.Core.Path.{refl, sym, ◌∙◌}
use native.Mathlib.Omega.{arith}
use Rattle.look.proofs.Looks.{seen-there}
use Rattle.look.specs.Inside.Looks.{kind_seen}
use Rattle.reader.proofs.Declarations.{initial-none, initial-no-literal, initial-given}
use Rattle.reader.proofs.declaration.initial.Goals as goal

pub returns-then-ne : goal.returns-then-ne
returns-then-ne c = λ l counted. initial-none c.requires refl c.peek-t.ensures _ (ne-other c.peek-t.result.token Becomes c.if-ne.ensures) c.word.ensures

pub peek-u-requires : goal.peek-u-requires
peek-u-requires c = (seen-there c.requires c.peek-t.ensures (λ z. omega (arith, (ne-same c.peek-t.result.token Becomes c.if-ne.ensures), z))).inside

pub word-requires-2 : goal.word-requires-2
word-requires-2 c =
    let x = seen-there c.requires c.peek-t.ensures (λ z. omega (arith, (ne-same c.peek-t.result.token Becomes c.if-ne.ensures), z)) in
    rw c.past.ensures (seen-there x.inside c.peek-u.ensures (λ z. omega (arith, (bounds 22 23 (kind_seen c.peek-u.result) (sym c.is_literal.ensures ∙ c.if-not-is_literal.false)).1, z))).inside

pub returns : goal.returns
returns c = λ l counted. initial-given c.requires refl c.peek-t.ensures _ (ne-same c.peek-t.result.token Becomes c.if-ne.ensures) c.peek-u.ensures _ (bounds 22 23 (kind_seen c.peek-u.result) (sym c.is_literal.ensures ∙ c.if-not-is_literal.false)).0 (bounds 22 23 (kind_seen c.peek-u.result) (sym c.is_literal.ensures ∙ c.if-not-is_literal.false)).1 (rw c.past.ensures at c.word-2.ensures) counted c.start_values.ensures

pub returns-then-not-is_literal : goal.returns-then-not-is_literal
returns-then-not-is_literal c = λ l counted. initial-no-literal c.requires refl c.peek-t.ensures _ (ne-same c.peek-t.result.token Becomes c.if-ne.ensures) c.peek-u.ensures _ (sym c.is_literal.ensures ∙ c.if-not-is_literal.true)
