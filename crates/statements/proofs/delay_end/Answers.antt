-- `statements::delay_end` meets its contract: each return by its law.
-- Assumes nothing.
use mathlib.Core.Path.{refl}
use Rattle.look.specs.declared.token.Token.TheVariants.{After}
use Rattle.look.proofs.Tokens.{ne-same, ne-other}
use native.Mathlib.Omega.{arith}
use Rattle.look.proofs.Looks.{seen-there}
use Rattle.statements.proofs.Returns.{ending-ends, ending_none, ending_no_integer}
use Rattle.statements.proofs.delay_end.Goals as goal

pub returns-in_err-spot : goal.returns-in_err-spot
returns-in_err-spot c = λ room words. ending-ends c.from_residual.result _ c.from_residual.ensures.1 (ending_none c.requires.inside refl c.peek-t.ensures (ne-other c.peek-t.result.token After c.if-ne.ensures) c.in_err-spot.ensures).reads

pub returns-then-ne : goal.returns-then-ne
returns-then-ne c = λ room words. ending_none c.requires.inside refl c.peek-t.ensures (ne-other c.peek-t.result.token After c.if-ne.ensures) c.in_ok-spot.ensures

pub token-requires : goal.token-requires
token-requires c = (seen-there c.requires.inside c.peek-t.ensures (λ z. omega (arith, (ne-same c.peek-t.result.token After c.if-ne.ensures), z))).inside

pub returns-in_err-i : goal.returns-in_err-i
returns-in_err-i c =
    let k = c.in_err-i.ensures in
    λ room words. ending-ends {v' = words} c.from_residual-in_err-i.result _ c.from_residual-in_err-i.ensures.1 (rw k.1 (ending_no_integer c.requires.inside refl c.peek-t.ensures (ne-same c.peek-t.result.token After c.if-ne.ensures) refl 0 k.0))

pub unit_end-requires : goal.unit_end-requires
unit_end-requires c = let k = c.in_ok-i.ensures in record { ready = (c.requires, rw c.peek-t.ensures at (ne-same c.peek-t.result.token After c.if-ne.ensures)); i_value = (rw c.peek-t.ensures at k.0, k.1) }
