-- `statements::unit_end` meets its contract: each return by its law.
-- Assumes nothing.
use mathlib.Core.Path.{refl, sym, ◌∙◌}
use Rattle.look.proofs.Tokens.{unit-found}
use native.Mathlib.Omega.{arith}
use Rattle.look.proofs.Looks.{seen-there}
use Rattle.statements.proofs.Returns.{integer-span, ends-refused, ending-ends, ending_no_unit, ending_after}
use Rattle.statements.proofs.unit_end.Goals as goal

pub peek-u-requires : goal.peek-u-requires
peek-u-requires c = (integer-span c.requires.ready.0.inside c.requires.ready.1 c.requires.i_value.0 c.requires.i_value.1).inside

pub delay-delay-requires : goal.delay-delay-requires
delay-delay-requires c = record { sound = c.requires.ready.0.sound refl; span = integer-span c.requires.ready.0.inside c.requires.ready.1 c.requires.i_value.0 c.requires.i_value.1 }

pub word-requires : goal.word-requires
word-requires c = rw c.past.ensures (seen-there (integer-span c.requires.ready.0.inside c.requires.ready.1 c.requires.i_value.0 c.requires.i_value.1).inside c.peek-u.ensures (λ z. omega (arith, (unit-found c.peek-u.result.token c.in-Some.unit (sym c.unit.ensures ∙ c.in-Some.is)).1, z))).inside

pub returns-in_err-spot : goal.returns-in_err-spot
returns-in_err-spot c = λ room words. ending-ends c.from_residual.result _ c.from_residual.ensures.1 (ending_after c.requires.ready.0.inside refl refl c.requires.ready.1 c.requires.i_value.0 c.requires.i_value.1 c.peek-u.ensures (sym c.unit.ensures ∙ c.in-Some.is) c.delay-delay.ensures.judges c.delay-delay.ensures.lasts (rw c.past.ensures at c.in_err-spot.ensures)).reads

pub returns : goal.returns
returns c = λ room words. ending_after c.requires.ready.0.inside refl refl c.requires.ready.1 c.requires.i_value.0 c.requires.i_value.1 c.peek-u.ensures (sym c.unit.ensures ∙ c.in-Some.is) c.delay-delay.ensures.judges c.delay-delay.ensures.lasts (rw c.past.ensures at c.in_ok-spot.ensures)

pub returns-in_default : goal.returns-in_default
returns-in_default c = λ room words. ends-refused (λ z. omega (arith, z)) (ending_no_unit c.requires.ready.0.inside refl refl c.requires.ready.1 c.requires.i_value.0 c.requires.i_value.1 c.peek-u.ensures _ (sym c.unit.ensures ∙ c.in_default.is))
