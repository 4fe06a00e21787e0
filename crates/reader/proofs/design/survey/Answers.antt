-- `reader::design::survey` meets its contract: each return by its law.
-- Assumes nothing.
use mathlib.Core.Path.{sym, ◌∙◌}
use Rattle.names.specs.Text.{too_long, not_lexical}
use Rattle.reader.specs.Inside.Designs.{refused_as}
use Rattle.reader.proofs.design.survey.Goals as goal

pub returns-then-text-gt60000 : goal.returns-then-text-gt60000
returns-then-text-gt60000 c = rw c.into.ensures (refused_as (too_long c.if-text-gt60000.true))

pub judged-requires : goal.judged-requires
judged-requires c = (record { short = c.if-text-gt60000.false; lexical = sym c.first_refused.ensures ∙ c.in-None.is }, c.requires)

pub returns-in-Some : goal.returns-in-Some
returns-in-Some c = refused_as (not_lexical c.if-text-gt60000.false (sym c.first_refused.ensures ∙ c.in-Some.is))
