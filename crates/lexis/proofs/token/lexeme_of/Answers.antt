-- `lexis::token::lexeme_of` meets its contract: by what stands at the start.
-- Assumes nothing.
use Rattle.std.proofs.Common.{sym, ap, ◌∙◌}
use Rattle.lexis.specs.Token.{or_refused, lexeme_of}
use Rattle.lexis.proofs.Lexemes.{stands}
use Rattle.lexis.proofs.token.lexeme_of.Goals as goal

pub returns-then-is_empty : goal.returns-then-is_empty
unfolding lexeme_of
returns-then-is_empty c = rw (sym c.is_empty.ensures ∙ c.if-is_empty.true)

pub returns-in-Some : goal.returns-in-Some
returns-in-Some c = ap or_refused (sym c.in-Some.is) ∙ stands c.args.text.now (sym c.is_empty.ensures ∙ c.if-is_empty.false) c.start_of.result c.start_of.ensures

pub returns-in-None : goal.returns-in-None
returns-in-None c = ap or_refused (sym c.in-None.is) ∙ stands c.args.text.now (sym c.is_empty.ensures ∙ c.if-is_empty.false) c.start_of.result c.start_of.ensures
