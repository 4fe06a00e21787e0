-- `words::vocabulary::row_of` meets its contract: a long word stands in no row, and a short one where its number does.
-- Assumes nothing.
use Rattle.std.proofs.Common.{ap, ◌∙◌, position, eqb}
use Rattle.words.specs.Inside.Codes.{codes}
use Rattle.words.proofs.Rows.{row_by_code, row_of_long}
use Rattle.words.proofs.vocabulary.row_of.Goals as goal

pub returns-then-word-gt13 : goal.returns-then-word-gt13
returns-then-word-gt13 c = row_of_long c.args.word.now c.if-word-gt13.true

pub returns-else-word-gt13 : goal.returns-else-word-gt13
returns-else-word-gt13 c = c.find.ensures ∙ ap (λ code. position (λ c. eqb c code) codes) c.code_of.ensures ∙ row_by_code c.args.word.now
