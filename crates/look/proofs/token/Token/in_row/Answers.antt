-- `look::token::Token::in_row` meets its contract: the table's token, or behind it none of a word.
-- Assumes nothing.
use Rattle.std.proofs.lemmas.List.{get_or_default, get_or_past}
use Rattle.look.specs.declared.token.Token.TheVariants.{Entity, Name}
use Rattle.look.specs.Inside.Tokens.{words_in_rows, token_in_row}
use Rattle.look.proofs.token.Token.in_row.Goals as goal

pub returns-then-row-lt108 : goal.returns-then-row-lt108
unfolding token_in_row
returns-then-row-lt108 c = get_or_default words_in_rows c.args.row Entity Name c.if-row-lt108.true

pub returns-else-row-lt108 : goal.returns-else-row-lt108
unfolding token_in_row
returns-else-row-lt108 c = rw (get_or_past words_in_rows c.args.row Name c.if-row-lt108.false)
