-- `words::vocabulary::find` meets its contract: the table's words are the numbers of the rows.
-- Assumes nothing.
use Rattle.std.proofs.Common.{rules, tests, eqb}
use Rattle.std.proofs.lemmas.Iterator.{YieldsList-from_slice}
use Rattle.std.proofs.lemmas.Iterator.Search.{position_from_yields_List}
use Rattle.words.specs.Vocabulary.{subset, others, vocabulary}
use Rattle.words.specs.Inside.Codes.{letter_of, code_of, codes}
use Rattle.words.proofs.vocabulary.find.Goals as goal

pub returns : goal.returns
unfolding letter_of code_of subset others vocabulary codes
returns c = position_from_yields_List (λ row. eqb row c.args.code) _ _ _ c.position.ensures.ran (YieldsList-from_slice codes c.iter.ensures.rest) (λ x b q k. search (rules, tests))
