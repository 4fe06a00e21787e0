-- `fitness::fit_table` meets its contract: words are fit just where each part that is tested is.
-- Assumes nothing.
use Rattle.laws.proofs.Deciding.{decides_as}
use Rattle.fitness.proofs.Whole.{pass_each, words_are_fit}
use Rattle.fitness.proofs.fit_table.Goals as goal

pub returns : goal.returns
returns c = decides_as _ _ _ (words_are_fit c.args.words.now) (pass_each c.args.words.now) c.parts_fit.ensures
