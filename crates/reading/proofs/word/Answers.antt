-- `reading::word` meets its contract: the token is of the kind, or refused.
-- Assumes nothing.
use borrow.Author.Tests.{eq-eqb, ne_eqb}
use Rattle.std.proofs.lemmas.Result.{err_from_is_err_and}
use Rattle.reading.specs.Inside.Spots.{word_of}
use Rattle.reading.proofs.word.Goals as goal

pub returns-in_err-t : goal.returns-in_err-t
unfolding word_of
returns-in_err-t c = let e = err_from_is_err_and c.from_residual.result c.from_residual.ensures.1 in let k = c.in_err-t.ensures in rw (e.1, e.2, k.1, ne_eqb _ _ k.0)

pub returns : goal.returns
unfolding word_of
returns c = let k = c.in_ok-t.ensures in rw (c.past.ensures, ← k.0, eq-eqb _ _ k.1)
