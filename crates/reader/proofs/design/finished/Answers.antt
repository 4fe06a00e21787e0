-- `reader::design::finished` meets its contract: each return by its law.
-- Assumes nothing.
use mathlib.Core.Path.{refl}
use Rattle.std.proofs.lemmas.Result.{err_from_is_err_and}
use Rattle.reader.proofs.Designs.{finished_end, finished_more}
use Rattle.reader.proofs.design.finished.Goals as goal

pub returns-in_err-token : goal.returns-in_err-token
returns-in_err-token c =
    let e = err_from_is_err_and c.from_residual.result c.from_residual.ensures.1 in
    let k = c.in_err-token.ensures in
    rw (e.1, e.2, k.1) (finished_more c.requires refl refl k.0)

pub returns : goal.returns
returns c = let k = c.in_ok-token.ensures in finished_end c.requires refl k.0 k.1
