-- `reader::process::opening` meets its contract: each return by its law.
-- Assumes nothing.
use mathlib.Core.Path.{refl}
use Rattle.std.proofs.lemmas.Result.{err_from_is_err_and}
use Rattle.reader.proofs.Processes.{opens-read, opens-unfit}
use Rattle.reader.proofs.process.opening.Goals as goal

pub returns-in_err-t : goal.returns-in_err-t
returns-in_err-t c =
    let e = err_from_is_err_and c.from_residual.result c.from_residual.ensures.1 in
    let k = c.in_err-t.ensures in
    rw (e.1, e.2, k.1) (λ v. opens-unfit c.requires.inside refl refl k.0)

pub returns : goal.returns
returns c = let k = c.in_ok-t.ensures in rw c.past.ensures (λ v. opens-read c.requires.inside refl k.0 k.1 (c.open_process.ensures c.args.text.now))
