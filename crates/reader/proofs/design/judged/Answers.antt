-- `reader::design::judged` meets its contract: each return by its law.
-- Assumes nothing.
use mathlib.Core.Path.{refl}
use Rattle.std.proofs.lemmas.Result.{err_from_is_err_and}
use Rattle.reader.proofs.Answering.{answer-refused, answer-judged, none-judged, answer-accepted}
use Rattle.reader.proofs.design.judged.Goals as goal

pub design-requires : goal.design-requires
design-requires c = record { judgement = _; keeps = c.requires.1 }

pub returns-in_err-design : goal.returns-in_err-design
returns-in_err-design c =
    let e = err_from_is_err_and c.from_residual.result c.from_residual.ensures.1 in
    rw (e.1, e.2) (answer-refused c.args.text.now c.requires.0 c.in_err-design.field-0.0 c.in_err-design.ensures)

pub returns-in-Ok : goal.returns-in-Ok
returns-in-Ok c = answer-judged c.args.text.now c.requires.0 c.in_ok-design.ensures refl c.requires.1 c.in-Ok.reason c.in-Ok.ensures

pub returns-in-Err : goal.returns-in-Err
returns-in-Err c = let a = none-judged c.args.text.now c.requires.0 c.in_ok-design.ensures refl c.requires.1 c.in-Err.ensures.1 in answer-accepted c.args.text.now c.requires.0 c.in_ok-design.ensures refl c.requires.1 a
