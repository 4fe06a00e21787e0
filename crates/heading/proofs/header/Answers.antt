-- `heading::header` meets its contract: 11, then the text, then the bytes.
-- Assumes nothing.
use mathlib.Core.Path.{refl}
use Rattle.std.proofs.lemmas.Result.{err_from_is_err_and}
use Rattle.heading.specs.Headed.{short, turned}
use Rattle.heading.proofs.Rows.{survey_refused, survey_accepted}
use Rattle.heading.proofs.header.Goals as goal

pub returns-then-out-lt4096 : goal.returns-then-out-lt4096
returns-then-out-lt4096 c = rw c.into.ensures (short c.if-out-lt4096.true, refl)

pub survey-requires : goal.survey-requires
survey-requires c = c.fresh-ledger.ensures c.args.text.now

pub show-requires : goal.show-requires
show-requires c = (survey_accepted c.survey.ensures c.in_ok-survey.was, c.if-out-lt4096.false)

pub returns-in_err-survey : goal.returns-in_err-survey
returns-in_err-survey c =
    let e = err_from_is_err_and c.from_residual.result c.from_residual.ensures.1 in
    rw (e.1, e.2) (turned c.if-out-lt4096.false (survey_refused c.in_err-survey.ensures), refl)

pub returns : goal.returns
returns c = c.show.ensures
