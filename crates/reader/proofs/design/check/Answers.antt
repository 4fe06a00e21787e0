-- `reader::design::check` meets its contract: a survey over a short table.
-- Assumes nothing.
use Rattle.reader.proofs.Answering.{answers_of}
use Rattle.reader.proofs.design.check.Goals as goal

pub survey-requires : goal.survey-requires
survey-requires c = c.fresh-ledger.ensures c.args.text.now

pub returns : goal.returns
returns c = answers_of c.survey.ensures
