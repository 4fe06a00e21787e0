-- `fitness_session::fit_session` meets its contract: a session is fit just where each part is; the drivers of a fit table are always found.
-- Assumes nothing.
use Rattle.laws.proofs.Deciding.{decides_no}
use Rattle.fitness.proofs.Whole.{fits, fit-rows, fit-ready, fit-alone}
use Rattle.fitness_session.proofs.Whole.{fit-head, fit-signals, session_is_fit, for_table}
use Rattle.fitness_session.proofs.fit_session.Goals as goal

pub returns-then-not-head : goal.returns-then-not-head
returns-then-not-head c =
    let w = c.args.table.now in
    for_table w c.args.words.now _ (decides_no _ (λ f. c.head.ensures.fails c.if-not-head.true (fit-head w c.args.words.now (fits w c.requires) f.session f.holds f.fit)))

pub owners-requires : goal.owners-requires
owners-requires c = fit-ready c.args.table.now c.requires

pub returns-in-Some : goal.returns-in-Some
returns-in-Some c =
    let w = c.args.table.now in
    let v = c.args.words.now in
    for_table w v _
    (record {
      holds = λ z. session_is_fit w v _ (fits w c.requires) (fit-rows w c.requires) c.in-Some.ensures (c.head.ensures.holds c.if-not-head.false) (c.signals.ensures.holds z);
      fails = λ z f. c.signals.ensures.fails z (fit-signals w v _ (fits w c.requires) (fit-rows w c.requires) c.in-Some.ensures f.session f.holds f.fit);
    })

pub returns-in-None : goal.returns-in-None
returns-in-None c = absurd (c.in-None.ensures (fit-alone c.args.table.now c.requires))
