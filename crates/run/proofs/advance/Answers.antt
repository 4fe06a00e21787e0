-- `run::advance` meets its contract: 11, 12, 13, 14, then the run. Assumes nothing.
use native.Mathlib.Omega.{arith}
use Rattle.layout.proofs.Tables.{decode_table}
use Rattle.machine.proofs.Fetching.{held, fits}
use Rattle.run.proofs.Answering.{own-fit, advances_short, advances_late, advances_unfit, advances_unfit_session, advances_runs}
use Rattle.run.proofs.advance.Goals as goal

pub returns-then-not-long_enough : goal.returns-then-not-long_enough
returns-then-not-long_enough c = advances_short _ _ _ _ (c.long_enough.ensures.fails c.if-not-long_enough.true)

pub returns-then-stop-gt1000000000000000000 : goal.returns-then-stop-gt1000000000000000000
returns-then-stop-gt1000000000000000000 c = advances_late _ _ _ _ (c.long_enough.ensures.holds c.if-not-long_enough.false) c.if-stop-gt1000000000000000000.true

pub returns-then-not-fit_table : goal.returns-then-not-fit_table
returns-then-not-fit_table c = advances_unfit _ _ _ _ (c.long_enough.ensures.holds c.if-not-long_enough.false) (omega arith) (c.fit_table.ensures.fails c.if-not-fit_table.true)

pub returns-then-not-fit_session : goal.returns-then-not-fit_session
returns-then-not-fit_session c =
    let f = c.fit_table.ensures.holds c.if-not-fit_table.false in
    let session = c.fit_session.ensures (decode_table c.args.table.now) (held c.args.table.now f) (fits c.args.table.now f) in
    advances_unfit_session _ _ _ _ (c.long_enough.ensures.holds c.if-not-long_enough.false) (omega arith) (own-fit c.args.table.now f) (session.fails c.if-not-fit_session.true)

pub advance_fit-requires-clause-fit_session_words : goal.advance_fit-requires-clause-fit_session_words
advance_fit-requires-clause-fit_session_words c =
    let f = c.fit_table.ensures.holds c.if-not-fit_table.false in
    let session = c.fit_session.ensures (decode_table c.args.table.now) (held c.args.table.now f) (fits c.args.table.now f) in
    session.holds c.if-not-fit_session.false

pub returns : goal.returns
returns c =
    let f = c.fit_table.ensures.holds c.if-not-fit_table.false in
    let session = c.fit_session.ensures (decode_table c.args.table.now) (held c.args.table.now f) (fits c.args.table.now f) in
    let s = session.holds c.if-not-fit_session.false in
    advances_runs _ _ _ _ _ _ _ (c.long_enough.ensures.holds c.if-not-long_enough.false) (omega arith) (own-fit c.args.table.now f) s (c.advance_fit.ensures (own-fit c.args.table.now f) s)
