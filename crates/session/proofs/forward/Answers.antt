-- `session::forward` meets its contract: quiet, stop reached, refused or moved. Assumes nothing.
use mathlib.Core.Path.{◌≡◌, refl}
use native.Mathlib.Omega.{arith}
use borrow.Author.Rules.{rules}
use Rattle.std.specs.Prelude.{Err}
use Rattle.refusal.specs.Numbers.{number_of}
use Rattle.table.specs.Table.{runners}
use Rattle.layout.proofs.Tables.{decode_table}
use Rattle.machine.specs.Inside.Steps.{signals_of}
use Rattle.session.proofs.Goes.{goes-refused, goes-quiet, goes-stop, goes_moved}
use Rattle.session.proofs.Forwarding.{forward-quiet, forward-stop, forward-refused, forward-moved}
use Rattle.session.proofs.forward.Goals as goal

pub returns-in_default : goal.returns-in_default
returns-in_default c = λ was. goes-quiet _ _ _ _ (forward-quiet (runners (decode_table c.args.machine.now.table.now)) (signals_of c.args.machine.now.table.now) c.args.cells.now c.args.stop was c.in_default.ensures)

pub returns-then-stop-next : goal.returns-then-stop-next
returns-then-stop-next c = λ was. goes-stop _ _ _ _ (forward-stop (runners (decode_table c.args.machine.now.table.now)) (signals_of c.args.machine.now.table.now) c.args.cells.now c.args.stop was c.in-Some.next c.in-Some.ensures c.if-stop-next.true)

pub returns-in_err-settled : goal.returns-in_err-settled
returns-in_err-settled c = λ was.
    let next = c.in-Some.ensures in
    let e : c.from_residual.result ≡ Err c.in_err-settled.field-0.0 = search rules in
    rw e (goes-refused _ _ _ _ c.in_err-settled.field-0.0 _ (forward-refused (runners (decode_table c.args.machine.now.table.now)) (signals_of c.args.machine.now.table.now) c.args.cells.now c.args.stop was c.in-Some.next next (omega (arith, c.if-stop-next.false)) (number_of c.in_err-settled.field-0.0) (c.in_err-settled.ensures was (λ z. absurd (omega (arith, next.1))))))

pub write_advance-bytes-requires-clause-fit : goal.write_advance-bytes-requires-clause-fit
write_advance-bytes-requires-clause-fit c = (c.in_ok-settled.ensures c.in-Some.next.time (λ z. refl)).1.fit

pub returns : goal.returns
returns c = λ was.
    let next = c.in-Some.ensures in
    let done = c.in_ok-settled.ensures was (λ z. absurd (omega (arith, next.1))) in
    goes_moved _ _ _ _ c.in-Some.next.time c.in_ok-settled.settled.cycles c.in_ok-settled.settled.steps c.write_advance-bytes.result _ c.settle.new.cells c.write_advance-bytes.new.out
    (forward-moved (runners (decode_table c.args.machine.now.table.now)) (signals_of c.args.machine.now.table.now) c.args.cells.now c.args.stop was c.in-Some.next next (omega (arith, c.if-stop-next.false)) c.in_ok-settled.settled.cycles c.in_ok-settled.settled.steps c.settle.new.cells done.0) done.1 (c.write_advance-bytes.ensures (signals_of c.args.machine.now.table.now) c.args.cells.now c.requires.fit_for.few done.2)
