-- `session::begin` meets its contract: refused, or moved. Assumes nothing.
use mathlib.Core.Path.{◌≡◌, refl}
use borrow.Author.Rules.{rules}
use Rattle.std.specs.Prelude.{Err}
use Rattle.refusal.specs.Numbers.{number_of}
use Rattle.session.proofs.Goes.{goes-refused, goes_moved}
use Rattle.session.proofs.Beginning.{begin_full, due-after, begin-refused, begin-moved}
use Rattle.session.proofs.begin.Goals as goal

pub returns-in_err-ran : goal.returns-in_err-ran
returns-in_err-ran c =
    let e : c.from_residual.result ≡ Err c.in_err-ran.field-0.0 = search rules in
    rw e (goes-refused _ _ _ _ c.in_err-ran.field-0.0 c.wake.new.cells (begin_full c.args.machine.now.table.now c.requires.works.table c.fresh.result c.fresh.ensures c.all_of-woken.result c.all_of-woken.ensures c.in_err-ran.field-0.0 c.wake.new.cells c.in_err-ran.ensures))

pub settle-requires-clause-due : goal.settle-requires-clause-due
settle-requires-clause-due c = due-after c.args.machine.now.table.now c.requires.works.table c.fresh.result c.fresh.ensures c.all_of-woken.result c.all_of-woken.ensures c.in_ok-ran.ran c.wake.new.cells c.in_ok-ran.ensures

pub returns-in_err-cycles : goal.returns-in_err-cycles
returns-in_err-cycles c =
    let e : c.from_residual-in_err-cycles.result ≡ Err c.in_err-cycles.field-0.0 = search rules in
    rw e (goes-refused _ _ _ _ c.in_err-cycles.field-0.0 c.settle.new.cells (begin-refused c.args.machine.now.table.now c.requires.works.table c.fresh.result c.fresh.ensures c.all_of-woken.result c.all_of-woken.ensures c.in_ok-ran.ran c.wake.new.cells c.in_ok-ran.ensures (number_of c.in_err-cycles.field-0.0) (c.in_err-cycles.ensures 0 (λ z. refl))))

pub write_start-bytes-requires-clause-fit_for : goal.write_start-bytes-requires-clause-fit_for
write_start-bytes-requires-clause-fit_for c = (c.in_ok-cycles.ensures 0 (λ z. refl)).1

pub returns : goal.returns
returns c =
    let done = c.in_ok-cycles.ensures 0 (λ z. refl) in
    goes_moved _ _ _ _ 0 c.in_ok-cycles.field-0.cycles c.in_ok-cycles.field-0.steps c.write_start-bytes.result _ c.settle.new.cells c.write_start-bytes.new.out
    (begin-moved c.args.machine.now.table.now c.requires.works.table c.fresh.result c.fresh.ensures c.all_of-woken.result c.all_of-woken.ensures c.in_ok-ran.ran c.wake.new.cells c.in_ok-ran.ensures c.in_ok-cycles.field-0.cycles c.in_ok-cycles.field-0.steps c.settle.new.cells done.0) done.1 c.write_start-bytes.ensures
