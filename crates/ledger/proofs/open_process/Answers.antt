-- `ledger::open_process` meets its contract.
-- Assumes nothing.
use native.Mathlib.Omega.{arith}
use mathlib.Core.Path.{refl}
use Rattle.ledger.proofs.Keeping.{standing, sound-size, stays}
use Rattle.ledger.proofs.Judging.{open_refused, open_fine}
use Rattle.ledger.proofs.open_process.Goals as goal

pub returns-then-ledger-ne0 : goal.returns-then-ledger-ne0
returns-then-ledger-ne0 c = λ t. stays c.if-ledger-ne0.true

pub refuse-requires : goal.refuse-requires
refuse-requires c = sound-size c.requires.sound

pub returns-then-ledger-eq64 : goal.returns-then-ledger-eq64
returns-then-ledger-eq64 c = λ t. open_refused t c.args.ledger.now c.args.start (sound-size c.requires.sound) c.if-ledger-ne0.false c.if-ledger-eq64.true c.refuse.ensures

pub overflow_add-ledger : goal.overflow_add-ledger
overflow_add-ledger c =
    let s = (standing c.requires.sound c.if-ledger-ne0.false).stands in
    record { fits = omega (arith, s.processes_are, s.few_processes) }

pub returns : goal.returns
returns c = λ t. open_fine t c.args.ledger.now c.args.start (sound-size c.requires.sound) c.if-ledger-ne0.false c.if-ledger-eq64.false refl
