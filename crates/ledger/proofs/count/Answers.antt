-- `ledger::count` meets its contract.
-- Assumes nothing.
use mathlib.Core.Path.{refl}
use native.Mathlib.Omega.{arith}
use Rattle.ledger.proofs.Keeping.{standing, sound-size, stays}
use Rattle.ledger.proofs.Judging.{count-refused, count-fine}
use Rattle.ledger.proofs.count.Goals as goal

pub returns-then-ledger-ne0 : goal.returns-then-ledger-ne0
returns-then-ledger-ne0 c = λ t. stays c.if-ledger-ne0.true

pub overflow_add-all : goal.overflow_add-all
overflow_add-all c =
    let s = (standing c.requires.held.sound c.if-ledger-ne0.false).stands in
    record { fits = omega (arith, s.instructions_are, s.few_instructions, c.requires.instructions_bound) }

pub refuse-requires : goal.refuse-requires
refuse-requires c = sound-size c.requires.held.sound

pub returns-then-all-gt4096 : goal.returns-then-all-gt4096
returns-then-all-gt4096 c = λ t. count-refused t c.args.ledger.now c.args.start (sound-size c.requires.held.sound) c.if-ledger-ne0.false c.args.instructions c.if-all-gt4096.true c.refuse.ensures

pub returns : goal.returns
returns c = λ t. count-fine t c.args.ledger.now c.args.start (sound-size c.requires.held.sound) c.if-ledger-ne0.false c.args.instructions c.if-all-gt4096.false refl
