-- `ledger::drive` meets its contract: stays, refused or put down.
-- Assumes nothing.
use mathlib.Core.Path.{refl}
use native.Mathlib.Omega.{arith}
use Rattle.ledger.proofs.Keeping.{standing, sound-size}
use Rattle.ledger.proofs.Judging.{drive-refused, drive-fine, drive-stays}
use Rattle.ledger.proofs.drive.Goals as goal

pub returns-then-ledger-ne0 : goal.returns-then-ledger-ne0
returns-then-ledger-ne0 c = λ t. drive-stays c.args.signal c.args.start c.if-ledger-ne0.true

pub refuse-requires : goal.refuse-requires
refuse-requires c = sound-size c.requires.held.sound

pub returns-then-is_earlier : goal.returns-then-is_earlier
returns-then-is_earlier c = λ t. drive-refused t c.args.ledger.now c.args.start (sound-size c.requires.held.sound) c.if-ledger-ne0.false c.args.signal (c.requires.signal_bound c.if-ledger-ne0.false) c.is_earlier.result c.is_earlier.ensures c.if-is_earlier.true c.refuse.ensures

pub overflow_add-ledger : goal.overflow_add-ledger
overflow_add-ledger c =
    let s = (standing c.requires.held.sound c.if-ledger-ne0.false).stands in
    record { fits = omega (arith, s.processes_are, s.few_processes) }

pub returns : goal.returns
returns c = λ t. drive-fine t c.args.ledger.now c.args.start (sound-size c.requires.held.sound) c.if-ledger-ne0.false c.args.signal (c.requires.signal_bound c.if-ledger-ne0.false) c.is_earlier.result c.is_earlier.ensures c.if-is_earlier.false refl

pub overflow_add-signal : goal.overflow_add-signal
overflow_add-signal c =
    let size = sound-size c.requires.held.sound in
    let few = c.requires.signal_bound c.if-ledger-ne0.false in
    record { fits = omega arith }

pub offset_bounds-ledger-signal : goal.offset_bounds-ledger-signal
offset_bounds-ledger-signal c =
    let size = sound-size c.requires.held.sound in
    let few = c.requires.signal_bound c.if-ledger-ne0.false in
    record { fits = omega arith }

pub bounds-ledger-signal : goal.bounds-ledger-signal
bounds-ledger-signal c =
    let size = sound-size c.requires.held.sound in
    let few = c.requires.signal_bound c.if-ledger-ne0.false in
    omega arith

pub overflow_add-ledger-2 : goal.overflow_add-ledger-2
overflow_add-ledger-2 c =
    let size = sound-size c.requires.held.sound in
    let few = c.requires.signal_bound c.if-ledger-ne0.false in
    record { fits = omega arith }

pub offset_bounds-ledger-signal-2 : goal.offset_bounds-ledger-signal-2
offset_bounds-ledger-signal-2 c =
    let size = sound-size c.requires.held.sound in
    let few = c.requires.signal_bound c.if-ledger-ne0.false in
    record { fits = omega arith }

pub bounds-ledger-signal-2 : goal.bounds-ledger-signal-2
bounds-ledger-signal-2 c =
    let size = sound-size c.requires.held.sound in
    let few = c.requires.signal_bound c.if-ledger-ne0.false in
    omega arith
