-- `ledger::declare` meets its contract.
-- Assumes nothing.
use native.Mathlib.Omega.{arith}
use Rattle.ledger.proofs.Keeping.{standing, sound-size, stays}
use Rattle.ledger.proofs.Judging.{declare_used, declare_full, declare_fine}
use Rattle.ledger.proofs.declare.Goals as goal

pub returns-then-ledger-ne0 : goal.returns-then-ledger-ne0
returns-then-ledger-ne0 c = stays c.if-ledger-ne0.true

pub is_used-requires : goal.is_used-requires
is_used-requires c = let s = (standing c.requires.sound c.if-ledger-ne0.false).stands in record { signals = s.signals; labels = s.labels; span = c.requires.span }

pub refuse-requires : goal.refuse-requires
refuse-requires c = sound-size c.requires.sound

pub returns-then-is_used : goal.returns-then-is_used
returns-then-is_used c = declare_used c.args.text.now c.args.ledger.now c.args.name.start (sound-size c.requires.sound) c.if-ledger-ne0.false c.args.name.end c.requires.span c.is_used.result c.is_used.ensures c.if-is_used.true c.refuse.ensures

pub refuse-requires-then-ledger-eq64 : goal.refuse-requires-then-ledger-eq64
refuse-requires-then-ledger-eq64 c = sound-size c.requires.sound

pub returns-then-ledger-eq64 : goal.returns-then-ledger-eq64
returns-then-ledger-eq64 c = declare_full c.args.text.now c.args.ledger.now c.args.name.start (sound-size c.requires.sound) c.if-ledger-ne0.false c.args.name.end c.requires.span c.is_used.result c.is_used.ensures c.if-is_used.false c.if-ledger-eq64.true c.refuse-then-ledger-eq64.ensures

pub add-requires : goal.add-requires
add-requires c = let s = (standing c.requires.sound c.if-ledger-ne0.false).stands in record { ledger_len = sound-size c.requires.sound; counter_bound = (omega arith, omega arith, s.few_signals) }

pub returns : goal.returns
returns c = declare_fine c.args.text.now c.args.ledger.now c.args.name.start (sound-size c.requires.sound) c.if-ledger-ne0.false c.args.name.end c.requires.span c.is_used.result c.is_used.ensures c.if-is_used.false c.if-ledger-eq64.false c.add.ensures
