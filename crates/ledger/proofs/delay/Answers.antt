-- `ledger::delay` meets its contract.
-- Assumes nothing.
use mathlib.Core.Path.{sym, ◌∙◌}
use Rattle.words.specs.Integer.{value_of}
use Rattle.look.specs.Inside.Looks.{part}
use Rattle.ledger.proofs.Delays.{lasts, lasts_too_long, lasts-nothing}
use Rattle.ledger.proofs.Keeping.{sound-size, stays}
use Rattle.ledger.proofs.Judging.{delay-fine, delay-refused}
use Rattle.ledger.proofs.delay.Goals as goal

pub returns-then-ledger-ne0 : goal.returns-then-ledger-ne0
returns-then-ledger-ne0 c = record { judges = stays c.if-ledger-ne0.true; lasts = lasts-nothing (value_of (part c.args.text.now c.args.integer.start c.args.integer.end)) c.args.unit c.args.ledger.now c.if-ledger-ne0.true }

pub returns-in-Some : goal.returns-in-Some
returns-in-Some c = record { judges = delay-fine c.args.text.now c.args.ledger.now c.args.integer.start (sound-size c.requires.sound) c.if-ledger-ne0.false (value_of (part c.args.text.now c.args.integer.start c.args.integer.end)) c.args.unit c.in-Some.time (sym c.time_of.ensures ∙ c.in-Some.is); lasts = lasts (value_of (part c.args.text.now c.args.integer.start c.args.integer.end)) c.args.unit c.args.ledger.now c.in-Some.time (sym c.time_of.ensures ∙ c.in-Some.is) }

pub refuse-requires : goal.refuse-requires
refuse-requires c = sound-size c.requires.sound

pub returns-in-None : goal.returns-in-None
returns-in-None c = record { judges = delay-refused c.args.text.now c.args.ledger.now c.args.integer.start (sound-size c.requires.sound) c.if-ledger-ne0.false (value_of (part c.args.text.now c.args.integer.start c.args.integer.end)) c.args.unit (sym c.time_of.ensures ∙ c.in-None.is) c.refuse.ensures; lasts = lasts_too_long (value_of (part c.args.text.now c.args.integer.start c.args.integer.end)) c.args.unit c.args.ledger.now (sym c.time_of.ensures ∙ c.in-None.is) }
