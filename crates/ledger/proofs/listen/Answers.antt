-- `ledger::listen` meets its contract.
-- Assumes nothing.
use mathlib.Core.Path.{refl}
use native.Mathlib.Omega.{arith}
use Rattle.names.specs.Roles.{listens}
use Rattle.look.specs.Inside.Looks.{name_at}
use Rattle.ledger.proofs.Keeping.{standing, sound-size, stays, no_number, numbers, refusing}
use Rattle.ledger.proofs.Judging.{undeclared-refused, listen_fine}
use Rattle.ledger.proofs.listen.Goals as goal

pub returns-then-ledger-ne0 : goal.returns-then-ledger-ne0
returns-then-ledger-ne0 c =
    record { judges = stays c.if-ledger-ne0.true; numbers = no_number c.if-ledger-ne0.true; below = λ z. absurd (c.if-ledger-ne0.true z) }

pub find-requires : goal.find-requires
find-requires c = record { shelf = (standing c.requires.sound c.if-ledger-ne0.false).stands.signals; span = c.requires.span }

pub returns-in-Some : goal.returns-in-Some
returns-in-Some c =
    let s = standing c.requires.sound c.if-ledger-ne0.false in
    record {
      judges = listen_fine c.args.text.now c.args.ledger.now c.args.name.start (sound-size c.requires.sound) c.if-ledger-ne0.false (name_at c.args.text.now c.args.name.start c.args.name.end) c.in-Some.number c.in-Some.ensures.1 c.in-Some.ensures.0;
      numbers = numbers c.in-Some.number s c.in-Some.ensures.1;
      below = λ z. omega (arith, c.in-Some.ensures.0, s.stands.few_signals);
    }

pub refuse-requires : goal.refuse-requires
refuse-requires c = sound-size c.requires.sound

pub returns-in-None : goal.returns-in-None
returns-in-None c =
    let s = standing c.requires.sound c.if-ledger-ne0.false in
    record {
      judges = undeclared-refused c.args.text.now c.args.ledger.now c.args.name.start (sound-size c.requires.sound) c.if-ledger-ne0.false (name_at c.args.text.now c.args.name.start c.args.name.end) _ c.in-None.ensures (listens (name_at c.args.text.now c.args.name.start c.args.name.end)) _ (λ y. refl) refl c.refuse.ensures;
      numbers = numbers _ s c.in-None.ensures;
      below = λ z. absurd (omega (arith, (refusing c.args.ledger.now c.args.name.start 5 c.refuse.ensures (omega arith) (sound-size c.requires.sound)).number_is));
    }
