-- `ledger::close` meets its contract: a process without a label has no name that another could be the same as.
-- Assumes nothing.
use mathlib.Core.Bool.{false}
use mathlib.Core.Path.{refl, sym, ◌∙◌}
use native.Mathlib.Omega.{arith}
use Rattle.std.proofs.Math.Option.{some, none}
use Rattle.laws.specs.Pick.{same_list}
use Rattle.names.specs.Roles.{closes}
use Rattle.look.specs.Inside.Looks.{name_at}
use Rattle.ledger.proofs.Keeping.{sound-size, stays}
use Rattle.ledger.proofs.Judging.{same_refused}
use Rattle.ledger.proofs.close.Goals as goal
use Rattle.ledger.proofs.close.Goals.{in-Some+else-same_name, in_default}

pub returns-then-ledger-ne0 : goal.returns-then-ledger-ne0
returns-then-ledger-ne0 c = stays c.if-ledger-ne0.true

pub refuse-requires : goal.refuse-requires
refuse-requires c = sound-size c.requires.sound

pub returns : goal.returns
returns c = elim c.match-own.branch [
  | in-Some+else-same_name w ↦ rw w.in-Some.is (
      same_refused c.args.text.now c.args.ledger.now c.args.name.start (sound-size c.requires.sound) c.if-ledger-ne0.false (closes (some (name_at c.args.text.now w.in-Some.own.start w.in-Some.own.end)) (name_at c.args.text.now c.args.name.start c.args.name.end)) 7 (same_list (name_at c.args.text.now w.in-Some.own.start w.in-Some.own.end) (name_at c.args.text.now c.args.name.start c.args.name.end))
      (λ y. refl) (omega arith) (sym w.same_name.ensures ∙ w.if-same_name.false) c.refuse.ensures)
  | in_default w ↦ rw w.in_default.is (
      same_refused c.args.text.now c.args.ledger.now c.args.name.start (sound-size c.requires.sound) c.if-ledger-ne0.false (closes none (name_at c.args.text.now c.args.name.start c.args.name.end)) 7 false (λ y. refl) (omega arith) refl
      c.refuse.ensures)
]
