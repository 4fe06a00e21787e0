-- `ledger::belong` meets its contract.
-- Assumes nothing.
use mathlib.Core.Path.{refl, sym, ◌∙◌}
use native.Mathlib.Omega.{arith}
use Rattle.laws.specs.Pick.{same_list}
use Rattle.names.specs.Roles.{belongs}
use Rattle.look.specs.Inside.Looks.{name_at}
use Rattle.ledger.proofs.Keeping.{sound-size, stays}
use Rattle.ledger.proofs.Judging.{same_fine, same_refused}
use Rattle.ledger.proofs.belong.Goals as goal

pub returns-then-ledger-ne0 : goal.returns-then-ledger-ne0
returns-then-ledger-ne0 c = stays c.if-ledger-ne0.true

pub returns-then-same_name : goal.returns-then-same_name
returns-then-same_name c =
    same_fine c.args.text.now c.args.ledger.now c.args.name.start (sound-size c.requires.sound) c.if-ledger-ne0.false (belongs (name_at c.args.text.now c.args.own.start c.args.own.end) (name_at c.args.text.now c.args.name.start c.args.name.end)) 5 (same_list (name_at c.args.text.now c.args.own.start c.args.own.end) (name_at c.args.text.now c.args.name.start c.args.name.end))
    (λ y. refl) (sym c.same_name.ensures ∙ c.if-same_name.true)

pub refuse-requires : goal.refuse-requires
refuse-requires c = sound-size c.requires.sound

pub returns : goal.returns
returns c =
    same_refused c.args.text.now c.args.ledger.now c.args.name.start (sound-size c.requires.sound) c.if-ledger-ne0.false (belongs (name_at c.args.text.now c.args.own.start c.args.own.end) (name_at c.args.text.now c.args.name.start c.args.name.end)) 5 (same_list (name_at c.args.text.now c.args.own.start c.args.own.end) (name_at c.args.text.now c.args.name.start c.args.name.end))
    (λ y. refl) (omega arith) (sym c.same_name.ensures ∙ c.if-same_name.false) c.refuse.ensures
