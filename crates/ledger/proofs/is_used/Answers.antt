-- `ledger::is_used` meets its contract: among the signals, or else among the labels.
-- Assumes nothing.
use mathlib.Core.Path.{◌∙◌}
use lib.ListN.{get_or}
use Rattle.look.specs.Inside.Looks.{name_at}
use Rattle.ledger.proofs.Shelves.{among-finds}
use Rattle.ledger.proofs.is_used.Goals as goal

pub find-requires : goal.find-requires
find-requires c = record { shelf = c.requires.signals; span = c.requires.span }

pub returns-then-is_some : goal.returns-then-is_some
returns-then-is_some c =
    let e = among-finds c.args.text.now c.args.ledger.now 6 (get_or c.args.ledger.now 2 0) (name_at c.args.text.now c.args.name.start c.args.name.end) c.find.result c.find.ensures in
    rw (← e, ← c.is_some.ensures, c.if-is_some.true)

pub returns-else-is_some : goal.returns-else-is_some
returns-else-is_some c =
    let e = among-finds c.args.text.now c.args.ledger.now 6 (get_or c.args.ledger.now 2 0) (name_at c.args.text.now c.args.name.start c.args.name.end) c.find.result c.find.ensures in
    let f = among-finds c.args.text.now c.args.ledger.now 134 (get_or c.args.ledger.now 3 0) (name_at c.args.text.now c.args.name.start c.args.name.end) c.find-else-is_some.result c.find-else-is_some.ensures in
    rw (← e, ← c.is_some.ensures, c.if-is_some.false) (c.is_some-else-is_some.ensures ∙ f)
