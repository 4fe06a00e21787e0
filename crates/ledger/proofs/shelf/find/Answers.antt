-- `ledger::shelf::find` meets its contract: the number among the names from i on, counted from i, is the number among all.
-- Assumes nothing.
use Prim.Native.Nat.{◌+◌, ◌*◌}
use mathlib.Core.Path.{◌≡◌, sym, ◌∙◌}
use native.Mathlib.Omega.{arith}
use lib.ListN.{get_or}
use Rattle.laws.specs.Pick.{same_list}
use Rattle.look.specs.Inside.Looks.{name_at}
use Rattle.ledger.proofs.Shelves.{find_hit, find_miss, find_none, find_first}
use Rattle.ledger.proofs.shelf.find.Goals as goal

pub loop-i-init : goal.loop-i-init
loop-i-init c = find_first c.args.text.now c.args.ledger.now c.args.base c.args.count (name_at c.args.text.now c.args.name.start c.args.name.end)

pub is_same-requires : goal.is_same-requires
is_same-requires c = record { ledger_len = (c.requires.shelf.size, omega arith); kept = c.requires.shelf.spans c.loop-i.i c.loop-i-test.true; asked = c.requires.span }

pub returns-then-is_same : goal.returns-then-is_same
unfolding name_at
returns-then-is_same c =
    let same : c.is_same.result ≡ same_list (name_at c.args.text.now (get_or c.args.ledger.now (c.args.base + 2 * c.loop-i.i) 0) (get_or c.args.ledger.now (c.args.base + 2 * c.loop-i.i + 1) 0)) (name_at c.args.text.now c.args.name.start c.args.name.end) =
    c.is_same.ensures in
    (omega arith, sym (find_hit c.args.text.now c.args.ledger.now c.args.base c.args.count c.loop-i.i (name_at c.args.text.now c.args.name.start c.args.name.end) c.loop-i-test.true c.is_same.result same c.if-is_same.true) ∙ c.loop-i.invariant)

pub loop-i-preserved : goal.loop-i-preserved
unfolding name_at
loop-i-preserved c =
    let same : c.is_same.result ≡ same_list (name_at c.args.text.now (get_or c.args.ledger.now (c.args.base + 2 * c.loop-i.i) 0) (get_or c.args.ledger.now (c.args.base + 2 * c.loop-i.i + 1) 0)) (name_at c.args.text.now c.args.name.start c.args.name.end) =
    c.is_same.ensures in
    find_miss c.args.text.now c.args.ledger.now c.args.base c.args.count c.loop-i.i (name_at c.args.text.now c.args.name.start c.args.name.end) c.loop-i-test.true c.is_same.result same c.if-is_same.false ∙ c.loop-i.invariant

pub returns : goal.returns
returns c =
    let i : c.loop-i.i ≡ c.args.count = omega arith in
    sym i ∙ sym (find_none c.args.text.now c.args.ledger.now c.args.base c.args.count c.loop-i.i (name_at c.args.text.now c.args.name.start c.args.name.end) c.loop-i-test.false c.loop-i.auto.i-end) ∙ c.loop-i.invariant
