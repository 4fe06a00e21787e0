-- `ledger::shelf::find` meets its contract: the number among the names from i on, counted from i, is the number among all.
-- Assumes nothing.
use Prim.Native.Nat.{◌+◌, ◌-◌, ◌*◌}
use mathlib.Core.Path.{◌≡◌}
use Rattle.look.specs.Inside.Looks.{name_at}
use Rattle.names.specs.Judge.{number_of}
use Rattle.ledger.specs.Inside.Standing.{names_from}
use Rattle.ledger.proofs.shelf.find.Given as goal

abbrev pub invariant-loop-i : goal.invariant-loop-i
invariant-loop-i l =
    l.i + number_of (name_at l.text l.name.start l.name.end) (names_from l.text l.ledger (l.base + 2 * l.i) (l.count - l.i)) ≡ number_of (name_at l.text l.name.start l.name.end) (names_from l.text l.ledger l.base l.count)
