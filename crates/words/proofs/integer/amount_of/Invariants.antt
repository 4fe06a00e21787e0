-- `words::integer::amount_of` meets its contract: the value so far, with the digits that are left, has the value of the whole run.
-- Assumes nothing.
use Prim.Native.Nat.{◌≤◌}
use mathlib.Core.Path.{◌≡◌}
use lib.ListN.{drop}
use Rattle.words.specs.Unit.{longest}
use Rattle.words.specs.Integer.{value_from, value_of}
use Rattle.words.proofs.integer.amount_of.Given as goal

abbrev pub invariant-loop-byte : goal.invariant-loop-byte
invariant-loop-byte l = (value_from l.sum (drop l.byte-index l.run) ≡ value_of l.run) × (l.sum ≤ longest)
