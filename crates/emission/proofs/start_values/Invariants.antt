-- `emission::start_values` meets its contract: the loop has written a one for each signal passed. Assumes nothing.
use Prim.Native.Nat.{◌+◌, ◌-◌, ◌≤◌}
use mathlib.Core.Path.{◌≡◌}
use Rattle.emission.specs.Inside.Draft.{ones}
use Rattle.emission.proofs.start_values.Given as goal

abbrev pub invariant-loop-k : goal.invariant-loop-k
invariant-loop-k l = (l.k - l.from ≤ l.to - l.from) × (l.table ≡ ones l.initial.table (3 + l.from) (l.k - l.from))
