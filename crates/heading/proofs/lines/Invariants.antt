-- `heading::lines` meets its contract: one after the other.
-- Assumes nothing.
use Prim.Native.Nat.{◌+◌, ◌≤◌}
use mathlib.Core.Path.{◌≡◌}
use lib.ListN.{length}
use Rattle.rules.specs.Dump.{variables}
use Rattle.heading.proofs.Rows.{names_on, Onward}
use Rattle.heading.proofs.lines.Given as goal

abbrev pub invariant-loop-k : goal.invariant-loop-k
invariant-loop-k l = Onward l.text l.ledger l.count l.initial.out l.at l.out l.place l.k × (l.place + length (variables l.k (names_on l.text l.ledger l.count l.k)) ≤ length l.out) × (length l.out ≡ length l.initial.out)
