-- Demand 3 for every accepted text, over the definitions: its table is fit, and all calls answer over the table as over the statements.
-- Assumes nothing.
use Prim.Native.Nat.{ℕ}
use mathlib.Core.List.{List}
use Rattle.syntax.specs.Tree.{Design}
use Rattle.names.specs.CircuitOf.{circuit_of}
use Rattle.names.specs.Text.{accepts, Gets}
use Rattle.names.proofs.Answer.{accepted-sized}
use Rattle.table.proofs.Demand3.{SameCalls, demand_3}

pub accepted_same_calls : (text : List ℕ) (d : Design) → Gets text (accepts d) → SameCalls (circuit_of d)
accepted_same_calls text d g = demand_3 (circuit_of d) (accepted-sized text d g)
