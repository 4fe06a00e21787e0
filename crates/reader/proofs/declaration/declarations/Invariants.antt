-- `reader::declaration::declarations` meets its contract: each return by its law.
-- Assumes nothing.
use Prim.Native.Nat.{ℕ, ◌-◌}
use mathlib.Core.Path.{◌≡◌}
use mathlib.Core.List.{List}
use lib.ListN.{length}
use Rattle.reading.specs.Inside.Spots.{Reached, at_spot}
use Rattle.syntax.proofs.Rows.{signals}
use Rattle.emission.specs.Inside.Draft.{declarations_draft}
use Rattle.reading.specs.Inside.Reading.{Ready, Reads, whole, signals_roles}
use Rattle.reader.proofs.declaration.declarations.Given as goal

abbrev pub invariant-loop-t : goal.invariant-loop-t
invariant-loop-t z = Ready 0 z.text (at_spot z.p) z.ledger × ((q : Reached) (l v : List ℕ) → Reads (whole signals signals_roles declarations_draft) z.text 32 (at_spot z.p) q z.ledger l z.table v → Reads (whole signals signals_roles declarations_draft) z.text 32 (at_spot z.initial.p) q z.initial.ledger l z.initial.table v) × (length z.table ≡ length z.initial.table)

abbrev pub decreases-loop-t : goal.decreases-loop-t
decreases-loop-t l = length l.text - l.p.at
