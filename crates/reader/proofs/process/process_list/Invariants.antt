-- `reader::process::process_list` meets its contract: each return by its law.
-- Assumes nothing.
use Prim.Native.Nat.{ℕ, ◌-◌}
use mathlib.Core.Path.{◌≡◌}
use mathlib.Core.List.{List}
use lib.ListN.{length}
use Rattle.reading.specs.Inside.Spots.{Reached, at_spot}
use Rattle.syntax.proofs.Rows.{processes}
use Rattle.emission.specs.Inside.Draft.{processes_draft}
use Rattle.reading.specs.Inside.Reading.{Ready, Reads, whole, processes_end_roles}
use Rattle.reader.proofs.process.process_list.Given as goal

abbrev pub invariant-loop-t : goal.invariant-loop-t
invariant-loop-t z = Ready 0 z.text (at_spot z.p) z.ledger × ((q : Reached) (l v : List ℕ) → Reads (whole processes processes_end_roles processes_draft) z.text 32 (at_spot z.p) q z.ledger l z.table v → Reads (whole processes processes_end_roles processes_draft) z.text 32 (at_spot z.initial.p) q z.initial.ledger l z.initial.table v) × (length z.table ≡ length z.initial.table)

abbrev pub decreases-loop-t : goal.decreases-loop-t
decreases-loop-t l = length l.text - l.p.at
