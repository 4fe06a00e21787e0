-- `reader::process::more_listed` meets its contract: each return by its law.
-- Assumes nothing.
use Prim.Native.Nat.{ℕ, ◌-◌}
use mathlib.Core.Path.{◌≡◌}
use mathlib.Core.List.{List}
use lib.ListN.{length}
use Rattle.reading.specs.Inside.Spots.{Reached, at_spot}
use Rattle.syntax.proofs.Rows.{more_listed}
use Rattle.reading.specs.Inside.Reading.{Ready, Reads, whole, more_listed_roles, more_listed_draft}
use Rattle.reader.proofs.process.more_listed.Given as goal

abbrev pub invariant-loop-t : goal.invariant-loop-t
invariant-loop-t z = Ready 0 z.text (at_spot z.p) z.ledger × ((q : Reached) (l v : List ℕ) → Reads (whole more_listed more_listed_roles more_listed_draft) z.text 32 (at_spot z.p) q z.ledger l z.table v → Reads (whole more_listed more_listed_roles more_listed_draft) z.text 32 (at_spot z.initial.p) q z.initial.ledger l z.initial.table v) × (length z.table ≡ length z.initial.table)

abbrev pub decreases-loop-t : goal.decreases-loop-t
decreases-loop-t l = length l.text - l.p.at
