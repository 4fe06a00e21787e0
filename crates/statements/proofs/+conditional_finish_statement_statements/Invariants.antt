-- The nesting room falls along the cycle; the loop of statements reads on from where it is. Assumes nothing.
use Rattle.std.proofs.Common.{ℕ, ◌≡◌, List, length, ◌+◌, ◌-◌, ◌*◌}
use Rattle.reading.specs.Inside.Spots.{Reached, at_spot}
use Rattle.reading.specs.Inside.Reading.{Ready, Reads, some_statements}
use Rattle.statements.proofs.+conditional_finish_statement_statements.Given as goal

abbrev pub decreases-conditional : goal.decreases-conditional
decreases-conditional l = 8 * l.room + 1

abbrev pub decreases-finish : goal.decreases-finish
decreases-finish l = 8 * l.room + 4

abbrev pub decreases-statement : goal.decreases-statement
decreases-statement l = 8 * l.room + 2

abbrev pub decreases-statements : goal.decreases-statements
decreases-statements l = 8 * l.room + 3

abbrev pub invariant-statements-loop-t : goal.invariant-statements-loop-t
invariant-statements-loop-t l = Ready 0 l.text (at_spot l.p) l.ledger × ((q : Reached) (m v : List ℕ) → Reads some_statements l.text l.room (at_spot l.p) q l.ledger m l.table v → Reads some_statements l.text l.room (at_spot l.initial.p) q l.initial.ledger m l.initial.table v) × (length l.table ≡ length l.initial.table)

abbrev pub decreases-statements-loop-t : goal.decreases-statements-loop-t
decreases-statements-loop-t l = length l.text - l.p.at
