-- The nesting room falls along the cycle; chain's loop reads on from where it is. Assumes nothing.
use Rattle.std.proofs.Common.{ℕ, ◌≡◌, List, length, ◌+◌, ◌-◌, ◌*◌}
use Rattle.look.specs.Inside.Looks.{chain_of}
use Rattle.look.specs.Inside.Tokens.{number_of}
use Rattle.reading.specs.Inside.Spots.{Reached, at_spot}
use Rattle.reading.specs.Inside.Reading.{Ready, Reads, a_more}
use Rattle.expressions.proofs.+chain_expression_factor_primary_tail.Given as goal

abbrev pub decreases-chain : goal.decreases-chain
decreases-chain l = 8 * l.room + 2

abbrev pub decreases-expression : goal.decreases-expression
decreases-expression l = 8 * l.room + 4

abbrev pub decreases-factor : goal.decreases-factor
decreases-factor l = 8 * l.room + 1

abbrev pub decreases-primary : goal.decreases-primary
decreases-primary l = 8 * l.room

abbrev pub decreases-tail : goal.decreases-tail
decreases-tail l = 8 * l.room + 3

abbrev pub invariant-chain-loop-joint : goal.invariant-chain-loop-joint
invariant-chain-loop-joint l = Ready 0 l.text (at_spot l.p) l.ledger × ((q : Reached) (m v : List ℕ) → Reads (a_more (chain_of (number_of l.joint))) l.text l.room (at_spot l.p) q l.ledger m l.table v → Reads (a_more (chain_of (number_of l.joint))) l.text l.room (at_spot l.initial.p) q l.initial.ledger m l.initial.table v) × (length l.table ≡ length l.initial.table)

abbrev pub decreases-chain-loop-joint : goal.decreases-chain-loop-joint
decreases-chain-loop-joint l = length l.text - l.p.at
