-- What is read behind the expression of an assignment: the text as far as its mark, and the delay.
-- Assumes nothing: these are definitions.
use Rattle.std.specs.Prelude.{ℕ, ◌≡◌, List, Result, Ok, Err}
use Rattle.syntax.proofs.Rows.{an_end, in_assignment}
use Rattle.names.specs.Judge.{State, fine}
use Rattle.names.specs.CircuitOf.{delay_femtoseconds}
use Rattle.ledger.specs.Inside.Standing.{Keeps}
use Rattle.reading.specs.Inside.Spots.{Reached, at_spot, reached}
use Rattle.reading.specs.Inside.Reading.{What, whole, silent, ending_roles, Reads}
use Rattle.reading.specs.declared.Unfit.{Unfit}
use Rattle.statements.specs.declared.Ending.{Ending}

-- where an answer leaves reading, and its delay
abbrev pub ending_reached : Result Ending Unfit → Reached
ending_reached (Ok e) = at_spot e.spot
ending_reached (Err r) = reached (Err r)

abbrev pub ending_delay : Result Ending Unfit → ℕ
ending_delay (Ok e) = e.delay
ending_delay (Err r) = 0

abbrev pub an_ending : What
an_ending = whole (an_end in_assignment) ending_roles silent

-- from p to q nothing is written; where nothing is refused, the delay is that of the text
pub record Ends (s : List ℕ) (room : ℕ) (p q : Reached) (delay : ℕ) (l l' v : List ℕ) : Type 0 where
  pub reads : Reads an_ending s room p q l l' v v
  pub lasts : (z : q.number ≡ 0) (y y' : State) → Keeps 0 s l (fine y) → (reads.judges z).after (fine y) ≡ fine y' → delay ≡ delay_femtoseconds reads.tree
