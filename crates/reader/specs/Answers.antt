-- What `check` answers of a text: whether it is accepted, and else its refusal, with its place, for each case of the answer.
-- Assumes nothing: these are definitions.
use Rattle.std.specs.Prelude.{ℕ, List, Result, Ok, Err}
use Rattle.refusal.specs.declared.Refusal.{Refusal}
use Rattle.refusal.specs.Numbers.{number_of}
use Rattle.syntax.specs.Tree.{Design}
use Rattle.names.specs.Text.{accepts, refuses, Gets}

-- 1 has no place: 0
abbrev pub Answers : List ℕ → Result (Unit {0}) Refusal → Type 0
Answers text (Ok done) = (d : Design) × Gets text (accepts d)
Answers text (Err refusal) = Gets text (refuses (number_of refusal.reason) refusal.place)
