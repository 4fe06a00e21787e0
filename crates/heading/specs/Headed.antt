-- What `header` answers of a text and a lent buffer, and what it leaves in the buffer, for each case of the answer.
-- Assumes nothing: these are definitions.
use Rattle.std.specs.Prelude.{ℕ, ◌≤◌, ◌<◌, ◌≡◌, List, length, Result, Ok, Err}
use Rattle.std.proofs.lemmas.List.Edits.{sets}
use Rattle.syntax.specs.Tree.{Design}
use Rattle.rules.specs.Sizes.{buffer_bytes}
use Rattle.rules.specs.Dump.{header}
use Rattle.names.specs.CircuitOf.{entity_name, signal_names}
use Rattle.names.specs.Text.{accepts, refuses, Gets}
use Rattle.refusal.specs.declared.Refusal.{Refusal}
use Rattle.refusal.specs.Numbers.{number_of}

-- 11 comes before all others, and has no place: 0
pub data RefusedWith (text out : List ℕ) : ℕ → ℕ → Type 0 where
  short : length out < buffer_bytes → RefusedWith text out 11 0
  turned : {number place : ℕ} → buffer_bytes ≤ length out → Gets text (refuses number place) → RefusedWith text out number place

-- the header's bytes stand in front of what stood behind them
pub record Shows (text out : List ℕ) (count : ℕ) (after : List ℕ) : Type 0 where
  pub long : buffer_bytes ≤ length out
  pub tree : Design
  pub gets : Gets text (accepts tree)
  pub counted : count ≡ length (header (entity_name tree) (signal_names tree))
  pub bytes : after ≡ sets out 0 (header (entity_name tree) (signal_names tree))

abbrev pub Heads : (text out : List ℕ) → Result ℕ Refusal → List ℕ → Type 0
Heads text out (Ok count) after = Shows text out count after
Heads text out (Err refusal) after = RefusedWith text out (number_of refusal.reason) refusal.place × (after ≡ out)
