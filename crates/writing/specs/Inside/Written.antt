-- Bytes written to a buffer from a place on: they stand there, the others stay, and the answer is the place behind them.
-- Assumes nothing.
use Rattle.std.specs.Prelude.{ℕ, suc, ◌+◌, ◌≡◌, List, [], ◌∷◌, ◌++◌, length}
use Rattle.std.proofs.lemmas.List.Edits.{sets}
use Rattle.laws.specs.Pick.{pick}
use Rattle.rules.specs.Formulas.{Values}
use Rattle.rules.specs.Dump.{shown}
use Rattle.table.specs.Table.{bit}

pub record Writes (out : List ℕ) (at : ℕ) (text : List ℕ) (r : ℕ) (after : List ℕ) : Type 0 where
  pub bytes : after ≡ sets out at text
  pub end : r ≡ at + length text

-- the lines of the signals from k on whose bits are set
unfoldable pub chosen : ℕ → ℕ → Values → List ℕ
chosen word k [] = []
chosen word k (v ∷ vs) = pick (bit word k) (shown k v) [] ++ chosen word (suc k) vs
