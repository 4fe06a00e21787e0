-- The line of one signal of the header. Assumes nothing: these are definitions.
use Rattle.std.specs.Prelude.{ℕ, List, ◌∷◌, ◌++◌}
use Rattle.laws.specs.Text.{bytes}
use Rattle.words.specs.Token.{Name}
use Rattle.rules.specs.Dump.{identifier}

unfoldable pub variable : ℕ → Name → List ℕ
variable k name = bytes "$var wire 1 " ++ (identifier k ∷ bytes " " ++ (name ++ bytes " $end\n"))
