-- What the tests of all parts say together. Assumes nothing: this is a definition.
use Rattle.std.specs.Prelude.{ℕ, List}
use Rattle.layout.proofs.Tables.{decode_table}
use Rattle.fitness.specs.Inside.Parts.{processes, Ready, Used, Unused, Sounds}
use Rattle.fitness.specs.Inside.Drivers.{Alone}

pub record Tested (words : List ℕ) : Type 0 where
  pub ready : Ready words
  pub unused : Unused words
  pub used : Used words
  pub sound : Sounds (decode_table words) (processes words)
  pub alone : Alone (decode_table words) (processes words)
