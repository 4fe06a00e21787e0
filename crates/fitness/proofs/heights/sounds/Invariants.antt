-- `fitness::heights::sounds` meets its contract: the processes below p keep the rules, and nothing is known beyond.
-- Assumes nothing.
use mathlib.Core.Path.{◌≡◌}
use Rattle.table.specs.Table.{begins}
use Rattle.layout.proofs.Tables.{decode_table}
use Rattle.fitness.specs.Inside.Parts.{Sounds}
use Rattle.fitness.specs.Inside.Heights.{Fresh}
use Rattle.fitness.proofs.heights.sounds.Given as goal

abbrev pub invariant-loop-p : goal.invariant-loop-p
invariant-loop-p l = (l.from ≡ begins (decode_table l.words) l.p) × Fresh l.from l.hs × Sounds (decode_table l.words) l.p
