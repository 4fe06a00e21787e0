-- `reader::process::listened` meets its contract: each return by its law.
-- Assumes nothing.
use mathlib.Core.Path.{refl}
use mathlib.Core.List.{[]}
use native.Mathlib.Omega.{arith}
use Rattle.names.specs.Roles.{listens}
use Rattle.reading.proofs.Generic.{reads-ends, span}
use Rattle.reader.proofs.Declarations.{name-unfit}
use Rattle.reader.proofs.Processes.{listened_read}
use Rattle.reader.proofs.process.listened.Goals as goal

pub returns-in_err-t : goal.returns-in_err-t
returns-in_err-t c = let k = c.in_err-t.ensures in reads-ends {n = 0} {l' = []} {v' = []} c.from_residual.result _ c.from_residual.ensures.1 (rw k.1 (name-unfit c.requires.inside refl refl listens 0 k.0))

pub listen-k-requires : goal.listen-k-requires
listen-k-requires c = let k = c.in_ok-t.ensures in record { sound = c.requires.sound refl; span = span c.requires.inside k.0 (λ z. omega (arith, k.1, z)) }

pub returns : goal.returns
returns c = let k = c.in_ok-t.ensures in rw c.past.ensures (listened_read c.requires.inside refl k.0 k.1 c.listen-k.ensures.judges c.listen-k.ensures.numbers c.wake.ensures)
