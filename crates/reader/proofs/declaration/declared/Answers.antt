-- `reader::declaration::declared` meets its contract: each return by its law.
-- Assumes nothing.
use mathlib.Core.Path.{refl}
use mathlib.Core.List.{[]}
use native.Mathlib.Omega.{arith}
use Rattle.names.specs.Roles.{declares}
use Rattle.reading.proofs.Generic.{reads-ends, span}
use Rattle.reader.proofs.Declarations.{name-read, name-unfit}
use Rattle.reader.proofs.declaration.declared.Goals as goal

pub returns-in_err-t : goal.returns-in_err-t
returns-in_err-t c = let k = c.in_err-t.ensures in λ v. reads-ends {n = 0} {l' = []} {v' = v} c.from_residual.result _ c.from_residual.ensures.1 (rw k.1 (name-unfit c.requires.inside refl refl declares 0 k.0))

pub declare-requires : goal.declare-requires
declare-requires c = let k = c.in_ok-t.ensures in record { sound = c.requires.sound refl; span = span c.requires.inside k.0 (λ z. omega (arith, k.1, z)) }

pub returns : goal.returns
returns c = let k = c.in_ok-t.ensures in rw c.past.ensures (λ v. name-read c.requires.inside refl k.0 declares k.1 c.declare.ensures)
