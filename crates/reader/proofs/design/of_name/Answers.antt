-- `reader::design::of_name` meets its contract: each return by its law.
-- Assumes nothing.
use mathlib.Core.Path.{refl}
use mathlib.Core.List.{[]}
use native.Mathlib.Omega.{arith}
use Rattle.names.specs.Roles.{belongs}
use Rattle.look.specs.Inside.Looks.{name_at}
use Rattle.reading.proofs.Generic.{reads-ends, span}
use Rattle.reader.proofs.Declarations.{name-read, name-unfit}
use Rattle.reader.proofs.design.of_name.Goals as goal

pub returns-in_err-t : goal.returns-in_err-t
returns-in_err-t c = let k = c.in_err-t.ensures in λ v. reads-ends {n = 0} {l' = []} {v' = v} c.from_residual.result _ c.from_residual.ensures.1 (rw k.1 (name-unfit c.requires.0.inside refl refl (belongs (name_at c.args.text.now c.args.entity.start c.args.entity.end)) 0 k.0))

pub belong-requires : goal.belong-requires
belong-requires c = let k = c.in_ok-t.ensures in record { sound = c.requires.0.sound refl; span = (c.requires.1, span c.requires.0.inside k.0 (λ z. omega (arith, k.1, z))) }

pub returns : goal.returns
returns c = let k = c.in_ok-t.ensures in rw c.past.ensures (λ v. name-read c.requires.0.inside refl k.0 (belongs (name_at c.args.text.now c.args.entity.start c.args.entity.end)) k.1 c.belong.ensures)
