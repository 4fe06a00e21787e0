-- `writing::copy` meets its contract: a part is written as one. Assumes nothing.
use Prim.Native.Nat.{◌+◌, ◌-◌}
use native.Mathlib.Omega.{arith}
use mathlib.Core.Path.{refl}
use lib.ListN.{length}
use Rattle.laws.proofs.Parts.{part_sets}
use Rattle.writing.proofs.copy.Goals as goal

pub returns : goal.returns
returns c =
    let a = c.args in
    record {
      bytes = part_sets a.out.now c.copy_from_slice.new.self a.text.now a.at (a.at + length a.text.now - a.at) c.copy_from_slice.ensures.after (omega arith) c.requires;
      end = refl;
    }
