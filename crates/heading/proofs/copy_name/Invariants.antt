-- `heading::copy_name` meets its contract: the first i bytes are copied.
-- Assumes nothing.
use Prim.Native.Nat.{◌≤◌}
use mathlib.Core.Path.{◌≡◌}
use lib.ListN.{length, take}
use lib.Seq.{sets}
use Rattle.words.specs.Vocabulary.{lower}
use Rattle.heading.proofs.copy_name.Given as goal

abbrev pub invariant-loop-i : goal.invariant-loop-i
invariant-loop-i l = (l.i ≤ length l.name) × (l.out ≡ sets l.initial.out l.at (take l.i (lower l.name)))
