-- `cells::comes_next` meets its contract: what is known of the first signals. Assumes nothing.
use Prim.Native.Nat.{◌*◌, ◌^◌, ◌<◌}
use mathlib.Core.Path.{◌≡◌}
use Rattle.cells.specs.Inside.Moves.{Seen}
use Rattle.cells.proofs.comes_next.Given as goal

abbrev pub invariant-loop-signal : goal.invariant-loop-signal
invariant-loop-signal l = Seen l.cells l.signal l.next × (l.signal < 64 → l.bit ≡ 1 * 2 ^ l.signal)
