-- `lexis_bench::lexis_bench_names` is safe and ends: each token lies within the rest of the text, and is not empty, so there are no
-- more names than bytes. Assumes nothing.
use Prim.Native.Nat.{◌-◌, ◌≤◌}
use lib.ListN.{length}
use Rattle.lexis_bench.proofs.lexis_bench_names.Given as goal

abbrev pub invariant-loop-token : goal.invariant-loop-token
invariant-loop-token l = (l.n ≤ length l.text) × (l.names ≤ l.n)

abbrev pub decreases-loop-token : goal.decreases-loop-token
decreases-loop-token l = length l.text - l.n
