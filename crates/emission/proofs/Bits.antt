-- The bit of a process is at most half of a word. Assumes nothing.
use Prim.Native.Nat.{ℕ, ◌-◌, ◌^◌, ◌≤◌}
use native.Mathlib.Omega.{arith}
use lib.Pow.{pow_mono}
use Rattle.laws.proofs.Ranges.{Ranged, ranged, below, inside, above}
use Rattle.emission.specs.Inside.Draft.{bit_of}

pub bit-small : (p : ℕ) → bit_of p ≤ 2 ^ 63
bit-small p = by (ranged 1 64 p)
  where
    by : Ranged 1 64 p → bit_of p ≤ 2 ^ 63
    by (below e l) = rw e (omega arith)
    by (inside e l h) = rw e (pow_mono {i = p - 1} {j = 63} (omega arith))
    by (above e l) = rw e (omega arith)
