-- `lexis::token::first_refused` meets its contract: what is refused first from n on is what is refused first in all.
-- Assumes nothing.
use Prim.Native.Nat.{◌-◌, ◌≤◌}
use mathlib.Core.Path.{◌≡◌}
use lib.ListN.{length, drop}
use Rattle.lexis.specs.Token.{first_refused}
use Rattle.lexis.proofs.Scans.{refused_at}
use Rattle.lexis.proofs.token.first_refused.Given as goal

abbrev pub invariant-loop-token : goal.invariant-loop-token
invariant-loop-token l = (l.n ≤ length l.text) × (refused_at l.n (drop l.n l.text) ≡ first_refused l.text)

abbrev pub decreases-loop-token : goal.decreases-loop-token
decreases-loop-token l = length l.text - l.n
