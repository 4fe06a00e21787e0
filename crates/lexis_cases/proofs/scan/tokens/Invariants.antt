-- `lexis_cases::scan::tokens`: the place stays within the text, and each token takes it further.
use Rattle.std.proofs.Common.{length, ◌-◌, ◌≤◌}
use Rattle.lexis_cases.proofs.scan.tokens.Given as goal

abbrev pub invariant-loop-found : goal.invariant-loop-found
invariant-loop-found g l = l.n ≤ length l.text

abbrev pub decreases-loop-found : goal.decreases-loop-found
decreases-loop-found g l = length l.text - l.n
