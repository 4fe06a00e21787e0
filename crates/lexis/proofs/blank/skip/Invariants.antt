-- `lexis::blank::skip` meets its contract: what is skipped from i on ends where all that is skipped ends.
-- Assumes nothing.
use Rattle.std.proofs.Common.{◌≡◌, false, drop}
use Rattle.lexis.specs.Blank.{skip_from}
use Rattle.lexis.proofs.blank.skip.Given as goal

abbrev pub invariant-loop-i : goal.invariant-loop-i
invariant-loop-i l = skip_from l.inside l.i (drop l.i l.text) ≡ skip_from false 0 l.text
