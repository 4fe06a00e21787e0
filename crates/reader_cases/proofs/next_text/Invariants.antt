-- `reader_cases::next_text`: what is filled lies within the text.
use Rattle.std.proofs.Common.{◌≤◌, length}
use Rattle.reader_cases.proofs.next_text.Given as goal

abbrev pub invariant-loop : goal.invariant-loop
invariant-loop g l = l.filled ≤ length l.text
