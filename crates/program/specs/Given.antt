-- What a program is given. Assumes nothing: these are definitions.
use Rattle.std.specs.Prelude.{ℕ, ◌≤◌, ◌≡◌, Result, Ok, Err}
use Rattle.std.proofs.Common.{arith}
use Rattle.words.specs.Unit.{longest}
use Rattle.refusal.specs.declared.Reason.{Reason}
use Rattle.refusal.specs.declared.Reason.TheVariants.{Stop}

-- a stop is at most 10^18, and what is none is refused 12
abbrev pub InTime : Result ℕ Reason → Type 0
InTime (Ok time) = time ≤ longest
InTime (Err reason) = reason ≡ Stop

-- 10^18 itself is in time
the_last : InTime (Ok 1_000_000_000_000_000_000)
the_last = omega arith
