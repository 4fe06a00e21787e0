-- The session that a struct of count, time and cells is, and what its methods do: post, take the changes of a time, run a cycle.
-- Assumes nothing: these are definitions.
use Rattle.std.specs.Prelude.{ℕ, ◌+◌, ◌≡◌, Bool, List, map, Result, Ok, Err}
use Rattle.refusal.specs.declared.Reason.{Reason}
use Rattle.refusal.specs.declared.Reason.TheVariants.{Pending}
use Rattle.rules.specs.Outcome.{refuses, gives}
use Rattle.rules.specs.Pending.{change, post, kept, values_at}
use Rattle.rules.specs.Runner.{Runner}
use Rattle.rules.specs.Session.{Session}
use Rattle.rules.specs.Calls.{Progress, cycle}
use Rattle.cells.specs.Cells.{values, pendings, FitFor, told}
use Rattle.machine.specs.declared.Ran.{Ran}
use Rattle.session.specs.declared.Session.{Session as Held}

abbrev pub session_in : Held → Session
session_in s = record { time = s.time; values = values s.count s.cells; pending = pendings s.count s.cells }

-- its cells are as they should be
abbrev pub FitHeld : Held → Type 0
FitHeld s = FitFor s.count s.cells

-- a post, or its refusal
pub record PostsAs (s : Held) (k t : ℕ) (v yes : Bool) (after : Held) : Type 0 where
  pub pending : post k (change t v) (session_in s).pending ≡ told yes (session_in after).pending
  pub values : (session_in after).values ≡ (session_in s).values
  pub time : after.time ≡ s.time
  pub count : after.count ≡ s.count
  pub fit : FitHeld after

-- the pending changes of t are taken out, and the signals have those values
pub record TakesAs (s : Held) (t : ℕ) (after : Held) : Type 0 where
  pub pending : (session_in after).pending ≡ map (kept t) (session_in s).pending
  pub values : (session_in after).values ≡ values_at t (session_in s).values (session_in s).pending
  pub time : after.time ≡ s.time
  pub count : after.count ≡ s.count
  pub fit : FitHeld after

-- what a call has done so far, with a session, cycles and steps
abbrev pub progress_in : Held → ℕ → ℕ → Progress
progress_in s c steps = record { session = session_in s; cycles = c; steps = steps }

-- one cycle at t, or refusal 15
abbrev pub CycleAs : List Runner → Held → ℕ → ℕ → Result Ran Reason → Held → Type 0
CycleAs rs s t n₀ (Ok ran) after = (c : ℕ) → cycle rs t (progress_in s c n₀) ≡ gives (progress_in after (c + 1) ran.steps)
CycleAs rs s t n₀ (Err reason) after = (reason ≡ Pending) × ((c : ℕ) → cycle rs t (progress_in s c n₀) ≡ refuses 15)
