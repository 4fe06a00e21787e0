-- Cycles, start and advance, over what each process means: one definition for statements and for tables. Assumes nothing: these are definitions.
use Rattle.std.specs.Prelude.{ℕ, zero, suc, ◌+◌, true, List, [], ◌∷◌, ◌++◌, map, ltb, length, replicate}
use Rattle.laws.specs.Pick.{pick}
use Rattle.rules.specs.Sizes.{most_cycles}
use Rattle.rules.specs.Outcome.{Outcome, refuses, gives, ◌then◌}
use Rattle.rules.specs.Formulas.{Values}
use Rattle.rules.specs.Pending.{kept, values_at, due, Least, nothing, first, least}
use Rattle.rules.specs.Runner.{Runner, joined}
use Rattle.rules.specs.Session.{Session, woken}
use Rattle.rules.specs.Dump.{start_bytes, advance_bytes}

-- what a call has done so far
pub record Progress : Type 0 where
  pub session : Session
  pub cycles : ℕ
  pub steps : ℕ

-- what a call that moved gives: the session after it, with its time, the bytes written, the cycles and the steps
pub record Moved : Type 0 where
  pub session : Session
  pub bytes : List ℕ
  pub cycles : ℕ
  pub steps : ℕ

pub data Answer : Type 0 where
  refused : ℕ → Answer
  quiet : Answer
  stop_reached : Answer
  moved : Moved → Answer

-- the answer of a call that wrote these bytes for the values after the last cycle
abbrev pub answered : (Values → List ℕ) → Outcome Progress → Answer
answered written (refuses r) = refused r
answered written (gives m) =
    moved (record { session = m.session; bytes = written m.session.values; cycles = m.cycles; steps = m.steps })

module _ (rs : List Runner) where
  -- a cycle at t: all pending changes of t are taken out, the signals get those values, and every process with an event in its list runs
  unfoldable pub cycle : ℕ → Progress → Outcome Progress
  cycle t m =
      let s = m.session in
      let new = values_at t s.values s.pending in
      let p = map (kept t) s.pending in
      joined rs new t (woken s.values new) p (record { pending = p; steps = m.steps })
      then (λ a. gives (record { session = record { time = t; values = new; pending = a.pending }; cycles = m.cycles + 1; steps = a.steps }))

  -- cycles at t while something is pending there; refused 16 where one more than so many would begin
  unfoldable pub cycles : ℕ → ℕ → Progress → Outcome Progress
  cycles zero t m = pick (due t m.session.pending) (refuses 16) (gives m)
  cycles (suc more) t m = let next = cycle t m then (λ k. cycles more t k) in pick (due t m.session.pending) next (gives m)

  -- every process runs once, which is no cycle; then cycles at 0
  unfoldable pub started : Values → Outcome Progress
  started initial =
      let p = replicate (length initial) [] in
      joined rs initial 0 (λ wakes. true) p (record { pending = p; steps = 0 })
      then (λ a. cycles most_cycles 0 (record { session = record { time = 0; values = initial; pending = a.pending }; cycles = 0; steps = a.steps }))

  unfoldable pub start : Values → Answer
  start initial = answered start_bytes (started initial)

  -- from the least pending time on
  abbrev pub advance_to : ℕ → Session → Least → Answer
  advance_to stop s nothing = quiet
  advance_to stop s (first t) =
      pick (ltb stop t) stop_reached
      (answered (advance_bytes t s.values) (cycles most_cycles t (record { session = s; cycles = 0; steps = 0 })))

  unfoldable pub advance : ℕ → Session → Answer
  advance stop s = advance_to stop s (least s.pending)

-- the session after a call: as it was, but where the call moved
abbrev pub leaves : Answer → Session → Session
leaves (refused r) s = s
leaves quiet s = s
leaves stop_reached s = s
leaves (moved m) s = m.session

-- calls one after the other, with these stops, each on the session that the one before left
unfoldable pub advances : List Runner → Session → List ℕ → List Answer
advances rs s [] = []
advances rs s (stop ∷ stops) = advance rs stop s ∷ advances rs (leaves (advance rs stop s) s) stops

abbrev pub following : List Runner → Answer → List ℕ → List Answer
following rs (refused r) stops = []
following rs quiet stops = []
following rs stop_reached stops = []
following rs (moved m) stops = advances rs m.session stops

-- start, and then these
unfoldable pub calls : List Runner → Values → List ℕ → List Answer
calls rs initial stops = start rs initial ∷ following rs (start rs initial) stops

-- the bytes that calls write
unfoldable pub written : List Answer → List ℕ
written [] = []
written (refused r ∷ more) = written more
written (quiet ∷ more) = written more
written (stop_reached ∷ more) = written more
written (moved m ∷ more) = m.bytes ++ written more
