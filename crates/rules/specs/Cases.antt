-- Document 01's worked cases over circuits written by hand: P1, P2, P3, P13, P14, case A whole, the wrong turns, and refusal 15.
-- Assumes nothing: each is computed.
use Rattle.std.specs.Prelude.{ℕ, ◌≡◌, refl, true, false, List, [], ◌∷◌, ◌++◌, map, replicate, drop}
use Rattle.laws.specs.Text.{bytes}
use Rattle.syntax.specs.Circuit.{signal, negated, done, assign, Activity, Circuit}
use Rattle.words.specs.Unit.{longest}
use Rattle.rules.specs.Formulas.{value, size}
use Rattle.rules.specs.Pending.{change, before, post, taken, kept, values_at, due_in, due, least_in, least}
use Rattle.rules.specs.Runner.{over, joined}
use Rattle.rules.specs.Statements.{after, steps, assigns, member, means}
use Rattle.rules.specs.Session.{Session, any_below, woken}
use Rattle.rules.specs.Dump.{variables, header, digits, decimal, all, start_bytes, changed, advance_bytes}
use Rattle.rules.specs.Calls.{Answer, refused, quiet, stop_reached, moved, cycle, cycles, started, start, advance, advances, calls, written}

-- case A: q is inverted every 3 ns, and d is not q
unfoldable pub pair : Circuit
pair =
    record {
      initial = false ∷ false ∷ [];
      processes = record { wakes = 0 ∷ []; body = assign 0 (negated (signal 0)) 3000000 done }
          ∷ record { wakes = 0 ∷ []; body = assign 1 (negated (signal 0)) 0 done } ∷ [];
    }

abbrev pub at0 : Session
at0 = record { time = 0; values = false ∷ true ∷ []; pending = (change 3000000 true ∷ []) ∷ [] ∷ [] }

abbrev pub at3 : Session
at3 = record { time = 3000000; values = true ∷ false ∷ []; pending = (change 6000000 false ∷ []) ∷ [] ∷ [] }

abbrev pub at9 : Session
at9 = record { time = 9000000; values = true ∷ false ∷ []; pending = (change 12000000 false ∷ []) ∷ [] ∷ [] }

-- P1: 1 cycle, 6 steps
pub P1 : start (map means pair.processes) pair.initial
    ≡ moved (record { session = at0; bytes = bytes "#0\n$dumpvars\n0!\n1\"\n$end\n"; cycles = 1; steps = 6 })
unfolding pair start started cycles cycle joined over means member after steps size value post before assigns taken kept values_at due_in due woken any_below start_bytes all
P1 = refl

-- P2: time 3,000,000, 2 cycles, 6 steps
pub P2 : advance (map means pair.processes) 10000000 at0
    ≡ moved (record { session = at3; bytes = bytes "#3000000\n1!\n0\"\n"; cycles = 2; steps = 6 })
unfolding pair advance least least_in cycles cycle joined over means member after steps size value post before assigns taken kept values_at due_in due woken any_below advance_bytes changed decimal digits
P2 = refl

-- P3: after 9,000,000 with that stop
pub P3 : advance (map means pair.processes) 10000000 at9 ≡ stop_reached
unfolding advance least least_in
P3 = refl

-- P14: no signals, no processes
pub P14 : calls [] [] (10000000 ∷ [])
    ≡ moved (record { session = record { time = 0; values = []; pending = [] }; bytes = bytes "#0\n$dumpvars\n$end\n"; cycles = 0; steps = 0 }) ∷ quiet ∷ []
unfolding calls advances start started cycles joined due start_bytes all advance least
P14 = refl

-- case A whole, with the stop 10 ns: header, start, and advances until the stop is reached
pub case_a_lem : header (bytes "pair") (bytes "q" ∷ bytes "d" ∷ [])
    ++ written (calls (map means pair.processes) pair.initial (10000000 ∷ 10000000 ∷ 10000000 ∷ 10000000 ∷ []))
    ≡ bytes "$timescale 1 fs $end\n$scope module pair $end\n$var wire 1 ! q $end\n$var wire 1 \" d $end\n$upscope $end\n$enddefinitions $end\n#0\n$dumpvars\n0!\n1\"\n$end\n#3000000\n1!\n0\"\n#6000000\n0!\n1\"\n#9000000\n1!\n0\"\n"
unfolding pair header variables written calls advances start started advance least least_in cycles cycle joined over means member after steps size value post before assigns taken kept values_at due_in due woken any_below start_bytes all advance_bytes changed decimal digits
case_a_lem = refl

-- two processes exchange a and b: neither reads what the other assigned in the same cycle
unfoldable pub exchange : Circuit
exchange =
    record {
      initial = false ∷ true ∷ [];
      processes = record { wakes = []; body = assign 0 (signal 1) 0 done } ∷ record { wakes = []; body = assign 1 (signal 0) 0 done } ∷ [];
    }

pub exchanged : start (map means exchange.processes) exchange.initial
    ≡ moved (record {
      session = record { time = 0; values = true ∷ false ∷ []; pending = [] ∷ [] ∷ [] };
      bytes = bytes "#0\n$dumpvars\n1!\n0\"\n$end\n";
      cycles = 1;
      steps = 4;
    })
unfolding exchange start started cycles cycle joined over means member after steps size value post before assigns taken kept values_at due_in due woken any_below start_bytes all
exchanged = refl

-- a change pending for s at 8 does not survive a post for s at 3
unfoldable pub echo : List Activity
echo = record { wakes = 0 ∷ []; body = assign 1 (signal 0) 2 done } ∷ []

pub no_union : advance (map means echo) 10 (record { time = 0; values = false ∷ false ∷ []; pending = (change 1 true ∷ []) ∷ (change 8 false ∷ []) ∷ [] })
    ≡ moved (record {
      session = record { time = 1; values = true ∷ false ∷ []; pending = [] ∷ (change 3 true ∷ []) ∷ [] };
      bytes = bytes "#1\n1!\n";
      cycles = 1;
      steps = 2;
    })
unfolding echo advance least least_in cycles cycle joined over means member after steps size value post before assigns taken kept values_at due_in due woken any_below advance_bytes changed decimal digits
no_union = refl

-- P13: q <= transport not q; woken by q
unfoldable pub restless : List Activity
restless = record { wakes = 0 ∷ []; body = assign 0 (negated (signal 0)) 0 done } ∷ []

pub P13 : start (map means restless) (false ∷ []) ≡ refused 16
unfolding restless start started cycles cycle joined over means member after steps size value post before assigns taken kept values_at due_in due woken any_below
P13 = refl

-- q inverted every 1 ns, and s <= transport q woken by q, with this delay
unfoldable pub delayed : ℕ → List Activity
delayed delay =
    record { wakes = 0 ∷ []; body = assign 0 (negated (signal 0)) 1000000 done }
    ∷ record { wakes = 0 ∷ []; body = assign 1 (signal 0) delay done } ∷ []

-- the time of a call that moved, or the number of a refusal
abbrev ended : Answer → ℕ × ℕ
ended (refused number) = (number, 0)
ended quiet = (0, 0)
ended stop_reached = (0, 0)
ended (moved m) = (0, m.session.time)

-- with 16 ns: runs on
pub sixteen : map ended (drop 15 (calls (map means (delayed 16000000)) (false ∷ false ∷ []) (replicate 18 longest)))
    ≡ (0, 15000000) ∷ (0, 16000000) ∷ (0, 17000000) ∷ (0, 18000000) ∷ []
unfolding delayed calls advances start started advance least least_in cycles cycle joined over means member after steps size value post before assigns taken kept values_at due_in due woken any_below start_bytes all advance_bytes changed decimal digits
sixteen = refl

-- with 17 ns: refused 15 at time 16 ns
pub seventeen : map ended (drop 15 (calls (map means (delayed 17000000)) (false ∷ false ∷ []) (replicate 16 longest))) ≡ (0, 15000000) ∷ (15, 0) ∷ []
unfolding delayed calls advances start started advance least least_in cycles cycle joined over means member after steps size value post before assigns taken kept values_at due_in due woken any_below start_bytes all advance_bytes changed decimal digits
seventeen = refl
