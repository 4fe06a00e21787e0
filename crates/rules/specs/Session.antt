-- A session, events, and when a session is fit. Assumes nothing: these are definitions.
use Rattle.std.specs.Prelude.{ℕ, zero, suc, ◌+◌, ◌≤◌, ◌<◌, ◌≡◌, refl, Bool, true, false, ◌&&◌, ◌||◌, eqb, length, get_or}
use Rattle.std.proofs.Common.{arith, true≢false}
use mathlib.Core.List.{List, [], ◌∷◌, cons≢nil}
use Rattle.words.specs.Unit.{longest}
use Rattle.rules.specs.Sizes.{most_pending}
use Rattle.rules.specs.Formulas.{Values, differ}
use Rattle.rules.specs.Outcome.{gives}
use Rattle.rules.specs.Pending.{Change, change, Pending}
use Rattle.rules.specs.Runner.{Runner}

-- a session holds the time, the values and the pending changes
pub record Session : Type 0 where
  pub time : ℕ
  pub values : Values
  pub pending : Pending

-- EVENTS

-- signal k has an event: its value differs from before
abbrev pub event : Values → Values → ℕ → Bool
event old new k = differ (get_or old k false) (get_or new k false)

-- one of the numbers below n passes the test
unfoldable pub any_below : ℕ → (ℕ → Bool) → Bool
any_below zero test = false
any_below (suc n) test = test n || any_below n test

-- some signal that wakes the process has an event
unfoldable pub woken : Values → Values → (ℕ → Bool) → Bool
woken old new wakes = any_below (length new) (λ k. wakes k && event old new k)

-- FIT SESSIONS

unfoldable pub Each : (Change → Type 0) → List Change → Type 0
Each P [] = Unit {0}
Each P (c ∷ cs) = P c × Each P cs

-- rising order of time, no two equal
unfoldable pub Rising : List Change → Type 0
Rising [] = Unit {0}
Rising (c ∷ cs) = Each (λ d. c.time < d.time) cs × Rising cs

-- some process drives signal k
unfoldable pub driven : List Runner → ℕ → Bool
driven [] k = false
driven (r ∷ rs) k = r.drives k || driven rs k

-- fit for processes and a number of signals
pub record FitSession (rs : List Runner) (signals : ℕ) (s : Session) : Type 0 where
  pub counted : length s.values ≡ signals
  pub agrees : length s.pending ≡ signals
  pub early : s.time ≤ longest
  pub later : (k : ℕ) → Each (λ c. s.time < c.time) (get_or s.pending k [])
  pub near : (k : ℕ) → Each (λ c. c.time ≤ s.time + longest) (get_or s.pending k [])
  pub few : (k : ℕ) → length (get_or s.pending k []) ≤ most_pending
  pub rising : (k : ℕ) → Rising (get_or s.pending k [])
  pub idle : (k : ℕ) → driven rs k ≡ false → get_or s.pending k [] ≡ []

-- EXAMPLES

-- signal 0 became true: it wakes who listens to it
woken_by_0 : woken (false ∷ false ∷ []) (true ∷ false ∷ []) (λ k. eqb k 0) ≡ true
unfolding woken any_below
woken_by_0 = refl

woken_by_1 : woken (false ∷ false ∷ []) (true ∷ false ∷ []) (λ k. eqb k 1) ≡ false
unfolding woken any_below
woken_by_1 = refl

-- a process that drives signal 0
abbrev drives_first : Runner
drives_first = record { wakes = λ k. false; goes = λ vs now p n. gives (record { pending = p; steps = n }); drives = λ k. eqb k 0 }

-- two signals at time 5, with these changes pending for them
abbrev at5 : List Change → List Change → Session
at5 first second = record { time = 5; values = true ∷ false ∷ []; pending = first ∷ second ∷ [] }

abbrev two_rising : List Change
two_rising = change 6 true ∷ change 9 true ∷ []

fit_at_5 : FitSession (drives_first ∷ []) 2 (at5 two_rising [])
unfolding Each Rising driven
fit_at_5 = record {
  counted = refl;
  agrees = refl;
  early = omega arith;
  later = later;
  near = near;
  few = few;
  rising = rising;
  idle = idle;
}
  where
    later : (k : ℕ) → Each (λ c. 5 < c.time) (get_or (two_rising ∷ [] ∷ []) k [])
    later zero = (omega arith, (omega arith, tt))
    later (suc zero) = tt
    later (suc (suc k)) = tt

    near : (k : ℕ) → Each (λ c. c.time ≤ 5 + longest) (get_or (two_rising ∷ [] ∷ []) k [])
    near zero = (omega arith, (omega arith, tt))
    near (suc zero) = tt
    near (suc (suc k)) = tt

    few : (k : ℕ) → length (get_or (two_rising ∷ [] ∷ []) k []) ≤ most_pending
    few zero = omega arith
    few (suc zero) = omega arith
    few (suc (suc k)) = omega arith

    rising : (k : ℕ) → Rising (get_or (two_rising ∷ [] ∷ []) k [])
    rising zero = ((omega arith, tt), (tt, tt))
    rising (suc zero) = tt
    rising (suc (suc k)) = tt

    idle : (k : ℕ) → driven (drives_first ∷ []) k ≡ false → get_or (two_rising ∷ [] ∷ []) k [] ≡ []
    idle zero e = absurd (true≢false e)
    idle (suc zero) e = refl
    idle (suc (suc k)) e = refl

-- a change of now is not later, two of one time are not rising, and a signal that no process drives has none
not-later : ¬ FitSession (drives_first ∷ []) 2 (at5 (change 5 true ∷ []) [])
unfolding Each
not-later f = absurd (omega (arith, (f.later 0).0))

not-rising : ¬ FitSession (drives_first ∷ []) 2 (at5 (change 6 true ∷ change 6 false ∷ []) [])
unfolding Each Rising
not-rising f = absurd (omega (arith, (f.rising 0).0.0))

not-idle : ¬ FitSession (drives_first ∷ []) 2 (at5 [] (change 6 true ∷ []))
unfolding driven
not-idle f = cons≢nil (f.idle 1 refl)
