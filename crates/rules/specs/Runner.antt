-- What a process means, and how the processes of one cycle are joined: each signal's pending changes are those left by the one
-- process that drives it. (Report 249, rule cs_iii, takes the union instead.) Assumes nothing: these are definitions.
use Rattle.std.specs.Prelude.{ℕ, suc, ◌≡◌, refl, Bool, true, false, List, [], ◌∷◌, eqb}
use Rattle.laws.specs.Pick.{pick}
use Rattle.rules.specs.Outcome.{Outcome, gives, ◌then◌}
use Rattle.rules.specs.Formulas.{Values}
use Rattle.rules.specs.Pending.{Pending, change}

-- what processes leave: pending changes, and the steps of the call so far
pub record Left : Type 0 where
  pub pending : Pending
  pub steps : ℕ

-- whether a signal wakes the process; what it leaves, from the values that it reads, the time now, pending changes and steps so far;
-- and whether it drives a signal
pub record Runner : Type 0 where
  pub wakes : ℕ → Bool
  pub goes : Values → ℕ → Pending → ℕ → Outcome Left
  pub drives : ℕ → Bool

-- the pending changes of each signal that is driven from q, of any other from p
unfoldable pub over : (ℕ → Bool) → Pending → Pending → Pending
over drives q [] = []
over drives [] (cs ∷ p) = cs ∷ p
over drives (bs ∷ q) (cs ∷ p) = pick (drives 0) bs cs ∷ over (λ k. drives (suc k)) q p

-- a process that is woken, or is not: it runs from p, and what it leaves for the signals that it drives takes their place in those joined so far
abbrev pub join : Runner → Bool → Values → ℕ → Pending → Left → Outcome Left
join r false vs now p so = gives so
join r true vs now p so =
    r.goes vs now p so.steps then (λ a. gives (record { pending = over r.drives a.pending so.pending; steps = a.steps }))

-- every process that is awake runs once, in written order, all reading the same values, each from the same pending changes p
unfoldable pub joined : List Runner → Values → ℕ → ((ℕ → Bool) → Bool) → Pending → Left → Outcome Left
joined [] vs now awake p so = gives so
joined (r ∷ rs) vs now awake p so = join r (awake r.wakes) vs now p so then (λ a. joined rs vs now awake p a)

-- the process drives signal 0: a change that it removed is gone, and one of signal 1 stays
one_driver : over (λ k. eqb k 0) ((change 3 true ∷ []) ∷ [] ∷ []) ((change 8 true ∷ []) ∷ (change 9 true ∷ []) ∷ [])
    ≡ (change 3 true ∷ []) ∷ (change 9 true ∷ []) ∷ []
unfolding over
one_driver = refl
