-- A signal's pending changes: what removing some of them, or adding one, keeps. Assumes nothing.
use Prim.Native.Nat.{ℕ, ◌≤◌, ◌<◌}
use native.Mathlib.Omega.{arith}
use mathlib.Core.Path.{◌≡◌}
use mathlib.Core.Bool.{false}
use mathlib.Core.List.{List, [], ◌∷◌, ◌++◌}
use lib.Dec.{ltb, eqb}
use lib.ListN.{length}
use borrow.Author.Tests.{ltb-true, eqb-false}
use Rattle.laws.proofs.Cases.{split, neither}
use Rattle.rules.specs.Pending.{Change, before, kept, due_in}
use Rattle.rules.specs.Session.{Each, Rising}

module _ (P : Change → Type 0) where
  pub each_before : (t : ℕ) (cs : List Change) → Each P cs → Each P (before t cs)
  unfolding Each before
  each_before t [] h = tt
  each_before t (c ∷ cs) h =
      split (ltb c.time t) (λ e. rw e (h.0, each_before t cs h.1)) (λ e. rw e (each_before t cs h.1))

  pub each_kept : (t : ℕ) (cs : List Change) → Each P cs → Each P (kept t cs)
  unfolding Each kept
  each_kept t [] h = tt
  each_kept t (c ∷ cs) h =
      split (eqb c.time t) (λ e. rw e (each_kept t cs h.1)) (λ e. rw e (h.0, each_kept t cs h.1))

  pub each_append : (cs : List Change) (c : Change) → Each P cs → P c → Each P (cs ++ (c ∷ []))
  unfolding Each
  each_append [] c h g = (g, tt)
  each_append (d ∷ cs) c h g = (h.0, each_append cs c h.1 g)

  pub each_more : (Q : Change → Type 0) → ((c : Change) → P c → Q c) → (cs : List Change) → Each P cs → Each Q cs
  unfolding Each
  each_more Q f [] h = tt
  each_more Q f (c ∷ cs) h = (f c h.0, each_more Q f cs h.1)

pub before-earlier : (t : ℕ) (cs : List Change) → Each (λ c. c.time < t) (before t cs)
unfolding Each before
before-earlier t [] = tt
before-earlier t (c ∷ cs) =
    split (ltb c.time t) (λ e. rw e (ltb-true c.time t e, before-earlier t cs)) (λ e. rw e (before-earlier t cs))

pub rising-before : (t : ℕ) (cs : List Change) → Rising cs → Rising (before t cs)
unfolding Rising before
rising-before t [] h = tt
rising-before t (c ∷ cs) h =
    split (ltb c.time t)
    (λ e. rw e (each_before (λ d. c.time < d.time) t cs h.0, rising-before t cs h.1))
    (λ e. rw e (rising-before t cs h.1))

pub rising-kept : (t : ℕ) (cs : List Change) → Rising cs → Rising (kept t cs)
unfolding Rising kept
rising-kept t [] h = tt
rising-kept t (c ∷ cs) h =
    split (eqb c.time t)
    (λ e. rw e (rising-kept t cs h.1))
    (λ e. rw e (each_kept (λ d. c.time < d.time) t cs h.0, rising-kept t cs h.1))

pub rising-append : (cs : List Change) (c : Change) → Rising cs → Each (λ d. d.time < c.time) cs → Rising (cs ++ (c ∷ []))
unfolding Rising Each
rising-append [] c h g = (tt, tt)
rising-append (d ∷ cs) c h g = (each_append (λ e. d.time < e.time) cs c h.0 g.0, rising-append cs c h.1 g.1)

pub length-kept : (t : ℕ) (cs : List Change) → length (kept t cs) ≤ length cs
unfolding kept
length-kept t [] = omega arith
length-kept t (c ∷ cs) =
    split (eqb c.time t) (λ e. rw e (omega (arith, length-kept t cs))) (λ e. rw e (omega (arith, length-kept t cs)))

-- where none is due and none is earlier, all are later
pub later-kept : (t : ℕ) (cs : List Change) → due_in t cs ≡ false → Each (λ c. t ≤ c.time) cs → Each (λ c. t < c.time) cs
unfolding Each due_in
later-kept t [] h g = tt
later-kept t (c ∷ cs) h g =
    let n = neither (eqb c.time t) (due_in t cs) h in
    let apart = eqb-false c.time t n.0 in
    (omega (arith, g.0), later-kept t cs n.1 g.1)
