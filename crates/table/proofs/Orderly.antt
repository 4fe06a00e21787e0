-- What posts, joins and cycles keep of pending changes, so that the session after a call is fit. Assumes nothing.
use Prim.Native.Nat.{ℕ, zero, suc, ◌+◌, ◌≤◌, ◌<◌}
use native.Mathlib.Omega.{arith}
use mathlib.Core.Path.{◌≡◌, refl, sym, ◌∙◌, ap, subst}
use mathlib.Core.Bool.{Bool, true, false, true≢false}
use mathlib.Core.Logic.{⊎_elim}
use mathlib.Core.List.{List, [], ◌∷◌, ◌++◌, map}
use lib.Dec.{ltb}
use lib.ListN.{length, get_or, set, replicate, length-set, length-append, length-map, length-replicate, get_or-map}
use lib.Seq.{get_or-set_same, get_or-set_other, set_out}
use borrow.Author.Tests.{ltb-true}
use Rattle.laws.proofs.Cases.{same_or, split, side}
use Rattle.words.specs.Unit.{longest}
use Rattle.rules.specs.Sizes.{most_pending}
use Rattle.rules.specs.Formulas.{Values}
use Rattle.rules.specs.Pending.{Change, Pending, before, post, kept}
use Rattle.rules.specs.Runner.{Left, Runner, over, join, joined}
use Rattle.rules.specs.Session.{Each, Rising}
use Rattle.table.proofs.Outcomes.{Gives, gives_then}
use Rattle.table.proofs.Overlays.{length_over, over-driven, over_other}
use Rattle.table.proofs.Changes.{each_before, each_kept, each_append, before-earlier, rising-before, rising-kept, rising-append, length-kept}

-- a signal's changes at one time of a run: none before the time, none more than 10^18 after it
pub record Tidy (low high : ℕ) (cs : List Change) : Type 0 where
  pub reached : Each (λ c. low ≤ c.time) cs
  pub near : Each (λ c. c.time ≤ high) cs
  pub few : length cs ≤ most_pending
  pub rising : Rising cs

-- those of all signals, none where no process drives
pub record Orderly (driven : ℕ → Bool) (signals low high : ℕ) (p : Pending) : Type 0 where
  pub agrees : length p ≡ signals
  pub tidy : (k : ℕ) → Tidy low high (get_or p k [])
  pub idle : (k : ℕ) → driven k ≡ false → get_or p k [] ≡ []

no_change : (low high : ℕ) → Tidy low high []
unfolding Each Rising
no_change low high = record { reached = tt; near = tt; few = omega arith; rising = tt }

tidy-post : (low high : ℕ) (cs : List Change) (c : Change) → low ≤ c.time → c.time ≤ high → length (before c.time cs) < most_pending → Tidy low high cs
    → Tidy low high (before c.time cs ++ (c ∷ []))
tidy-post low high cs c lo hi room h =
    let t = c.time in
    record {
      reached = each_append _ (before t cs) c (each_before _ t cs h.reached) lo;
      near = each_append _ (before t cs) c (each_before _ t cs h.near) hi;
      few = omega (arith, length-append (before t cs) (c ∷ []));
      rising = rising-append (before t cs) c (rising-before t cs h.rising) (before-earlier t cs);
    }

tidy-kept : (low high t : ℕ) (cs : List Change) → Tidy low high cs → Tidy low high (kept t cs)
tidy-kept low high t cs h =
    record {
      reached = each_kept _ t cs h.reached;
      near = each_kept _ t cs h.near;
      few = omega (arith, length-kept t cs, h.few);
      rising = rising-kept t cs h.rising;
    }

module _ (driven : ℕ → Bool) (n low high : ℕ) where
  -- a signal's changes are replaced by tidy ones
  orderly-set : (p : Pending) (k : ℕ) (cs : List Change) → driven k ≡ true → Tidy low high cs → Orderly driven n low high p
      → Orderly driven n low high (set p k cs)
  orderly-set p k cs d t h =
      record {
        agrees = length-set p k cs ∙ h.agrees;
        tidy = λ j. ⊎_elim
            (λ e. ⊎_elim
            (λ l. subst (Tidy low high) (sym (ap (λ i. get_or (set p k cs) i []) e ∙ get_or-set_same p k cs [] l)) t)
            (λ l. rw (set_out p k cs l) (h.tidy j))
            (side k (length p)))
            (λ e. rw (get_or-set_other p k j cs [] e) (h.tidy j))
            (same_or j k);
        idle = λ j f. ⊎_elim
            (λ e. let z : true ≡ false = sym d ∙ ap driven (sym e) ∙ f in absurd (true≢false z))
            (λ e. rw (get_or-set_other p k j cs [] e) (h.idle j f))
            (same_or j k);
      }

  pub orderly-post : (p : Pending) (k : ℕ) (c : Change) → driven k ≡ true → low ≤ c.time → c.time ≤ high → Orderly driven n low high p
      → Gives (Orderly driven n low high) (post k c p)
  unfolding post
  orderly-post p k c d lo hi h =
      split (ltb (length (before c.time (get_or p k []))) most_pending)
      (λ e. rw e (orderly-set p k _ d (tidy-post low high (get_or p k []) c lo hi (ltb-true _ most_pending e) (h.tidy k)) h))
      (λ e. rw e tt)

  pub orderly-over : (d : ℕ → Bool) (q p : Pending) → Orderly driven n low high q → Orderly driven n low high p → Orderly driven n low high (over d q p)
  orderly-over d q p g h =
      let l : length q ≡ length p = g.agrees ∙ sym h.agrees in
      record {
        agrees = length_over d q p ∙ h.agrees;
        tidy = λ k. split (d k) (λ e. rw (over-driven d q p k l e) (g.tidy k)) (λ e. rw (over_other d q p k e) (h.tidy k));
        idle = λ k f. split (d k) (λ e. over-driven d q p k l e ∙ g.idle k f) (λ e. over_other d q p k e ∙ h.idle k f);
      }

  pub orderly-kept : (t : ℕ) (p : Pending) → Orderly driven n low high p → Orderly driven n low high (map (kept t) p)
  unfolding kept
  orderly-kept t p h =
      record {
        agrees = length-map p (kept t) ∙ h.agrees;
        tidy = λ k. rw (get_or-map (kept t) p k []) (tidy-kept low high t (get_or p k []) (h.tidy k));
        idle = λ k f. get_or-map (kept t) p k [] ∙ ap (kept t) (h.idle k f);
      }

nothing_in : (n k : ℕ) (none : List Change) → get_or (replicate n none) k none ≡ none
nothing_in zero k none = refl
nothing_in (suc n) zero none = refl
nothing_in (suc n) (suc k) none = nothing_in n k none

pub orderly-nothing : (driven : ℕ → Bool) (n low high : ℕ) → Orderly driven n low high (replicate n [])
orderly-nothing driven n low high =
    record {
      agrees = length-replicate n [];
      tidy = λ k. rw (nothing_in n k []) (no_change low high);
      idle = λ k f. nothing_in n k [];
    }

-- what a process leaves, run at the time now, is in order
abbrev pub InOrder : (ℕ → Bool) → ℕ → ℕ → Left → Type 0
InOrder driven n now a = Orderly driven n now (now + longest) a.pending

-- a process that leaves pending changes in order
unfoldable pub Obedient : (ℕ → Bool) → ℕ → Runner → Type 0
Obedient driven n r =
    (vs : Values) (now : ℕ) (p : Pending) (m : ℕ) → Orderly driven n now (now + longest) p → Gives (InOrder driven n now) (r.goes vs now p m)

unfoldable pub AllObedient : (ℕ → Bool) → ℕ → List Runner → Type 0
AllObedient driven n [] = Unit {0}
AllObedient driven n (r ∷ rs) = Obedient driven n r × AllObedient driven n rs

module _ (driven : ℕ → Bool) (n : ℕ) (vs : Values) (now : ℕ) (p : Pending) (h : Orderly driven n now (now + longest) p) where
  join-orderly : (r : Runner) (woken : Bool) (so : Left) → Obedient driven n r → InOrder driven n now so
      → Gives (InOrder driven n now) (join r woken vs now p so)
  unfolding Obedient
  join-orderly r false so o g = g
  join-orderly r true so o g =
      gives_then (InOrder driven n now) (InOrder driven n now) (r.goes vs now p so.steps) _ (o vs now p so.steps h)
      (λ a f. orderly-over driven n now (now + longest) r.drives a.pending so.pending f g)

  pub joined-orderly : (rs : List Runner) (awake : (ℕ → Bool) → Bool) (so : Left) → AllObedient driven n rs → InOrder driven n now so
      → Gives (InOrder driven n now) (joined rs vs now awake p so)
  unfolding joined AllObedient
  joined-orderly [] awake so o g = g
  joined-orderly (r ∷ rs) awake so o g =
      gives_then (InOrder driven n now) (InOrder driven n now) (join r (awake r.wakes) vs now p so) _ (join-orderly r (awake r.wakes) so o.0 g)
      (λ a f. joined-orderly rs awake a o.1 f)
