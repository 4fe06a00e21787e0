-- The least pending time: none is earlier, and something is pending there. Assumes nothing.
use Prim.Native.Nat.{ℕ, zero, suc, ◌≤◌, ◌<◌, min}
use native.Mathlib.Omega.{arith}
use mathlib.Core.Path.{◌≡◌, refl, sym, subst}
use mathlib.Core.Bool.{true, or-true, true≢false}
use mathlib.Core.Logic.{◌⊎◌, inl, inr, ⊎_elim}
use mathlib.Core.List.{List, [], ◌∷◌}
use lib.Dec.{eqb}
use lib.ListN.{get_or}
use borrow.Author.Tests.{eq-eqb, eqb-true}
use Rattle.laws.proofs.Cases.{split, side}
use Rattle.rules.specs.Pending.{Change, Pending, due_in, due, Least, nothing, first, lower, least_in, least}
use Rattle.rules.specs.Session.{Each}

-- none is earlier
abbrev Above : ℕ → Least → Type 0
Above t nothing = Unit {0}
Above t (first u) = t ≤ u

above_lower : (t a : ℕ) (l : Least) → Above t (lower a l) → (t ≤ a) × Above t l
above_lower t a nothing h = (h, tt)
above_lower t a (first u) h = (omega arith, omega arith)

above_in : (t : ℕ) (cs : List Change) (l : Least) → Above t (least_in cs l) → Each (λ c. t ≤ c.time) cs × Above t l
unfolding least_in Each
above_in t [] l h = (tt, h)
above_in t (c ∷ cs) l h =
    let s = above_lower t c.time (least_in cs l) h in
    let r = above_in t cs l s.1 in
    ((s.0, r.0), r.1)

above_all : (t : ℕ) (p : Pending) → Above t (least p) → (k : ℕ) → Each (λ c. t ≤ c.time) (get_or p k [])
unfolding least Each
above_all t [] h k = tt
above_all t (cs ∷ p) h zero = (above_in t cs (least p) h).0
above_all t (cs ∷ p) h (suc k) = above_all t p (above_in t cs (least p) h).1 k

pub none-earlier : (t : ℕ) (p : Pending) → least p ≡ first t → (k : ℕ) → Each (λ c. t ≤ c.time) (get_or p k [])
none-earlier t p e = above_all t p (subst (Above t) (sym e) (omega arith))

-- something is pending there
lower-from : (a t : ℕ) (l : Least) → lower a l ≡ first t → (a ≡ t) ⊎ (l ≡ first t)
lower-from a t nothing h = inl (cc)
lower-from a t (first u) h =
    let e : min a u ≡ t = cc in
    ⊎_elim (λ g. inl (omega arith)) (λ g. inr (let z : u ≡ t = omega arith in rw z)) (side a u)

least_in_lem : (t : ℕ) (cs : List Change) (l : Least) → least_in cs l ≡ first t → (due_in t cs ≡ true) ⊎ (l ≡ first t)
unfolding least_in due_in
least_in_lem t [] l h = inr h
least_in_lem t (c ∷ cs) l h =
    ⊎_elim
    (λ e. inl (rw (eq-eqb c.time t e)))
    (λ e. ⊎_elim (λ g. inl (rw g (or-true (eqb c.time t)))) (λ g. inr g) (least_in_lem t cs l e))
    (lower-from c.time t (least_in cs l) h)

pub something_due : (t : ℕ) (p : Pending) → least p ≡ first t → due t p ≡ true
unfolding least due
something_due t [] h = let z : ◌≡◌ {A = ℕ} 0 1 = cc in absurd (omega arith)
something_due t (cs ∷ p) h =
    ⊎_elim (λ e. rw e refl) (λ e. rw (something_due t p e) (or-true (due_in t cs))) (least_in_lem t cs (least p) h)

-- it is later than what all are later than
due-later : (a t : ℕ) (cs : List Change) → due_in t cs ≡ true → Each (λ c. a < c.time) cs → a < t
unfolding due_in Each
due-later a t [] h g = absurd (true≢false (sym h))
due-later a t (c ∷ cs) h g =
    split (eqb c.time t) (λ e. omega (arith, eqb-true c.time t e, g.0)) (λ e. due-later a t cs (rw e at h) g.1)

pub later_than : (a t : ℕ) (p : Pending) → due t p ≡ true → ((k : ℕ) → Each (λ c. a < c.time) (get_or p k [])) → a < t
unfolding due
later_than a t [] h g = absurd (true≢false (sym h))
later_than a t (cs ∷ p) h g =
    split (due_in t cs) (λ e. due-later a t cs e (g 0)) (λ e. later_than a t p (rw e at h) (λ k. g (suc k)))
