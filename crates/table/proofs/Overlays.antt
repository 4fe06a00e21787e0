-- Pending changes of the driven signals laid over others. Assumes nothing.
use Prim.Native.Nat.{ℕ, zero, suc}
use native.Mathlib.Omega.{arith}
use mathlib.Core.Path.{◌≡◌, refl, ap, ap₂}
use mathlib.Core.Bool.{Bool, true, false}
use mathlib.Core.List.{List, [], ◌∷◌}
use lib.Dec.{ltb}
use lib.ListN.{length, get_or, set, length-set}
use Rattle.laws.specs.Pick.{pick}
use Rattle.laws.proofs.Cases.{split}
use Rattle.rules.specs.Sizes.{most_pending}
use Rattle.rules.specs.Outcome.{gives, ◌then◌}
use Rattle.rules.specs.Pending.{Change, Pending, before, post}
use Rattle.rules.specs.Runner.{over}
use Rattle.table.proofs.Outcomes.{Gives}

pub length_over : (d : ℕ → Bool) (q p : Pending) → length (over d q p) ≡ length p
unfolding over
length_over d q [] = refl
length_over d [] (c ∷ p) = refl
length_over d (b ∷ q) (c ∷ p) = ap suc (length_over (λ k. d (suc k)) q p)

-- a driven signal is read and set in q, any other is read in p
pub over-driven : (d : ℕ → Bool) (q p : Pending) (k : ℕ) → length q ≡ length p → d k ≡ true → get_or (over d q p) k [] ≡ get_or q k []
unfolding over
over-driven d [] [] k l h = refl
over-driven d [] (c ∷ p) k l h = absurd (omega arith)
over-driven d (b ∷ q) [] k l h = absurd (omega arith)
over-driven d (b ∷ q) (c ∷ p) zero l h = rw h
over-driven d (b ∷ q) (c ∷ p) (suc k) l h = over-driven (λ k. d (suc k)) q p k (omega arith) h

pub over_other : (d : ℕ → Bool) (q p : Pending) (k : ℕ) → d k ≡ false → get_or (over d q p) k [] ≡ get_or p k []
unfolding over
over_other d q [] k h = refl
over_other d [] (c ∷ p) k h = refl
over_other d (b ∷ q) (c ∷ p) zero h = rw h
over_other d (b ∷ q) (c ∷ p) (suc k) h = over_other (λ k. d (suc k)) q p k h

over-set : (d : ℕ → Bool) (q p : Pending) (k : ℕ) (v : List Change) → length q ≡ length p → d k ≡ true
    → set (over d q p) k v ≡ over d (set q k v) p
unfolding over
over-set d [] [] k v l h = refl
over-set d [] (c ∷ p) k v l h = absurd (omega arith)
over-set d (b ∷ q) [] k v l h = refl
over-set d (b ∷ q) (c ∷ p) zero v l h = rw h
over-set d (b ∷ q) (c ∷ p) (suc k) v l h = ap (λ r. pick (d 0) b c ∷ r) (over-set (λ k. d (suc k)) q p k v (omega arith) h)

-- where q agrees with p on the driven signals nothing changes
pub over_same : (d : ℕ → Bool) (q p : Pending) → length q ≡ length p → ((k : ℕ) → d k ≡ true → get_or q k [] ≡ get_or p k []) → over d q p ≡ p
unfolding over
over_same d q [] l h = refl
over_same d [] (c ∷ p) l h = refl
over_same d (b ∷ q) (c ∷ p) l h =
    ap₂ (λ x r. x ∷ r)
    (split (d 0) (λ e. rw e (h 0 e)) (λ e. rw e refl))
    (over_same (λ k. d (suc k)) q p (omega arith) (λ k. h (suc k)))

-- a post for a driven signal is a post in q
module _ (d : ℕ → Bool) (p : Pending) where
  pub over_post : (k : ℕ) (c : Change) (q : Pending) → length q ≡ length p → d k ≡ true
      → post k c (over d q p) ≡ (post k c q then (λ a. gives (over d a p)))
  unfolding post
  over_post k c q l h =
      rw (over-driven d q p k l h)
      (split (ltb (length (before c.time (get_or q k []))) most_pending) (λ e. rw e (ap gives (over-set d q p k _ l h))) (λ e. rw e refl))

pub length-post : (k : ℕ) (c : Change) (q : Pending) → Gives (λ r. length r ≡ length q) (post k c q)
unfolding post
length-post k c q =
    split (ltb (length (before c.time (get_or q k []))) most_pending) (λ e. rw e (length-set q k _)) (λ e. rw e tt)
