-- Laws of the list of drivers, and what it has to do with the posts of a table's processes. Assumes nothing.
use Prim.Native.Nat.{ℕ, zero, suc, ◌+◌, ◌-◌, ◌≤◌, ◌<◌}
use native.Mathlib.Omega.{arith}
use mathlib.Core.Path.{◌≡◌, refl, sym, ◌∙◌, ap, subst}
use mathlib.Core.Bool.{Bool, true, false, ◌||◌}
use mathlib.Core.Logic.{⊎_elim}
use mathlib.Core.List.{List, [], ◌∷◌}
use lib.Dec.{eqb}
use lib.ListN.{get_or, length, drop, set, replicate, length-set, length-replicate, length-drop}
use lib.Seq.{get_or-take, get_or-drop, get_or-set_same, get_or-set_other, length-take-le}
use Rattle.std.specs.Prelude.{Option, Some, None, MatchOption}
use Rattle.std.specs.Option.{is_some}
use borrow.Author.Tests.{eqb-true, eq-eqb}
use Rattle.laws.proofs.Cases.{same_or}
use Rattle.laws.specs.Decides.{Decides}
use Rattle.laws.proofs.Deciding.{differ, decides_yes, decides_no}
use Rattle.table.specs.Instructions.{Instruction, name, literal, negation, binary, assignment, test, skip}
use Rattle.table.specs.Table.{Table, begins, part, posts}
use Rattle.table.specs.Fit.{at}
use Rattle.fitness.specs.Inside.Parts.{Rows}
use Rattle.fitness.specs.Inside.Drivers.{Posts, Drives, Alone, Owned}
use Rattle.fitness.proofs.Reading.{rows_climb, row_same}

one_some : (p q : ℕ) (o : Option ℕ) → o ≡ Some p → o ≡ Some q → p ≡ q
one_some p q o a b = cc

-- THE PASS

module _ (t : Table) (n m p x : ℕ) (own : List (Option ℕ)) (o : Owned t n x own) where
  -- the instruction at x posts nothing
  pub own-skip : ((k : ℕ) → Posts (at t.code x) k → ⊥) → Owned t n (x + 1) own
  own-skip none =
      record {
        long = o.long;
        known = o.known;
        done = λ q i k l a b c d. ⊎_elim
            (λ e. absurd (none k (subst (λ y. Posts (at t.code y) k) e d)))
            (λ e. o.done q i k l a b (omega arith) d)
            (same_or i x);
      }

  module _ (rows : Rows t n m) (pn : p < n) (lo : begins t p ≤ x) (hi : x < begins t (suc p)) (about : ℕ) (here : Posts (at t.code x) about) where
    mine : Drives t p about
    mine = record { place = x; behind = lo; before = hi; posts = here }

    -- it posts a signal that no process drives, or this one does
    pub own-more : about < 64 → ((k : ℕ) → Posts (at t.code x) k → k ≡ about) → ((q : ℕ) → get_or own about None ≡ Some q → q ≡ p)
        → Owned t n (x + 1) (set own about (Some p))
    own-more l only free =
        let now : get_or (set own about (Some p)) about None ≡ Some p = get_or-set_same own about (Some p) None (omega (arith, o.long)) in
        record {
          long = length-set own about (Some p) ∙ o.long;
          known = λ k q e. ⊎_elim
              (λ a. let z : p ≡ q = one_some p q _ now (ap (λ j. get_or (set own about (Some p)) j None) (sym a) ∙ e) in rw (a, ← z) (pn, mine))
              (λ a. o.known k q (sym (get_or-set_other own about k (Some p) None a) ∙ e)) (same_or k about);
          done = λ q i k h a b c d. ⊎_elim
              (λ e.
              let v : p ≡ q = row_same t n m rows p q x pn h lo hi (subst (λ y. begins t q ≤ y) e a) (subst (λ y. y < begins t (suc q)) e b) in
              let w : k ≡ about = only k (subst (λ y. Posts (at t.code y) k) e d) in
              rw (w, ← v) now)
              (λ e.
              let w = o.done q i k h a b (omega arith) d in
              ⊎_elim
              (λ a. let y : q ≡ p = free q (ap (λ j. get_or own j None) (sym a) ∙ w) in rw (a, y) now)
              (λ a. get_or-set_other own about k (Some p) None a ∙ w) (same_or k about))
              (same_or i x);
        }

    -- it posts a signal that another process drives
    pub own-bad : (q : ℕ) → get_or own about None ≡ Some q → (q ≡ p → ⊥) → Alone t n → ⊥
    own-bad q e differs a =
        let d = o.known about q e in
        differs (sym (a p q about pn d.0 mine d.1))

none_at : (n k q : ℕ) → get_or (replicate n None) k None ≡ Some q → ⊥
none_at zero k q e = cc
none_at (suc n) zero q e = cc
none_at (suc n) (suc k) q e = none_at n k q e

pub own-none : (t : Table) (n : ℕ) → Owned t n 0 (replicate 64 None)
own-none t n =
    record {
      long = length-replicate {A = Option ℕ} 64 None;
      known = λ k q e. absurd (none_at 64 k q e);
      done = λ q i k l a b c d. absurd (omega arith);
    }

module _ (t : Table) (n m : ℕ) (own : List (Option ℕ)) (rows : Rows t n m) (o : Owned t n m own) where
  -- what drives a signal is written down
  pub own-known : (p k : ℕ) → p < n → Drives t p k → get_or own k None ≡ Some p
  own-known p k l d =
      let h = rows_climb t n m rows (suc p) (n - suc p) n (omega arith) (omega arith) in
      o.done p d.place k l d.behind d.before (omega (arith, d.before, rows.cover)) d.posts

  pub own_alone : Alone t n
  own_alone p q k a b x y = one_some p q (get_or own k None) (own-known p k a x) (own-known q k b y)

pub alone-known : (t : Table) (n m : ℕ) → Rows t n m → (found : Option (List (Option ℕ))) (r : Bool) → r ≡ is_some found
    → MatchOption found (Alone t n → ⊥) (Owned t n m) → Decides r (Alone t n)
alone-known t n m rows None r e h = rw e (decides_no _ h)
alone-known t n m rows (Some own) r e h = rw e (decides_yes _ (own_alone t n m own rows h))

-- POSTS OF A PROCESS

-- an assignment to signal k is among the instructions
record Posted (is : List Instruction) (k : ℕ) : Type 0 where
  place : ℕ
  exists : place < length is
  posts : Posts (at is place) k

posted-later : (i : Instruction) (is : List Instruction) (k : ℕ) → Posted is k → Posted (i ∷ is) k
posted-later i is k p = record { place = suc p.place; exists = omega (arith, p.exists); posts = p.posts }

posted_first : (i d k : ℕ) (is : List Instruction) → (eqb i k || posts is k) ≡ true → (posts is k ≡ true → Posted is k) → Posted (assignment i d ∷ is) k
posted_first i d k is e f = go (eqb i k) refl e
  where
    go : (b : Bool) → eqb i k ≡ b → (b || posts is k) ≡ true → Posted (assignment i d ∷ is) k
    go true h g = record { place = 0; exists = omega arith; posts = eqb-true i k h }
    go false h g = posted-later (assignment i d) is k (f g)

posted : (is : List Instruction) (k : ℕ) → posts is k ≡ true → Posted is k
unfolding posts
posted [] k e = differ (sym e)
posted (name i ∷ is) k e = posted-later (name i) is k (posted is k e)
posted (literal b ∷ is) k e = posted-later (literal b) is k (posted is k e)
posted (negation ∷ is) k e = posted-later negation is k (posted is k e)
posted (binary o ∷ is) k e = posted-later (binary o) is k (posted is k e)
posted (assignment i d ∷ is) k e = posted_first i d k is e (posted is k)
posted (test t ∷ is) k e = posted-later (test t) is k (posted is k e)
posted (skip t ∷ is) k e = posted-later (skip t) is k (posted is k e)

or_right : (a b : Bool) → b ≡ true → (a || b) ≡ true
or_right true b e = refl
or_right false b e = e

posts_at : (is : List Instruction) (k x : ℕ) → x < length is → Posts (at is x) k → posts is k ≡ true
unfolding posts
posts_at [] k x l p = absurd (omega arith)
posts_at (name i ∷ is) k zero l p = absurd p
posts_at (literal b ∷ is) k zero l p = absurd p
posts_at (negation ∷ is) k zero l p = absurd p
posts_at (binary o ∷ is) k zero l p = absurd p
posts_at (assignment i d ∷ is) k zero l p = rw (eq-eqb i k p)
posts_at (test t ∷ is) k zero l p = absurd p
posts_at (skip t ∷ is) k zero l p = absurd p
posts_at (name i ∷ is) k (suc x) l p = posts_at is k x (omega arith) p
posts_at (literal b ∷ is) k (suc x) l p = posts_at is k x (omega arith) p
posts_at (negation ∷ is) k (suc x) l p = posts_at is k x (omega arith) p
posts_at (binary o ∷ is) k (suc x) l p = posts_at is k x (omega arith) p
posts_at (assignment i d ∷ is) k (suc x) l p = or_right (eqb i k) (posts is k) (posts_at is k x (omega arith) p)
posts_at (test t ∷ is) k (suc x) l p = posts_at is k x (omega arith) p
posts_at (skip t ∷ is) k (suc x) l p = posts_at is k x (omega arith) p

module _ (t : Table) (p : ℕ) (low : begins t p ≤ begins t (suc p)) (high : begins t (suc p) ≤ length t.code) where
  part_length : length (part t p) ≡ begins t (suc p) - begins t p
  part_length = length-take-le (begins t (suc p) - begins t p) (drop (begins t p) t.code) (simp length-drop (omega arith))

  part-place : (x : ℕ) → x < begins t (suc p) - begins t p → at (part t p) x ≡ at t.code (begins t p + x)
  part-place x l = get_or-take (begins t (suc p) - begins t p) (drop (begins t p) t.code) x negation l ∙ get_or-drop (begins t p) t.code x negation

  pub drives-posts : (k : ℕ) → Drives t p k → posts (part t p) k ≡ true
  drives-posts k d =
      let a = d.behind in
      let b = d.before in
      let x = d.place - begins t p in
      let e : begins t p + x ≡ d.place = omega arith in
      posts_at (part t p) k x (omega (arith, part_length))
      (rw (part-place x (omega arith), e) d.posts)

  pub posts-drives : (k : ℕ) → posts (part t p) k ≡ true → Drives t p k
  posts-drives k e =
      let d = posted (part t p) k e in
      let l : d.place < begins t (suc p) - begins t p = omega (arith, d.exists, part_length) in
      record {
        place = begins t p + d.place;
        behind = omega arith;
        before = omega arith;
        posts = rw (← part-place d.place l) d.posts;
      }
