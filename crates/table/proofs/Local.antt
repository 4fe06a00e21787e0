-- In a fit table each process keeps to the signals that it drives, and no two drive one: to run the processes one after the other on one
-- set of pending changes gives what joining their posts per driver gives. Assumes nothing.
use Prim.Native.Nat.{ℕ, zero, suc, ◌+◌, ◌≤◌, ◌<◌}
use native.Mathlib.Omega.{arith}
use mathlib.Core.Path.{◌≡◌, refl, ◌∙◌}
use mathlib.Core.Bool.{Bool, true, false, or-true}
use mathlib.Core.List.{List, [], ◌∷◌}
use lib.Dec.{eqb}
use lib.ListN.{length}
use borrow.Author.Tests.{eq-eqb}
use Rattle.laws.proofs.Cases.{split}
use Rattle.rules.specs.Outcome.{Outcome, refuses, gives, ◌then◌}
use Rattle.rules.specs.Formulas.{Values}
use Rattle.rules.specs.Pending.{Pending, change, post}
use Rattle.rules.specs.Runner.{Runner, over, joined}
use Rattle.table.proofs.Outcomes.{Gives}
use Rattle.table.proofs.Overlays.{over_post, length-post}
use Rattle.table.proofs.Threads.{threaded, laid, Local, Apart, Single, threaded-joined}
use Rattle.table.specs.Instructions.{Instruction, name, literal, negation, binary, assignment, test, skip}
use Rattle.table.specs.Machine.{top, pop, Next, next, does, walk}
use Rattle.table.specs.Table.{Table, tabulate, begins, part, posts, runner, runners}
use Rattle.table.specs.Fit.{FitTable}

module _ (d : ℕ → Bool) (p : Pending) (vs : Values) (now : ℕ) where
  posting : {C : Type 0} (o : Outcome Pending) (ops : List Bool) (w : Next → Outcome C) (f : C → Outcome C) (m : ℕ)
      → Gives (λ r. length r ≡ m) o → m ≡ length p
      → ((q : Pending) → length q ≡ length p → w (next 0 ops (over d q p)) ≡ (w (next 0 ops q) then f))
      → (o then (λ a. gives (over d a p)) then (λ a. gives (next 0 ops a)) then w) ≡ (o then (λ a. gives (next 0 ops a)) then w then f)
  posting (refuses r) ops w f m g e h = refl
  posting (gives a) ops w f m g e h = h a (g ∙ e)

  -- instructions that post only to signals of d keep to them, and read nothing of the others
  keeps : (x j : ℕ) (is : List Instruction) (ops : List Bool) (q : Pending) (n : ℕ) → ((k : ℕ) → posts is k ≡ true → d k ≡ true)
      → length q ≡ length p
      → walk vs now x j is ops (over d q p) n ≡ (walk vs now x j is ops q n then (λ a. gives (laid d p a)))
  unfolding walk does posts
  keeps x j [] ops q n h l = refl
  keeps x (suc j) (name i ∷ is) ops q n h l = keeps (suc x) j is ops q n h l
  keeps x (suc j) (literal b ∷ is) ops q n h l = keeps (suc x) j is ops q n h l
  keeps x (suc j) (negation ∷ is) ops q n h l = keeps (suc x) j is ops q n h l
  keeps x (suc j) (binary o ∷ is) ops q n h l = keeps (suc x) j is ops q n h l
  keeps x (suc j) (assignment i t ∷ is) ops q n h l = keeps (suc x) j is ops q n (λ k e. h k (rw e (or-true (eqb i k)))) l
  keeps x (suc j) (test t ∷ is) ops q n h l = keeps (suc x) j is ops q n h l
  keeps x (suc j) (skip t ∷ is) ops q n h l = keeps (suc x) j is ops q n h l
  keeps x zero (name i ∷ is) ops q n h l = keeps (suc x) 0 is _ q (suc n) h l
  keeps x zero (literal b ∷ is) ops q n h l = keeps (suc x) 0 is _ q (suc n) h l
  keeps x zero (negation ∷ is) ops q n h l = keeps (suc x) 0 is _ q (suc n) h l
  keeps x zero (binary o ∷ is) ops q n h l = keeps (suc x) 0 is _ q (suc n) h l
  keeps x zero (assignment i t ∷ is) ops q n h l =
      let c = change (now + t) (top ops) in
      rw (over_post d p i c q l (h i (rw (eq-eqb i i refl) refl)))
      (posting (post i c q) (pop ops) _ _ (length q) (length-post i c q) l
      (λ a m. keeps (suc x) 0 is (pop ops) a (suc n) (λ k e. h k (rw e (or-true (eqb i k)))) m))
  keeps x zero (test t ∷ is) ops q n h l = keeps (suc x) _ is _ q (suc n) h l
  keeps x zero (skip t ∷ is) ops q n h l = keeps (suc x) _ is ops q (suc n) h l

local : (t : Table) (p : ℕ) → Local (runner t p)
unfolding Local runner
local t p vs now q r n l = keeps (posts (part t p)) r vs now (begins t p) 0 (part t p) [] q n (λ k e. e) l

module _ (f : ℕ → Runner) (each : (k : ℕ) → Local (f k)) where
  apart : (r : Runner) (i n : ℕ) → ((j l : ℕ) → i ≤ j → j < i + n → r.drives l ≡ true → (f j).drives l ≡ false) → Apart r (tabulate f i n)
  unfolding tabulate Apart
  apart r i zero h = tt
  apart r i (suc n) h = ((λ l e. h i l (omega arith) (omega arith) e), apart r (suc i) n (λ j l a b e. h j l (omega arith) (omega arith) e))

  single : (i n : ℕ) → ((j k l : ℕ) → i ≤ j → j < k → k < i + n → (f j).drives l ≡ true → (f k).drives l ≡ false) → Single (tabulate f i n)
  unfolding tabulate Single
  single i zero h = tt
  single i (suc n) h = (
    each i,
    apart (f i) (suc i) n (λ j l a b e. h i j l (omega arith) (omega arith) (omega arith) e),
    single (suc i) n (λ j k l a b c e. h j k l (omega arith) (omega arith) (omega arith) e),
  )

not_both : (t : Table) → FitTable t → (j k l : ℕ) → j < k → k < length t.ends → posts (part t j) l ≡ true → posts (part t k) l ≡ false
not_both t f j k l a b e =
    split (posts (part t k) l)
    (λ g. let z : j ≡ k = f.alone j k l (omega arith) b e g in absurd (omega arith))
    (λ g. g)

pub single-drivers : (t : Table) → FitTable t → Single (runners t)
unfolding runners runner
single-drivers t f = single (runner t) (local t) 0 (length t.ends) (λ j k l a b c e. not_both t f j k l b (omega arith) e)

-- the theorem
pub one_after_the_other : (t : Table) → FitTable t → (vs : Values) (now : ℕ) (awake : (ℕ → Bool) → Bool) (p : Pending) (n : ℕ)
    → joined (runners t) vs now awake p (record { pending = p; steps = n }) ≡ threaded (runners t) vs now awake (record { pending = p; steps = n })
one_after_the_other t f vs now awake p n = threaded-joined vs now awake p (runners t) n (single-drivers t f)
