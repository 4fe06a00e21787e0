-- The processes of a fit table keep pending changes in order, so that the session after each call is fit again. Assumes nothing.
use Prim.Native.Nat.{ℕ, zero, suc, ◌+◌, ◌≤◌, ◌<◌}
use native.Mathlib.Omega.{arith}
use mathlib.Core.Path.{◌≡◌, refl, subst}
use mathlib.Core.Bool.{Bool, true, or-true}
use mathlib.Core.Logic.{⊎_elim}
use mathlib.Core.List.{List, [], ◌∷◌}
use lib.Dec.{eqb}
use lib.ListN.{length}
use borrow.Author.Tests.{eq-eqb}
use Rattle.laws.proofs.Cases.{side}
use Rattle.words.specs.Unit.{longest}
use Rattle.rules.specs.Outcome.{Outcome, refuses, gives, ◌then◌}
use Rattle.rules.specs.Formulas.{Values}
use Rattle.rules.specs.Pending.{Pending, change, post}
use Rattle.rules.specs.Runner.{Runner}
use Rattle.rules.specs.Session.{driven}
use Rattle.table.proofs.Outcomes.{Gives, gives_then}
use Rattle.table.proofs.Orderly.{Orderly, InOrder, Obedient, AllObedient, orderly-post}
use Rattle.table.specs.Instructions.{Instruction, name, literal, negation, binary, assignment, test, skip}
use Rattle.table.specs.Machine.{top, pop, next, does, walk}
use Rattle.table.specs.Table.{Table, tabulate, begins, part, posts, runner, runners}
use Rattle.table.specs.Fit.{at, Exists, FitTable}
use Rattle.table.proofs.Fitting.{AllExist}
use Rattle.table.proofs.Running.{in_code, length_part, part-place}

module _ (drives : ℕ → Bool) (n : ℕ) (vs : Values) (now : ℕ) where
  posted : (o : Outcome Pending) (ops : List Bool) → Gives (Orderly drives n now (now + longest)) o
      → Gives (λ s. Orderly drives n now (now + longest) s.pending) (o then (λ q. gives (next 0 ops q)))
  posted (refuses r) ops h = tt
  posted (gives q) ops h = h

  obeys : (x j : ℕ) (is : List Instruction) (ops : List Bool) (p : Pending) (m : ℕ) → AllExist n is → ((k : ℕ) → posts is k ≡ true → drives k ≡ true)
      → Orderly drives n now (now + longest) p → Gives (InOrder drives n now) (walk vs now x j is ops p m)
  unfolding walk does posts AllExist
  obeys x j [] ops p m e d o = o
  obeys x (suc j) (name i ∷ is) ops p m e d o = obeys (suc x) j is ops p m e.1 d o
  obeys x (suc j) (literal b ∷ is) ops p m e d o = obeys (suc x) j is ops p m e.1 d o
  obeys x (suc j) (negation ∷ is) ops p m e d o = obeys (suc x) j is ops p m e.1 d o
  obeys x (suc j) (binary b ∷ is) ops p m e d o = obeys (suc x) j is ops p m e.1 d o
  obeys x (suc j) (assignment i t ∷ is) ops p m e d o = obeys (suc x) j is ops p m e.1 (λ k g. d k (rw g (or-true (eqb i k)))) o
  obeys x (suc j) (test t ∷ is) ops p m e d o = obeys (suc x) j is ops p m e.1 d o
  obeys x (suc j) (skip t ∷ is) ops p m e d o = obeys (suc x) j is ops p m e.1 d o
  obeys x zero (name i ∷ is) ops p m e d o = obeys (suc x) 0 is _ p (suc m) e.1 d o
  obeys x zero (literal b ∷ is) ops p m e d o = obeys (suc x) 0 is _ p (suc m) e.1 d o
  obeys x zero (negation ∷ is) ops p m e d o = obeys (suc x) 0 is _ p (suc m) e.1 d o
  obeys x zero (binary b ∷ is) ops p m e d o = obeys (suc x) 0 is _ p (suc m) e.1 d o
  obeys x zero (assignment i t ∷ is) ops p m e d o =
      let c = change (now + t) (top ops) in
      gives_then (λ s. Orderly drives n now (now + longest) s.pending) (InOrder drives n now) (post i c p then (λ q. gives (next 0 (pop ops) q))) _
      (posted (post i c p) (pop ops)
      (orderly-post drives n now (now + longest) p i c (d i (rw (eq-eqb i i refl) refl)) (omega arith) (omega (arith, e.0.1)) o))
      (λ s g. obeys (suc x) s.pass is s.operands s.pending (suc m) e.1 (λ k h. d k (rw h (or-true (eqb i k)))) g)
  obeys x zero (test t ∷ is) ops p m e d o = obeys (suc x) _ is _ p (suc m) e.1 d o
  obeys x zero (skip t ∷ is) ops p m e d o = obeys (suc x) _ is ops p (suc m) e.1 d o

exist_all : (n : ℕ) (is : List Instruction) → ((k : ℕ) → k < length is → Exists n (at is k)) → AllExist n is
unfolding AllExist
exist_all n [] h = tt
exist_all n (i ∷ is) h = (h 0 (omega arith), exist_all n is (λ k l. h (suc k) (omega arith)))

-- what one of them drives is driven
pub driven_by : (f : ℕ → Runner) (i n p k : ℕ) → i ≤ p → p < i + n → (f p).drives k ≡ true → driven (tabulate f i n) k ≡ true
unfolding tabulate driven
driven_by f i zero p k lo hi h = absurd (omega arith)
driven_by f i (suc n) p k lo hi h =
    ⊎_elim
    (λ l. rw (driven_by f (suc i) n p k l (omega arith) h) (or-true ((f i).drives k)))
    (λ l. let e : p ≡ i = omega arith in rw (subst (λ j. (f j).drives k ≡ true) e h) refl)
    (side i p)

all_obedient : (f : ℕ → Runner) (drives : ℕ → Bool) (n i m : ℕ) → ((p : ℕ) → i ≤ p → p < i + m → Obedient drives n (f p)) → AllObedient drives n (tabulate f i m)
unfolding tabulate AllObedient
all_obedient f drives n i zero h = tt
all_obedient f drives n i (suc m) h =
    (h i (omega arith) (omega arith), all_obedient f drives n (suc i) m (λ p lo hi. h p (omega arith) (omega arith)))

module _ (t : Table) (f : FitTable t) where
  part-exists : (p : ℕ) → p < length t.ends → AllExist (length t.initial) (part t p)
  part-exists p l =
      exist_all (length t.initial) (part t p)
      (λ k h. subst (Exists (length t.initial)) (part-place t f p k l h)
      (f.exists (begins t p + k) (omega (arith, length_part t f p l, in_code t f p l))))

  obedient : (p : ℕ) → p < length t.ends → Obedient (driven (runners t)) (length t.initial) (runner t p)
  unfolding Obedient runners runner
  obedient p l vs now q m o =
      obeys (driven (runners t)) (length t.initial) vs now (begins t p) 0 (part t p) [] q m (part-exists p l)
      (λ k h. driven_by (runner t) 0 (length t.ends) p k (omega arith) (omega arith) h) o

  pub table-obedient : AllObedient (driven (runners t)) (length t.initial) (runners t)
  unfolding runners
  table-obedient = all_obedient (runner t) (driven (runners t)) (length t.initial) 0 (length t.ends) (λ p lo hi. obedient p (omega arith))
