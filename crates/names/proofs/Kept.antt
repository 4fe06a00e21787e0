-- A design whose tokens are all fine: what its circuit keeps, construct by construct, and how the state of the fold moves over it.
-- Assumes nothing.
use Prim.Native.Nat.{ℕ, suc, ◌+◌, ◌≤◌, ◌<◌}
use native.Mathlib.Omega.{arith}
use mathlib.Core.Path.{◌≡◌, refl, sym, ◌∙◌}
use mathlib.Core.Bool.{Bool, true, false, not, ◌||◌, or_assoc}
use mathlib.Core.Option.{Option, none, some}
use mathlib.Core.List.{List, [], ◌∷◌, ◌++◌, append-nil, append_assoc}
use lib.Dec.{eqb}
use lib.ListN.{length}
use borrow.Author.Tests.{ltb-false, not-false}
use Rattle.laws.specs.Pick.{pick, same_list}
use Rattle.laws.proofs.Picks.{pick_both}
use Rattle.words.specs.Token.{Name, Chain}
use Rattle.words.specs.Unit.{longest}
use Rattle.syntax.specs.Tree.{Expression, Tail, More, Factor, Primary, expression, alone, joined, chained, enough, more, plain, negated, named, constant, bracketed}
use Rattle.syntax.specs.Tree.{Delay, Statements, Statement, Otherwise, immediate, after, done, also, assignment, conditional, null, missing, otherwise}
use Rattle.syntax.specs.Tree.{Declaration, Sensitivity, Process, declaration, unlisted, listed, process}
use Rattle.syntax.specs.Circuit.{Formula, Actions, Activity}
use Rattle.syntax.specs.Sentence.{most_open, statements_nest, statement_nest, otherwise_nest, processes_nest}
use Rattle.rules.specs.Formulas.{size}
use Rattle.rules.specs.Statements
use Rattle.rules.specs.Sized.{instructions, total, Known, Keeps, Listed}
use Rattle.names.specs.Roles.{Role, declares, listens, opens, passes, expression_roles, tail_roles, more_roles, factor_roles, primary_roles, delay_roles, statements_roles, statement_roles, otherwise_roles, word_roles, closing_roles, label_roles, comma_roles, initial_roles, sensitivity_roles, declarations_roles, processes_roles}
use Rattle.names.specs.Judge.{State, is_among, number_of, has, faults, next}
use Rattle.names.specs.CircuitOf.{chain_operator, expression_formula, tail_formula, more_formula, factor_formula, primary_formula, delay_femtoseconds, statements_actions, statement_actions, otherwise_actions, without, distinct, list_names, numbers, activities_of, declared_names}
use Rattle.names.proofs.Verdict.{Clear}
use Rattle.names.proofs.Operands.{expression_operands}

-- the tokens are all fine, and lead from the state y to the state z
abbrev pub Leads : State → State → List Role → Type 0
Leads z y [] = y ≡ z
Leads z y (r ∷ rs) = Clear (faults y r) × Leads z (next y r) rs

-- a declared name has a number below the number of signals
among_below : (n : Name) (ns : List Name) → is_among n ns ≡ true → number_of n ns < length ns
among_below n [] e = let z : ◌≡◌ {A = ℕ} 0 1 = cc in absurd (omega arith)
among_below n (m ∷ ms) e = go (same_list m n) e (among_below n ms)
  where
    go : (b : Bool) → (b || is_among n ms) ≡ true → (is_among n ms ≡ true → number_of n ms < length ms) → pick b 0 (suc (number_of n ms)) < suc (length ms)
    go true h f = omega arith
    go false h f = omega (arith, f h)

declared-below : (n : Name) (ns : List Name) → not (is_among n ns) ≡ false → number_of n ns < length ns
declared-below n ns e = among_below n ns (not-false (is_among n ns) e)

-- the signals that actions assign, in front of those in c
abbrev pub collect : Actions → List ℕ → List ℕ
collect Actions.done c = c
collect (Actions.assign j f d r) c = collect r (j ∷ c)
collect (Actions.branch f a b r) c = collect r (collect b (collect a c))
collect (Actions.null r) c = collect r c

-- no assigned signal is among those in e
abbrev pub Free : List ℕ → Actions → Type 0
Free e Actions.done = Unit {0}
Free e (Actions.assign j f d r) = (has j e ≡ false) × Free e r
Free e (Actions.branch f a b r) = Free e a × Free e b × Free e r
Free e (Actions.null r) = Free e r

module _ (z : State) (ns : List Name) where
  -- the signals are declared; labels, processes and what processes assign, and the instructions, so far
  abbrev pub within : List Name → ℕ → List ℕ → List ℕ → ℕ → State
  within ls q e c m = record { signal_names = ns; label_names = ls; processes = q; earlier = e; current = c; instructions = m }

  module _ (ls : List Name) (q : ℕ) (e : List ℕ) where
    moved : (c : List ℕ) (R : List Role) {m k : ℕ} → m ≡ k → Leads z (within ls q e c m) R → Leads z (within ls q e c k) R
    moved c R h l = rw h at l

    mutual
      unfolding size Known

      expression_kept : (x : Expression) (c : List ℕ) (m k : ℕ) (R : List Role) → m + size (expression_formula x ns) ≡ k
          → Leads z (within ls q e c m) (expression_roles x R) → Known (length ns) (expression_formula x ns) × Leads z (within ls q e c k) R
      expression_kept (expression f t) c m k R h l =
          let a = factor_kept f c m (m + size (factor_formula f ns)) (tail_roles t R) refl l in
          tail_kept t (factor_formula f ns) c (m + size (factor_formula f ns)) k R (omega arith) a.0 a.1

      tail_kept : (t : Tail) (a : Formula) (c : List ℕ) (m k : ℕ) (R : List Role)
          → m + size (tail_formula t ns a) ≡ k + size a → Known (length ns) a
          → Leads z (within ls q e c m) (tail_roles t R) → Known (length ns) (tail_formula t ns a) × Leads z (within ls q e c k) R
      tail_kept alone a c m k R h s l = (s, moved c R (omega arith) l)
      tail_kept (joined o f) a c m k R h s l =
          let b = factor_kept f c (m + 1) k R (omega arith) l.1 in
          ((s, b.0), b.1)
      tail_kept (chained o f r) a c m k R h s l =
          let b = factor_kept f c (m + 1) (m + 1 + size (factor_formula f ns)) (more_roles r R) refl l.1 in
          more_kept r o (Formula.combined (chain_operator o) a (factor_formula f ns)) c (m + 1 + size (factor_formula f ns)) k R
          (omega arith) (s, b.0) b.1

      more_kept : (r : More) (o : Chain) (a : Formula) (c : List ℕ) (m k : ℕ) (R : List Role)
          → m + size (more_formula r ns o a) ≡ k + size a → Known (length ns) a
          → Leads z (within ls q e c m) (more_roles r R) → Known (length ns) (more_formula r ns o a) × Leads z (within ls q e c k) R
      more_kept enough o a c m k R h s l = (s, moved c R (omega arith) l)
      more_kept (more f r) o a c m k R h s l =
          let b = factor_kept f c (m + 1) (m + 1 + size (factor_formula f ns)) (more_roles r R) refl l.1 in
          more_kept r o (Formula.combined (chain_operator o) a (factor_formula f ns)) c (m + 1 + size (factor_formula f ns)) k R
          (omega arith) (s, b.0) b.1

      factor_kept : (f : Factor) (c : List ℕ) (m k : ℕ) (R : List Role) → m + size (factor_formula f ns) ≡ k
          → Leads z (within ls q e c m) (factor_roles f R) → Known (length ns) (factor_formula f ns) × Leads z (within ls q e c k) R
      factor_kept (plain p) c m k R h l = primary_kept p c m k R h l
      factor_kept (negated p) c m k R h l = primary_kept p c (m + 1) k R (omega arith) l.1

      primary_kept : (p : Primary) (c : List ℕ) (m k : ℕ) (R : List Role) → m + size (primary_formula p ns) ≡ k
          → Leads z (within ls q e c m) (primary_roles p R) → Known (length ns) (primary_formula p ns) × Leads z (within ls q e c k) R
      primary_kept (named n) c m k R h l = (declared-below n ns l.0.0, moved c R h l.1)
      primary_kept (constant b) c m k R h l = (tt, moved c R h l.1)
      primary_kept (bracketed x) c m k R h l =
          let a = expression_kept x c m k (passes ∷ R) h l.1 in
          (a.0, a.1.1)

    delay_kept : (d : Delay) (y : State) (R : List Role) → Leads z y (delay_roles d (passes ∷ R)) → (delay_femtoseconds d ≤ longest) × Leads z y R
    delay_kept immediate y R l = (omega arith, l.1)
    delay_kept (after n u) y R l = (ltb-false _ _ l.1.0.0, l.1.1.1.1)

    -- what actions keep, and where the tokens go on
    abbrev Kept : Actions → List ℕ → ℕ → List Role → Type 0
    Kept r c k R = Keeps (length ns) r × Free e r × Leads z (within ls q e (collect r c) k) R

    mutual
      unfolding instructions Keeps

      statements_kept : (ss : Statements) (c : List ℕ) (m k : ℕ) (R : List Role) → statements_nest ss ≤ most_open
          → m + instructions (statements_actions ss ns) ≡ k
          → Leads z (within ls q e c m) (statements_roles ss R) → Kept (statements_actions ss ns) c k R
      statements_kept done c m k R w h l = (tt, tt, moved c R (omega arith) l)
      statements_kept (also s ss) c m k R w h l =
          statement_kept s (statements_actions ss ns) c m k (statements_roles ss R) R (omega arith) h l
          (λ c' m' h' l'. statements_kept ss c' m' k R (omega arith) h' l')

      -- a statement in front of the actions r, whose tokens S lead on to R
      statement_kept : (s : Statement) (r : Actions) (c : List ℕ) (m k : ℕ) (S R : List Role) → statement_nest s ≤ most_open
          → m + instructions (statement_actions s ns r) ≡ k → Leads z (within ls q e c m) (statement_roles s S)
          → ((c' : List ℕ) (m' : ℕ) → m' + instructions r ≡ k → Leads z (within ls q e c' m') S → Kept r c' k R)
          → Kept (statement_actions s ns r) c k R
      statement_kept (assignment n x d) r c m k S R w h l f =
          let i = size (expression_formula x ns) in
          let a = expression_kept x (number_of n ns ∷ c) (m + 1) (m + 1 + i) (delay_roles d (passes ∷ S)) refl l.1.1.1 in
          let b = delay_kept d (within ls q e (number_of n ns ∷ c) (m + 1 + i)) S a.1 in
          let g = f (number_of n ns ∷ c) (m + 1 + i) (omega arith) b.1 in
          ((declared-below n ns l.0.0, b.0, omega (arith, expression_operands ns x), a.0, g.0), (l.0.1.0, g.1), g.2)
      statement_kept (conditional x ss o) r c m k S R w h l f =
          let i = size (expression_formula x ns) in
          let j = instructions (statements_actions ss ns) in
          let j' = instructions (otherwise_actions o ns) in
          let S' = passes ∷ passes ∷ passes ∷ S in
          let a = expression_kept x c (m + 2) (m + 2 + i) (passes ∷ statements_roles ss (otherwise_roles o S')) refl l.1 in
          let b = statements_kept ss c (m + 2 + i) (m + 2 + i + j) (otherwise_roles o S') (omega arith) refl a.1.1 in
          let b' = otherwise_kept o (collect (statements_actions ss ns) c) (m + 2 + i + j) (m + 2 + i + j + j') S' (omega arith) refl b.2 in
          let g = f (collect (otherwise_actions o ns) (collect (statements_actions ss ns) c)) (m + 2 + i + j + j') (omega arith) b'.2.1.1.1 in
          ((omega (arith, expression_operands ns x), a.0, b.0, b'.0, g.0), (b.1, b'.1, g.1), g.2)
      statement_kept null r c m k S R w h l f = f c m h l.1.1

      otherwise_kept : (o : Otherwise) (c : List ℕ) (m k : ℕ) (R : List Role) → otherwise_nest o ≤ most_open
          → m + instructions (otherwise_actions o ns) ≡ k
          → Leads z (within ls q e c m) (otherwise_roles o R) → Kept (otherwise_actions o ns) c k R
      otherwise_kept missing c m k R w h l = (tt, tt, moved c R (omega arith) l)
      otherwise_kept (otherwise ss) c m k R w h l = statements_kept ss c m k R w h l.1

  -- what may be missing, and lists of names

  pub word_kept : (b : Bool) (y : State) (R : List Role) → Leads z y (word_roles b R) → Leads z y R
  word_kept true y R l = l.1
  word_kept false y R l = l

  pub closing_kept : (o c : Option Name) (y : State) (R : List Role) → Leads z y (closing_roles o c R) → Leads z y R
  closing_kept o none y R l = l
  closing_kept o (some n) y R l = l.1

  comma_kept : (ms : List Name) (ls : List Name) (q : ℕ) (e c : List ℕ) (m : ℕ) (R : List Role)
      → Leads z (within ls q e c m) (comma_roles listens ms R) → Listed (length ns) (numbers ns ms) × Leads z (within ls q e c m) R
  unfolding Listed
  comma_kept [] ls q e c m R l = (tt, l)
  comma_kept (n ∷ ms) ls q e c m R l =
      let a = comma_kept ms ls q e c m R l.1.1 in
      ((declared-below n ns l.1.0.0, a.0), a.1)

  sensitivity_kept : (s : Sensitivity) (ls : List Name) (q : ℕ) (e c : List ℕ) (m : ℕ) (R : List Role)
      → Leads z (within ls q e c m) (sensitivity_roles s R) → Listed (length ns) (numbers ns (list_names s)) × Leads z (within ls q e c m) R
  unfolding Listed
  sensitivity_kept unlisted ls q e c m R l = (tt, l)
  sensitivity_kept (listed n ms) ls q e c m R l =
      let a = comma_kept ms ls q e c m (passes ∷ R) l.1.1 in
      ((declared-below n ns l.1.0.0, a.0), a.1.1)

  label_kept : (o : Option Name) (ls : List Name) (q : ℕ) (e c : List ℕ) (m : ℕ) (R : List Role)
      → Leads z (within ls q e c m) (label_roles o R) → (ls' : List Name) × Leads z (within ls' q e c m) R
  label_kept none ls q e c m R l = (ls, l)
  label_kept (some n) ls q e c m R l = (n ∷ ls, l.1.1)

-- a list with each number once has no other numbers
below-without : (n k : ℕ) (js : List ℕ) → Listed n js → Listed n (without k js)
unfolding Listed
below-without n k [] a = tt
below-without n k (j ∷ js) a =
    let r = below-without n k js a.1 in
    pick_both (Listed n) (eqb j k) (without k js) (j ∷ without k js) (λ _. r) (λ _. (a.0, r))

below-distinct : (n : ℕ) (ks : List ℕ) → Listed n ks → Listed n (distinct ks)
unfolding Listed
below-distinct n [] a = tt
below-distinct n (k ∷ ks) a = (a.0, below-without n k (distinct ks) (below-distinct n ks a.1))

-- each process keeps the sizes
abbrev pub AllKeep : ℕ → List Activity → Type 0
AllKeep n [] = Unit {0}
AllKeep n (p ∷ ps) = Listed n p.wakes × Keeps n p.body × AllKeep n ps

-- each process assigns none of the signals in e, nor one that an earlier process assigns
abbrev pub ApartFrom : List ℕ → List Activity → Type 0
ApartFrom e [] = Unit {0}
ApartFrom e (p ∷ ps) = Free e p.body × ApartFrom (collect p.body [] ++ e) ps

-- the tokens R lead to z from a state with these signals and counts
pub record Arrived (z : State) (ns : List Name) (q k : ℕ) (R : List Role) : Type 0 where
  pub state : State
  pub names : state.signal_names ≡ ns
  pub opened : state.processes ≡ q
  pub counted : state.instructions ≡ k
  pub leads : Leads z state R

module _ (z : State) (ns : List Name) where
  pub processes_kept : (ps : List Process) (ls : List Name) (q r : ℕ) (e c : List ℕ) (m k : ℕ) (R : List Role) → processes_nest ps ≤ most_open
      → q + length ps ≡ r → m + total (activities_of ns ps) ≡ k → Leads z (within z ns ls q e c m) (processes_roles ps R)
      → AllKeep (length ns) (activities_of ns ps) × ApartFrom (c ++ e) (activities_of ns ps) × Arrived z ns r k R
  unfolding total
  processes_kept [] ls q r e c m k R n g h l =
      (tt, tt, record { state = within z ns ls q e c m; names = refl; opened = omega arith; counted = omega arith; leads = l })
  processes_kept (process o s i b o' ∷ ps) ls q r e c m k R n g h l =
      let body = statements_actions b ns in
      let m' = m + instructions body in
      let after' = passes ∷ passes ∷ closing_roles o o' (passes ∷ processes_roles ps R) in
      let a = label_kept z ns o ls q e c m (opens ∷ sensitivity_roles s (word_roles i (passes ∷ statements_roles b after'))) l in
      let w = sensitivity_kept z ns s a.0 (q + 1) (c ++ e) [] m (word_roles i (passes ∷ statements_roles b after')) a.1.1 in
      let t = word_kept z ns i (within z ns a.0 (q + 1) (c ++ e) [] m) (passes ∷ statements_roles b after') w.1 in
      let v = statements_kept z ns a.0 (q + 1) (c ++ e) b [] m m' after' (omega arith) refl t.1 in
      let u = closing_kept z ns o o' (within z ns a.0 (q + 1) (c ++ e) (collect body []) m') (passes ∷ processes_roles ps R) v.2.1.1 in
      let f = processes_kept ps a.0 (q + 1) r (c ++ e) (collect body []) m' k R (omega arith) (omega arith) (omega arith) u.1 in
      ((below-distinct (length ns) (numbers ns (list_names s)) w.0, v.0, f.0), (v.1, f.1), f.2)

-- the signals s are declared so far
abbrev pub declaring : List Name → State
declaring s = record { signal_names = s; label_names = []; processes = 0; earlier = []; current = []; instructions = 0 }

module _ (z : State) where
  comma_declared : (ns s : List Name) (R : List Role) → Leads z (declaring s) (comma_roles declares ns R) → Leads z (declaring (s ++ ns)) R
  comma_declared [] s R l = rw append-nil l
  comma_declared (n ∷ ns) s R l = rw (← append_assoc s (n ∷ []) ns) (comma_declared ns (s ++ (n ∷ [])) R l.1.1)

  initial_kept : (i : Option Bool) (y : State) (R : List Role) → Leads z y (initial_roles i R) → Leads z y R
  initial_kept none y R l = l
  initial_kept (some b) y R l = l.1.1

  pub declarations_kept : (ds : List Declaration) (s : List Name) (R : List Role) → Leads z (declaring s) (declarations_roles ds R)
      → Leads z (declaring (s ++ declared_names ds)) R
  declarations_kept [] s R l = rw append-nil l
  declarations_kept (declaration n ns i ∷ ds) s R l =
      let rest = declarations_roles ds R in
      let a = comma_declared ns (s ++ (n ∷ [])) (passes ∷ passes ∷ initial_roles i (passes ∷ rest)) l.1.1 in
      let b = initial_kept i (declaring (s ++ (n ∷ []) ++ ns)) (passes ∷ rest) a.1.1 in
      let c = declarations_kept ds (s ++ (n ∷ []) ++ ns) R b.1 in
      rw (← append_assoc s (n ∷ ns) (declared_names ds), ← append_assoc s (n ∷ []) ns) c

-- WHAT THE NUMBERS OF ASSIGNED SIGNALS SAY

pub has-append : (k : ℕ) (c e : List ℕ) → has k (c ++ e) ≡ (has k c || has k e)
has-append k [] e = refl
has-append k (j ∷ c) e = rw (has-append k c e) (sym (or_assoc (eqb j k) (has k c) (has k e)))

pub has-collect : (r : Actions) (k : ℕ) (c : List ℕ) → has k (collect r c) ≡ (Statements.assigns r k || has k c)
unfolding Statements.assigns
has-collect Actions.done k c = refl
has-collect (Actions.assign j f d r) k c = has-collect r k (j ∷ c) ∙ turn (Statements.assigns r k) (eqb j k) (has k c)
  where
    turn : (a b d : Bool) → (a || (b || d)) ≡ ((b || a) || d)
    turn true true d = refl
    turn true false d = refl
    turn false true d = refl
    turn false false d = refl
has-collect (Actions.branch f a b r) k c =
    rw (has-collect r k (collect b (collect a c)), has-collect b k (collect a c), has-collect a k c)
    (turn (Statements.assigns r k) (Statements.assigns b k) (Statements.assigns a k) (has k c))
  where
    turn : (x y w d : Bool) → (x || (y || (w || d))) ≡ ((w || (y || x)) || d)
    turn true true true d = refl
    turn true true false d = refl
    turn true false true d = refl
    turn true false false d = refl
    turn false true true d = refl
    turn false true false d = refl
    turn false false true d = refl
    turn false false false d = refl
has-collect (Actions.null r) k c = has-collect r k c
