-- An accepted design keeps the sizes of document 01, and the fold counts the instructions of its circuit.
-- Assumes nothing.
use Prim.Native.Nat.{ℕ, zero, suc, ◌+◌, ◌≤◌, ◌<◌}
use native.Mathlib.Omega.{arith}
use mathlib.Core.Path.{◌≡◌, refl, sym, ap, ◌∙◌}
use mathlib.Core.Bool.{Bool, true, false, ◌||◌, or-true}
use mathlib.Core.Option.{Option, some}
use mathlib.Core.List.{List, [], ◌∷◌, ◌++◌}
use lib.Dec.{eqb}
use lib.ListN.{length, get_or, length-append}
use borrow.Author.Tests.{ltb-false, eqb-true}
use Rattle.words.specs.Token.{Name}
use Rattle.syntax.specs.Tree.{Declaration, Process, Design, declaration, design}
use Rattle.syntax.specs.Circuit.{Actions, Activity}
use Rattle.syntax.specs.Sentence.{nest, most_open}
use Rattle.rules.specs.Sizes.{most_signals, most_processes, most_instructions}
use Rattle.rules.specs.Statements
use Rattle.rules.specs.Sized.{total, Keeps, Listed, idle, Sized}
use Rattle.names.specs.Roles.{Role, declares, labels, listens, reads, assigns, belongs, closes, opens, delays, counts, passes, design_roles, declarations_roles, processes_roles, word_roles, closing_roles}
use Rattle.names.specs.Judge.{State, has, faults, next, nothing_yet, Faultless}
use Rattle.names.specs.CircuitOf.{activities_of, declared_names, declared_values, each_value, starting_value, circuit_of, signal_names}
use Rattle.names.proofs.Verdict.{Clear, Fine, after_all, none-fine, differ}
use Rattle.names.proofs.Kept.{Leads, Free, collect, AllKeep, ApartFrom, processes_kept, declarations_kept, word_kept, closing_kept, has-append, has-collect}

-- APART

-- one of two tests
data Either (a b : Bool) : Type 0 where
  left : a ≡ true → Either a b
  right : b ≡ true → Either a b

either : (a b : Bool) → (a || b) ≡ true → Either a b
either true b e = left refl
either false b e = right e

free_not : (r : Actions) (e : List ℕ) (k : ℕ) → Free e r → Statements.assigns r k ≡ true → has k e ≡ false
unfolding Statements.assigns
free_not Actions.done e k f h = absurd (differ h refl)
free_not (Actions.assign j x d r) e k f h = go (either (eqb j k) (Statements.assigns r k) h) (free_not r e k f.1)
  where
    go : Either (eqb j k) (Statements.assigns r k) → (Statements.assigns r k ≡ true → has k e ≡ false) → has k e ≡ false
    go (left p) g = rw (eqb-true j k p) at f.0
    go (right p) g = g p
free_not (Actions.branch x a b r) e k f h =
    go (either (Statements.assigns a k) (Statements.assigns b k || Statements.assigns r k) h) (free_not a e k f.0) (free_not b e k f.1) (free_not r e k f.2)
  where
    then' : Either (Statements.assigns b k) (Statements.assigns r k) → (Statements.assigns b k ≡ true → has k e ≡ false)
        → (Statements.assigns r k ≡ true → has k e ≡ false) → has k e ≡ false
    then' (left p) g i = g p
    then' (right p) g i = i p

    go : Either (Statements.assigns a k) (Statements.assigns b k || Statements.assigns r k) → (Statements.assigns a k ≡ true → has k e ≡ false)
        → (Statements.assigns b k ≡ true → has k e ≡ false) → (Statements.assigns r k ≡ true → has k e ≡ false) → has k e ≡ false
    go (left p) f g i = f p
    go (right p) f g i = then' (either (Statements.assigns b k) (Statements.assigns r k) p) g i
free_not (Actions.null r) e k f h = free_not r e k f h

has-before : (p : Activity) (e : List ℕ) (k : ℕ) → Statements.assigns p.body k ≡ true → has k (collect p.body [] ++ e) ≡ true
has-before p e k h = rw (has-append k (collect p.body []) e, has-collect p.body k [], h)

-- no process assigns a signal in e
apart-later : (ps : List Activity) (e : List ℕ) (q k : ℕ) → ApartFrom e ps → has k e ≡ true → q < length ps
    → ¬ (Statements.assigns (get_or ps q idle).body k ≡ true)
apart-later [] e q k a h l g = omega arith
apart-later (p ∷ ps) e zero k a h l g = differ h (free_not p.body e k a.0 g)
apart-later (p ∷ ps) e (suc q) k a h l g =
    apart-later ps (collect p.body [] ++ e) q k a.1
    (rw (has-append k (collect p.body []) e, h) (or-true (has k (collect p.body [])))) (omega arith) g

alone : (ps : List Activity) (e : List ℕ) → ApartFrom e ps → (p q k : ℕ) → p < length ps → q < length ps
    → Statements.assigns (get_or ps p idle).body k ≡ true → Statements.assigns (get_or ps q idle).body k ≡ true → p ≡ q
alone [] e a p q k l m g h = absurd (omega arith)
alone (x ∷ ps) e a zero zero k l m g h = refl
alone (x ∷ ps) e a zero (suc q) k l m g h =
    absurd (apart-later ps (collect x.body [] ++ e) q k a.1 (has-before x e k g) (omega arith) h)
alone (x ∷ ps) e a (suc p) zero k l m g h =
    absurd (apart-later ps (collect x.body [] ++ e) p k a.1 (has-before x e k h) (omega arith) g)
alone (x ∷ ps) e a (suc p) (suc q) k l m g h =
    ap suc (alone ps (collect x.body [] ++ e) a.1 p q k (omega arith) (omega arith) g h)

listed_at : (n : ℕ) (ps : List Activity) → AllKeep n ps → (p : ℕ) → p < length ps → Listed n (get_or ps p idle).wakes
listed_at n [] a p l = absurd (omega arith)
listed_at n (x ∷ ps) a zero l = a.0
listed_at n (x ∷ ps) a (suc p) l = listed_at n ps a.2 p (omega arith)

keeps_at : (n : ℕ) (ps : List Activity) → AllKeep n ps → (p : ℕ) → p < length ps → Keeps n (get_or ps p idle).body
keeps_at n [] a p l = absurd (omega arith)
keeps_at n (x ∷ ps) a zero l = a.1
keeps_at n (x ∷ ps) a (suc p) l = keeps_at n ps a.2 p (omega arith)

-- COUNTS

record Bounded (y : State) : Type 0 where
  signals : length y.signal_names ≤ most_signals
  processes : y.processes ≤ most_processes
  instructions : y.instructions ≤ most_instructions

bounded_next : (r : Role) (y : State) → Clear (faults y r) → Bounded y → Bounded (next y r)
bounded_next (declares n) y c b =
    record { signals = rw (length-append y.signal_names (n ∷ [])) (ltb-false _ _ c.1.0); processes = b.processes; instructions = b.instructions }
bounded_next (labels n) y c b = record { signals = b.signals; processes = b.processes; instructions = b.instructions }
bounded_next (listens n) y c b = b
bounded_next (reads n) y c b = record { signals = b.signals; processes = b.processes; instructions = ltb-false _ _ c.1.0 }
bounded_next (assigns n) y c b = record { signals = b.signals; processes = b.processes; instructions = ltb-false _ _ c.1.1.0 }
bounded_next (belongs e n) y c b = b
bounded_next (closes o n) y c b = b
bounded_next opens y c b = record { signals = b.signals; processes = ltb-false _ _ c.0; instructions = b.instructions }
bounded_next (delays n u) y c b = b
bounded_next (counts k) y c b = record { signals = b.signals; processes = b.processes; instructions = ltb-false _ _ c.0 }
bounded_next passes y c b = b

bounded : (rs : List Role) (y : State) → Fine y rs → Bounded y → Bounded (after_all y rs)
bounded [] y f b = b
bounded (r ∷ rs) y f b = bounded rs (next y r) f.1 (bounded_next r y f.0 b)

-- THE WHOLE DESIGN

fine-leads : (rs : List Role) (y : State) → Fine y rs → Leads (after_all y rs) y rs
fine-leads [] y f = refl
fine-leads (r ∷ rs) y f = (f.0, fine-leads rs (next y r) f.1)

-- what the state at the end of the tokens says of the circuit, and what the circuit keeps
pub record Judged (d : Design) (z : State) : Type 0 where
  pub names : z.signal_names ≡ signal_names d
  pub opened : z.processes ≡ length (circuit_of d).processes
  pub counted : z.instructions ≡ total (circuit_of d).processes
  pub parts : AllKeep (length (signal_names d)) (circuit_of d).processes
  pub apart : ApartFrom [] (circuit_of d).processes

as_many_activities : (ns : List Name) (ps : List Process) → length (activities_of ns ps) ≡ length ps
as_many_activities ns [] = refl
as_many_activities ns (p ∷ ps) = ap suc (as_many_activities ns ps)

ended : (z y : State) (w : Bool) (o c : Option Name) → Leads z y (passes ∷ word_roles w (closing_roles o c (passes ∷ []))) → y ≡ z
ended z y w o c l = (closing_kept z [] o c y (passes ∷ []) (word_kept z [] w y (closing_roles o c (passes ∷ [])) l.1)).1

leads-judged : (d : Design) (z : State) → nest d ≤ most_open → Leads z nothing_yet (design_roles d) → Judged d z
leads-judged (design e w c a o ds ps w' c') z n l =
    let ns = declared_names ds in
    let last = passes ∷ word_roles w' (closing_roles (some a) c' (passes ∷ [])) in
    let main = passes ∷ processes_roles ps last in
    let head = passes ∷ passes ∷ passes ∷ passes ∷ belongs e o ∷ passes ∷ declarations_roles ds main in
    let l₁ = word_kept z [] w nothing_yet (closing_roles (some e) c head) l.1.1.1.1 in
    let l₂ = closing_kept z [] (some e) c nothing_yet head l₁ in
    let l₃ = declarations_kept z ds [] main l₂.1.1.1.1.1.1 in
    let k = processes_kept z ns ps [] 0 (length ps) [] [] 0 (total (activities_of ns ps)) last n (omega arith) (omega arith) l₃.1 in
    let q = ended z k.2.state w' (some a) c' k.2.leads in
    record {
      names = rw (← q) k.2.names;
      opened = rw (← q, as_many_activities ns ps) k.2.opened;
      counted = rw (← q) k.2.counted;
      parts = k.0;
      apart = k.1;
    }

pub faultless-judged : (d : Design) → Faultless d → nest d ≤ most_open → Judged d (after_all nothing_yet (design_roles d))
faultless-judged d f n = leads-judged d (after_all nothing_yet (design_roles d)) n (fine-leads (design_roles d) nothing_yet (none-fine (design_roles d) nothing_yet f))

-- the fold counts the instructions of the circuit
pub counts-instructions : (d : Design) → Faultless d → nest d ≤ most_open → (after_all nothing_yet (design_roles d)).instructions ≡ total (circuit_of d).processes
counts-instructions d f n = (faultless-judged d f n).counted

-- a signal has a name and a starting value
pub as_many_values : (b : Bool) (ns : List Name) → length (each_value b ns) ≡ length ns
as_many_values b [] = refl
as_many_values b (n ∷ ns) = ap suc (as_many_values b ns)

as_many_declared : (ds : List Declaration) → length (declared_values ds) ≡ length (declared_names ds)
as_many_declared [] = refl
as_many_declared (declaration n ns i ∷ ds) =
    ap suc
    (length-append (each_value (starting_value i) ns) (declared_values ds)
    ∙ sums (as_many_values (starting_value i) ns) (as_many_declared ds)
    ∙ sym (length-append ns (declared_names ds)))
  where
    sums : {a b c d : ℕ} → a ≡ b → c ≡ d → a + c ≡ b + d
    sums p q = omega arith

pub as_many_signals : (d : Design) → length (circuit_of d).initial ≡ length (signal_names d)
as_many_signals (design e w c a o ds ps w' c') = as_many_declared ds

-- the circuit of an accepted design keeps the sizes
pub sized : (d : Design) → Faultless d → nest d ≤ most_open → Sized (circuit_of d)
sized d f n =
    let j = faultless-judged d f n in
    let b = bounded (design_roles d) nothing_yet (none-fine (design_roles d) nothing_yet f) (record { signals = omega arith; processes = omega arith; instructions = omega arith }) in
    let parts = rw (← (as_many_signals d)) at j.parts in
    record {
      few_signals = rw (as_many_signals d, ← j.names) b.signals;
      few_processes = rw (← j.opened) b.processes;
      few_instructions = rw (← j.counted) b.instructions;
      listed = listed_at (length (circuit_of d).initial) (circuit_of d).processes parts;
      keeps = keeps_at (length (circuit_of d).initial) (circuit_of d).processes parts;
      alone = alone (circuit_of d).processes [] j.apart;
    }
