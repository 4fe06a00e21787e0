-- A draft between declarations or processes: its words are a table of those so far. Assumes nothing.
use Prim.Native.Nat.{ℕ, ◌+◌, ◌≤◌, ◌<◌}
use native.Mathlib.Omega.{arith}
use mathlib.Core.Path.{◌≡◌, refl, sym, ◌∙◌, ap, subst}
use mathlib.Core.Bool.{Bool}
use mathlib.Core.List.{List, [], ◌∷◌, ◌++◌, append_assoc, append-nil}
use lib.ListN.{length, length-append}
use borrow.Author.Tests.{lt-ltb}
use Rattle.laws.proofs.Ranges.{within-inside}
use Rattle.words.specs.Token.{Name}
use Rattle.syntax.specs.Tree.{Sensitivity, Process, unlisted, listed, process}
use Rattle.syntax.specs.Circuit.{Activity}
use Rattle.rules.specs.Sized.{instructions, total}
use Rattle.table.specs.Instructions.{Instruction}
use Rattle.table.specs.Translation
use Rattle.table.specs.Translation.{ends_from, code_from, listeners_of}
use Rattle.table.proofs.Faithful.{front}
use Rattle.table.proofs.Translating.{length-code}
use Rattle.names.specs.CircuitOf.{distinct, list_names, numbers, activity_of, activities_of}
use Rattle.emission.specs.Inside.Draft.{Draft, put, with_words, with_process, with_listener, with_end, each_draft, statements_draft, sensitivity_draft, process_draft, processes_draft}
use Rattle.emission.proofs.Laid.{puts, puts-names, puts-processes, next_put}
use Rattle.emission.proofs.Statements.{statements_reach}
use Rattle.emission.proofs.Columns.{Filled, filled_put, filled_same, filled_end}
use Rattle.emission.proofs.Listeners.{member-distinct, next_listener, filled-listeners, listeners-words}

pub record Stage (m : Draft) (behind : List ℕ) (values : List Bool) (names : List Name) (before : List Activity) (ends : List ℕ) (code : List Instruction) : Type 0 where
  pub filled : Filled m.words behind values (listeners_of before) ends code
  pub called : m.names ≡ names
  pub opened : m.processes ≡ length before
  pub closed : length ends ≡ length before
  pub reached : m.next ≡ length code

module _ {behind : List ℕ} {values : List Bool} where
  filled-puts : (is code : List Instruction) (m : Draft) {wakes : ℕ → ℕ} {ends : List ℕ} → Filled m.words behind values wakes ends code → m.next ≡ length code
      → length code + length is ≤ 4096 → Filled (puts is m).words behind values wakes ends (code ++ is)
  unfolding put
  filled-puts [] code m {wakes} {ends} f e l = rw (append-nil code) f
  filled-puts (i ∷ is) code m {wakes} {ends} f e l =
      let n = length-append code (i ∷ []) in
      let g : Filled (put i m).words behind values wakes ends (code ++ (i ∷ [])) = rw (e, lt-ltb (length code) 4096 (omega arith)) (filled_put f i (omega arith)) in
      rw (← append_assoc code (i ∷ []) is) (filled-puts is (code ++ (i ∷ [])) (put i m) g (omega (arith, next_put i m (omega arith))) (omega arith))

  -- its last process is over
  filled-ended : (m : Draft) {wakes : ℕ → ℕ} (ends : List ℕ) {code : List Instruction} → Filled m.words behind values wakes ends code → m.processes ≡ length ends + 1
      → length ends < 64 → Filled (with_end m).words behind values wakes (ends ++ (m.next ∷ [])) code
  unfolding with_end
  filled-ended m ends f e l =
      let h : 130 + (length ends + 1) ≡ 131 + length ends = omega arith in
      rw (e, within-inside 1 64 (length ends + 1) (omega arith) (omega arith), h) (filled_end f m.next l)

-- a list of signals is heard by the last process
sensitivity_words : (s : Sensitivity) (m : Draft) → sensitivity_draft s m ≡ each_draft with_listener (list_names s) m
sensitivity_words unlisted m = refl
sensitivity_words (listed n ns) m = refl

module _ {behind : List ℕ} {values : List Bool} {names : List Name} {before : List Activity} {ends : List ℕ} {is : List Instruction} where
  heard : (s : Sensitivity) (a : Activity) (m : Draft) → Stage m behind values names before ends is → length before < 64 → a.wakes ≡ distinct (numbers names (list_names s))
      → Filled (sensitivity_draft s (with_process m)).words behind values (listeners_of (before ++ (a ∷ []))) ends is
  unfolding with_process
  heard s a m t l e =
      rw (sensitivity_words s (with_process m))
      (filled_same (filled-listeners (list_names s) (with_process m) (listeners_of before) t.filled) _
      (λ k h.
      rw (t.called, t.opened, ← (member-distinct (numbers names (list_names s)) k), ← e)
      (sym (next_listener before a k l))))

  process_stage : (p : Process) (m : Draft) → Stage m behind values names before ends is → length before < 64
      → m.next + instructions (activity_of names p).body ≤ 4096
      → Stage (process_draft p m) behind values names (before ++ (activity_of names p ∷ []))
      (ends ++ ((m.next + instructions (activity_of names p).body) ∷ [])) (is ++ Translation.code m.next (activity_of names p).body [])
  unfolding with_process with_end Translation.code instructions
  process_stage (process l s i b c) m t few small =
      let a = activity_of names (process l s i b c) in
      let h = sensitivity_draft s (with_process m) in
      let n = statements_draft b h in
      let js = Translation.code m.next a.body [] in
      let e : h ≡ with_words h.words (with_process m) = rw (sensitivity_words s (with_process m)) (listeners-words (list_names s) (with_process m)) in
      let x : h.next ≡ m.next = ap (λ d. d.next) e in
      let r = statements_reach b names h (ap (λ d. d.names) e ∙ t.called) (omega arith) in
      let w : puts js h ≡ n = ap (λ y. puts (Translation.code y a.body []) h) (sym x) ∙ r.written in
      let z : n.next ≡ m.next + instructions a.body = omega (arith, r.address) in
      let o : n.processes ≡ length before + 1 = ap (λ d. d.processes) (sym w) ∙ puts-processes js h ∙ ap (λ d. d.processes) e ∙ ap (λ k. k + 1) t.opened in
      let size = length-code a.body m.next [] in
      let f = filled-puts js is h (heard s a m t few refl) (x ∙ t.reached) (omega (arith, t.reached)) in
      record {
        filled = rw (← z) (filled-ended n ends (subst (λ d. Filled d.words behind values (listeners_of (before ++ (a ∷ []))) ends (is ++ js)) w f) (omega (arith, o, t.closed)) (omega (arith, t.closed)));
        called = ap (λ d. d.names) (sym w) ∙ puts-names js h ∙ ap (λ d. d.names) e ∙ t.called;
        opened = o ∙ sym (length-append before (a ∷ []));
        closed = omega (arith, t.closed, length-append ends ((m.next + instructions a.body) ∷ []), length-append before (a ∷ []));
        reached = omega (arith, z, t.reached, length-append is js);
      }

module _ {behind : List ℕ} {values : List Bool} {names : List Name} where
  pub processes_stage : (ps : List Process) (m : Draft) (before : List Activity) (ends : List ℕ) (is : List Instruction) → Stage m behind values names before ends is
      → length before + length (activities_of names ps) ≤ 64 → m.next + total (activities_of names ps) ≤ 4096
      → Stage (processes_draft ps m) behind values names (before ++ activities_of names ps)
      (ends ++ ends_from m.next (activities_of names ps)) (is ++ code_from m.next (activities_of names ps))
  unfolding total ends_from code_from
  processes_stage [] m before ends is t few small = rw (append-nil before, append-nil ends, append-nil is) t
  processes_stage (p ∷ ps) m before ends is t few small =
      let a = activity_of names p in
      let rest = activities_of names ps in
      let y = m.next + instructions a.body in
      let js = Translation.code m.next a.body [] in
      let u = process_stage p m t (omega arith) (omega arith) in
      let e : (process_draft p m).next ≡ y = omega (arith, u.reached, t.reached, length-append is js, length-code a.body m.next []) in
      let v = processes_stage ps (process_draft p m) (before ++ (a ∷ [])) (ends ++ (y ∷ [])) (is ++ js) u
      (omega (arith, length-append before (a ∷ []))) (omega arith) in
      rw (front a.body m.next [] (code_from y rest), ← append_assoc is js (code_from y rest), ← append_assoc before (a ∷ []) rest, ← append_assoc ends (y ∷ []) (ends_from y rest)) (rw e at v)
