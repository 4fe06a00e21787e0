-- Declarations write the starting values of their signals. Assumes nothing.
use Prim.Native.Nat.{ℕ, zero, suc, ◌+◌, ◌-◌, ◌≤◌}
use native.Mathlib.Omega.{arith}
use mathlib.Core.Path.{◌≡◌, refl, sym, ◌∙◌, ap, subst}
use mathlib.Core.Bool.{Bool, true, false}
use mathlib.Core.Option.{Option, none, some}
use mathlib.Core.List.{List, [], ◌∷◌, ◌++◌, map, append_assoc, append-nil}
use lib.ListN.{length, get_or, set, length-append}
use borrow.Author.Tests.{le-ltb}
use Rattle.words.specs.Token.{Name}
use Rattle.syntax.specs.Tree.{Declaration, declaration}
use Rattle.table.specs.Instructions.{Instruction}
use Rattle.table.specs.Translation.{number, listeners_of}
use Rattle.names.specs.CircuitOf.{declared_names, starting_value, each_value, declared_values}
use Rattle.names.proofs.Sizes.{as_many_values}
use Rattle.layout.specs.TableWords.{initial_from}
use Rattle.emission.specs.Inside.Draft.{Draft, ones, with_words, with_name, with_initial, each_draft, declaration_draft, declarations_draft}
use Rattle.emission.proofs.Columns.{Filled, filled-value}
use Rattle.emission.proofs.Stages.{Stage}

none_true : (ns : List Name) (values : List Bool) (k : ℕ) → get_or (map number values) k 0 ≡ get_or (map number (values ++ each_value false ns)) k 0
none_true [] [] k = refl
none_true (n ∷ ns) [] zero = refl
none_true (n ∷ ns) [] (suc k) = none_true ns [] k
none_true ns (b ∷ values) zero = refl
none_true ns (b ∷ values) (suc k) = none_true ns values k

module _ {behind : List ℕ} {wakes : ℕ → ℕ} {ends : List ℕ} {code : List Instruction} where
  filled-true : (ns : List Name) (words : List ℕ) (values : List Bool) → Filled words behind values wakes ends code → length values + length ns ≤ 64
      → Filled (ones words (initial_from + length values) (length ns)) behind (values ++ each_value true ns) wakes ends code
  unfolding ones
  filled-true [] words values f l = rw (append-nil values) f
  filled-true (n ∷ ns) words values f l =
      let e = length-append values (true ∷ []) in
      let p : initial_from + length (values ++ (true ∷ [])) ≡ initial_from + length values + 1 = omega arith in
      let words' = set words (initial_from + length values) 1 in
      rw (← append_assoc values (true ∷ []) (each_value true ns))
      (subst (λ k. Filled (ones words' k (length ns)) behind (values ++ (true ∷ []) ++ each_value true ns) wakes ends code) p
      (filled-true ns words' (values ++ (true ∷ [])) (filled-value f true (omega arith)) (omega arith)))

  filled-false : (ns : List Name) (words : List ℕ) (values : List Bool) → Filled words behind values wakes ends code
      → Filled words behind (values ++ each_value false ns) wakes ends code
  filled-false ns words values f =
      record {
        long = f.long;
        after = f.after;
        initial = λ k l. f.initial k l ∙ none_true ns values k;
        listeners = f.listeners;
        ended = f.ended;
        operations = f.operations;
        delays = f.delays;
      }

names-words : (ns : List Name) (m : Draft) → each_draft with_name ns m ≡ record { words = m.words; next = m.next; names = m.names ++ ns; processes = m.processes }
unfolding with_name
names-words [] m = rw (append-nil m.names)
names-words (n ∷ ns) m = rw (← append_assoc m.names (n ∷ []) ns) (names-words ns (with_name n m))

-- the signals from number k on, which are those of ns, start as given
filled-initial : {behind : List ℕ} {wakes : ℕ → ℕ} {ends : List ℕ} {code : List Instruction} (i : Option Bool) (ns : List Name) (m : Draft) (values : List Bool)
    → Filled m.words behind values wakes ends code → length m.names ≡ length values + length ns → length m.names ≤ 64
    → Filled (with_initial i (length values) m).words behind (values ++ each_value (starting_value i) ns) wakes ends code
unfolding with_initial
filled-initial none ns m values f e l = filled-false ns m.words values f
filled-initial (some false) ns m values f e l = filled-false ns m.words values f
filled-initial (some true) ns m values f e l =
    let h : length values + length ns - length values ≡ length ns = omega arith in
    rw (e, le-ltb 64 (length values + length ns) (omega arith), h) (filled-true ns m.words values f (omega arith))

initial-words : (i : Option Bool) (k : ℕ) (m : Draft) → with_initial i k m ≡ with_words (with_initial i k m).words m
unfolding with_initial
initial-words none k m = refl
initial-words (some false) k m = refl
initial-words (some true) k m = refl

module _ {behind : List ℕ} where
  declaration_stage : (n : Name) (ns : List Name) (i : Option Bool) (m : Draft) (values : List Bool) (names : List Name) → Stage m behind values names [] [] []
      → length values ≡ length names → length values + length (n ∷ ns) ≤ 64
      → Stage (declaration_draft (declaration n ns i) m) behind (values ++ each_value (starting_value i) (n ∷ ns)) (names ++ (n ∷ ns)) [] [] []
  declaration_stage n ns i m values names t e l =
      let o = each_draft with_name (n ∷ ns) m in
      let w = names-words (n ∷ ns) m in
      let v = initial-words i (length m.names) o in
      let c : o.names ≡ names ++ (n ∷ ns) = ap (λ d. d.names) w ∙ ap (λ ms. ms ++ (n ∷ ns)) t.called in
      let k : length m.names ≡ length values = ap length t.called ∙ sym e in
      let z : length o.names ≡ length values + length (n ∷ ns) = omega (arith, ap length c, length-append names (n ∷ ns)) in
      let f : Filled o.words behind values (listeners_of []) [] [] = rw (ap (λ d. d.words) w) t.filled in
      record {
        filled = rw k (filled-initial i (n ∷ ns) o values f z (omega arith));
        called = ap (λ d. d.names) v ∙ c;
        opened = ap (λ d. d.processes) v ∙ ap (λ d. d.processes) w ∙ t.opened;
        closed = t.closed;
        reached = ap (λ d. d.next) v ∙ ap (λ d. d.next) w ∙ t.reached;
      }

  pub declarations_stage : (ds : List Declaration) (m : Draft) (values : List Bool) (names : List Name) → Stage m behind values names [] [] []
      → length values ≡ length names → length values + length (declared_values ds) ≤ 64
      → Stage (declarations_draft ds m) behind (values ++ declared_values ds) (names ++ declared_names ds) [] [] []
  declarations_stage [] m values names t e l = rw (append-nil values, append-nil names) t
  declarations_stage (declaration n ns i ∷ ds) m values names t e l =
      let bs = each_value (starting_value i) (n ∷ ns) in
      let a = as_many_values (starting_value i) (n ∷ ns) in
      let b = length-append bs (declared_values ds) in
      let c = length-append values bs in
      rw (← append_assoc values bs (declared_values ds), ← append_assoc names (n ∷ ns) (declared_names ds))
      (declarations_stage ds (declaration_draft (declaration n ns i) m) (values ++ bs) (names ++ (n ∷ ns))
      (declaration_stage n ns i m values names t e (omega arith)) (omega (arith, length-append names (n ∷ ns))) (omega arith))
