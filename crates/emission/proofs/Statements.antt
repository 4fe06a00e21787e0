-- Statements write the code of their actions: tests and skips too, which are aimed when their targets are known. Assumes nothing.
use Prim.Native.Nat.{ℕ, ◌+◌, ◌≤◌, ◌<◌}
use native.Mathlib.Omega.{arith}
use mathlib.Core.Path.{◌≡◌, refl, sym, ◌∙◌, ap, subst}
use mathlib.Core.List.{List, [], ◌∷◌}
use borrow.Author.Tests.{lt-ltb, le-ltb}
use Rattle.words.specs.Token.{Name}
use Rattle.syntax.specs.Tree.{Expression, Statements, Statement, Otherwise, done, also, assignment, conditional, null, missing, otherwise}
use Rattle.syntax.specs.Circuit.{Formula, Actions}
use Rattle.rules.specs.Formulas.{size}
use Rattle.rules.specs.Sized.{instructions}
use Rattle.table.specs.Instructions.{Instruction, test, skip}
use Rattle.table.specs.Translation.{code}
use Rattle.table.proofs.Faithful.{front}
use Rattle.names.specs.Judge.{number_of}
use Rattle.names.specs.CircuitOf.{expression_formula, delay_femtoseconds, statements_actions, statement_actions, otherwise_actions}
use Rattle.layout.specs.TableWords.{operation_word}
use Rattle.emission.specs.Inside.Draft.{Draft, put, with_targets, expression_draft, statements_draft, statement_draft, otherwise_draft}
use Rattle.emission.proofs.Laid.{puts, puts-append, puts-names, next_put, anew, anew-puts, anew_other}
use Rattle.emission.proofs.Expressions.{Writes, same_names, expression-writes, expression_next}

-- n is m with the code of the actions, but for the rest of them
pub record Reaches (actions : Actions) (m : Draft) (rest : Actions) (n : Draft) : Type 0 where
  pub address : n.next + instructions rest ≡ m.next + instructions actions
  pub written : puts (code m.next actions []) m ≡ puts (code n.next rest []) n

onward : {a b c : Actions} {m n l : Draft} → Reaches a m b n → Reaches b n c l → Reaches a m c l
onward r s = record { address = s.address ∙ r.address; written = r.written ∙ s.written }

reaches_names : (a b : Actions) (m n : Draft) → Reaches a m b n → n.names ≡ m.names
reaches_names a b m n r =
    sym (puts-names (code n.next b []) n) ∙ ap (λ d. d.names) (sym r.written) ∙ puts-names (code m.next a []) m

puts-code : (a : Actions) (x : ℕ) (is : List Instruction) (m : Draft) → puts (code x a is) m ≡ puts is (puts (code x a []) m)
puts-code a x is m = ap (λ js. puts js m) (front a x [] is) ∙ puts-append (code x a []) is m

-- BRANCHES

aimed-anew : (a b c : Draft) → a.next < 4096 → b.next < 4096 → c.next ≤ 4096
    → with_targets a b c ≡ anew b.next (operation_word (skip c.next)) (anew a.next (operation_word (test (b.next + 1))) c)
unfolding with_targets
aimed-anew a b c k l h = rw (lt-ltb a.next 4096 k, lt-ltb b.next 4096 l, le-ltb 4096 (b.next + 1) (omega arith), le-ltb 4096 c.next h)

-- the instructions of the arms stand between a test and a skip with their targets
targets : (is js : List Instruction) (a b c : Draft) → b ≡ puts is (put (test 0) a) → c ≡ puts js (put (skip 0) b)
    → a.next < b.next → b.next < 4096 → c.next ≤ 4096
    → with_targets a b c ≡ puts js (put (skip c.next) (puts is (put (test (b.next + 1)) a)))
targets is js a b c p q h k l =
    let to = operation_word (test (b.next + 1)) in
    let over = operation_word (skip c.next) in
    let g = next_put (test 0) a (omega arith) in
    let b' : anew a.next to b ≡ puts is (put (test (b.next + 1)) a) =
    ap (anew a.next to) p ∙ anew-puts is a.next to (put (test 0) a) (omega arith) ∙ ap (puts is) (anew_other (test 0) (test (b.next + 1)) a (omega arith) refl) in
    aimed-anew a b c (omega arith) k l
    ∙ ap (λ d. anew b.next over (anew a.next to d)) q
    ∙ ap (anew b.next over) (anew-puts (skip 0 ∷ js) a.next to b h)
    ∙ anew-puts js b.next over (put (skip 0) (anew a.next to b)) (omega (arith, next_put (skip 0) (anew a.next to b) k))
    ∙ ap (puts js) (anew_other (skip 0) (skip c.next) (anew a.next to b) k refl)
    ∙ ap (λ d. puts js (put (skip c.next) d)) b'

branch_reaches : (f : Formula) (first second rest : Actions) (m a b c : Draft) → Writes f m a → a.next ≡ m.next + size f
    → Reaches first (put (test 0) a) Actions.done b → Reaches second (put (skip 0) b) Actions.done c
    → m.next + instructions (Actions.branch f first second rest) ≤ 4096
    → Reaches (Actions.branch f first second rest) m rest (with_targets a b c)
unfolding code instructions with_targets
branch_reaches f first second rest m a b c w n r s l =
    let y : (put (test 0) a).next ≡ m.next + (size f + 1) = omega (arith, next_put (test 0) a (omega arith)) in
    let e = r.address in
    let z : (put (skip 0) b).next ≡ m.next + (size f + 1) + (instructions first + 1) = omega (arith, next_put (skip 0) b (omega arith)) in
    let z' : b.next + 1 ≡ m.next + (size f + 1) + (instructions first + 1) = omega arith in
    let v : c.next ≡ m.next + (size f + 1) + (instructions first + 1) + instructions second = omega (arith, s.address) in
    record {
      address = omega arith;
      written =
          w _
          ∙ (λ i. puts (code (sym y i) first (skip (sym v i) ∷ code (sym z i) second (code (sym v i) rest []))) (put (test (sym z' i)) a))
          ∙ puts-code first (put (test 0) a).next _ (put (test (b.next + 1)) a)
          ∙ puts-code second (put (skip 0) b).next (code c.next rest []) _
          ∙ ap (puts (code c.next rest [])) (sym (targets (code (put (test 0) a).next first []) (code (put (skip 0) b).next second []) a b c
          (sym r.written) (sym s.written) (omega arith) (omega arith) (omega arith)));
    }

-- STATEMENTS, over the names ns

formula_writes : (e : Expression) (ns : List Name) (m : Draft) → m.names ≡ ns → Writes (expression_formula e ns) m (expression_draft e m)
formula_writes e ns m q = subst (λ ms. Writes (expression_formula e ms) m (expression_draft e m)) q (expression-writes e m)

formula_next : (e : Expression) (ns : List Name) (m : Draft) → m.names ≡ ns → m.next + size (expression_formula e ns) ≤ 4096
    → (expression_draft e m).next ≡ m.next + size (expression_formula e ns)
formula_next e ns m q =
    subst (λ ms. m.next + size (expression_formula e ms) ≤ 4096 → (expression_draft e m).next ≡ m.next + size (expression_formula e ms)) q (expression_next e m)

assign_reaches : (k delay : ℕ) (f : Formula) (rest : Actions) (m a : Draft) → Writes f m a → a.next ≡ m.next + size f
    → m.next + instructions (Actions.assign k f delay rest) ≤ 4096
    → Reaches (Actions.assign k f delay rest) m rest (put (Instruction.assignment k delay) a)
unfolding code instructions
assign_reaches k delay f rest m a w n l =
    let e = next_put (Instruction.assignment k delay) a (omega arith) in
    let y : m.next + (size f + 1) ≡ (put (Instruction.assignment k delay) a).next = omega arith in
    record { address = omega arith; written = w _ ∙ ap (λ x. puts (code x rest []) (put (Instruction.assignment k delay) a)) y }

mutual
  unfolding code instructions put

  pub statements_reach : (ss : Statements) (ns : List Name) (m : Draft) → m.names ≡ ns → m.next + instructions (statements_actions ss ns) ≤ 4096
      → Reaches (statements_actions ss ns) m Actions.done (statements_draft ss m)
  statements_reach done ns m q l = record { address = refl; written = refl }
  statements_reach (also s ss) ns m q l =
      let r = statement_reaches s ns (statements_actions ss ns) m q l in
      let e = reaches_names (statement_actions s ns (statements_actions ss ns)) (statements_actions ss ns) m (statement_draft s m) r in
      onward r (statements_reach ss ns (statement_draft s m) (e ∙ q) (omega (arith, r.address)))

  statement_reaches : (s : Statement) (ns : List Name) (rest : Actions) (m : Draft) → m.names ≡ ns → m.next + instructions (statement_actions s ns rest) ≤ 4096
      → Reaches (statement_actions s ns rest) m rest (statement_draft s m)
  statement_reaches (assignment n e d) ns rest m q l =
      let f = expression_formula e ns in
      let a = expression_draft e m in
      let w = formula_writes e ns m q in
      subst (λ ms. Reaches (Actions.assign (number_of n ns) f (delay_femtoseconds d) rest) m rest (put (Instruction.assignment (number_of n ms) (delay_femtoseconds d)) a))
      (sym q)
      (assign_reaches (number_of n ns) (delay_femtoseconds d) f rest m a w (formula_next e ns m q (omega arith)) l)
  statement_reaches (conditional e ss o) ns rest m q l =
      let f = expression_formula e ns in
      let first = statements_actions ss ns in
      let a = expression_draft e m in
      let b = statements_draft ss (put (test 0) a) in
      let c = otherwise_draft o (put (skip 0) b) in
      let w = formula_writes e ns m q in
      let n = formula_next e ns m q (omega arith) in
      let y = next_put (test 0) a (omega arith) in
      let r : Reaches first (put (test 0) a) Actions.done b = statements_reach ss ns (put (test 0) a) (same_names f m a w ∙ q) (omega arith) in
      let x = r.address in
      let z = next_put (skip 0) b (omega arith) in
      branch_reaches f first (otherwise_actions o ns) rest m a b c w n r
      (otherwise_reaches o ns (put (skip 0) b) (reaches_names first Actions.done (put (test 0) a) b r ∙ same_names f m a w ∙ q) (omega arith))
      l
  statement_reaches null ns rest m q l = record { address = refl; written = refl }

  otherwise_reaches : (o : Otherwise) (ns : List Name) (m : Draft) → m.names ≡ ns → m.next + instructions (otherwise_actions o ns) ≤ 4096
      → Reaches (otherwise_actions o ns) m Actions.done (otherwise_draft o m)
  otherwise_reaches missing ns m q l = record { address = refl; written = refl }
  otherwise_reaches (otherwise ss) ns m q l = statements_reach ss ns m q l
