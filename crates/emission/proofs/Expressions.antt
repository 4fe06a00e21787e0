-- An expression writes the code of its formula. Assumes nothing.
use Prim.Native.Nat.{◌+◌, ◌≤◌}
use native.Mathlib.Omega.{arith}
use mathlib.Core.Path.{◌≡◌, refl, sym, ◌∙◌, ap, subst}
use mathlib.Core.List.{List, [], ◌∷◌}
use Rattle.words.specs.Token.{Name, Chain}
use Rattle.syntax.specs.Tree.{Expression, Tail, More, Factor, Primary, expression, alone, joined, chained, enough, more, plain, negated, named, constant, bracketed}
use Rattle.syntax.specs.Circuit.{Operator, Formula, combined}
use Rattle.rules.specs.Formulas.{size}
use Rattle.table.specs.Instructions.{Instruction, binary}
use Rattle.table.specs.Translation.{formula_code}
use Rattle.table.proofs.Translating.{length_formula}
use Rattle.names.specs.CircuitOf.{once_operator, chain_operator, expression_formula, tail_formula, more_formula, factor_formula, primary_formula}
use Rattle.emission.specs.Inside.Draft.{Draft, put, expression_draft, tail_draft, more_draft, factor_draft, primary_draft}
use Rattle.emission.proofs.Laid.{puts, puts-names, puts_next}

-- n is m with the code of the formula a
abbrev pub Writes : Formula → Draft → Draft → Type 0
Writes a m n = (is : List Instruction) → puts (formula_code a is) m ≡ puts is n

pub same_names : (a : Formula) (m n : Draft) → Writes a m n → n.names ≡ m.names
same_names a m n w = sym (ap (λ d. d.names) (w [])) ∙ puts-names (formula_code a []) m

-- over the same names, a formula behind another and what joins them
joins : (o : Operator) (a : Formula) (b : List Name → Formula) (m n l : Draft) → Writes a m n → Writes (b n.names) n l
    → Writes (combined o a (b m.names)) m (put (binary o) l)
unfolding formula_code
joins o a b m n l w v is =
    w _ ∙ subst (λ ns. puts (formula_code (b ns) (binary o ∷ is)) n ≡ puts is (put (binary o) l)) (same_names a m n w) (v (binary o ∷ is))

mutual
  unfolding formula_code

  pub expression-writes : (e : Expression) (m : Draft) → Writes (expression_formula e m.names) m (expression_draft e m)
  expression-writes (expression f t) m = tail-writes t (factor_formula f m.names) m (factor_draft f m) (factor-writes f m)

  tail-writes : (t : Tail) (a : Formula) (m n : Draft) → Writes a m n → Writes (tail_formula t m.names a) m (tail_draft t n)
  tail-writes alone a m n w = w
  tail-writes (joined o f) a m n w = joins (once_operator o) a (factor_formula f) m n (factor_draft f n) w (factor-writes f n)
  tail-writes (chained c f k) a m n w =
      more_writes k c (combined (chain_operator c) a (factor_formula f m.names)) m (put (binary (chain_operator c)) (factor_draft f n))
      (joins (chain_operator c) a (factor_formula f) m n (factor_draft f n) w (factor-writes f n))

  more_writes : (k : More) (c : Chain) (a : Formula) (m n : Draft) → Writes a m n → Writes (more_formula k m.names c a) m (more_draft k c n)
  more_writes enough c a m n w = w
  more_writes (more f k) c a m n w =
      more_writes k c (combined (chain_operator c) a (factor_formula f m.names)) m (put (binary (chain_operator c)) (factor_draft f n))
      (joins (chain_operator c) a (factor_formula f) m n (factor_draft f n) w (factor-writes f n))

  factor-writes : (f : Factor) (m : Draft) → Writes (factor_formula f m.names) m (factor_draft f m)
  factor-writes (plain p) m = primary-writes p m
  factor-writes (negated p) m = λ is. primary-writes p m _

  primary-writes : (p : Primary) (m : Draft) → Writes (primary_formula p m.names) m (primary_draft p m)
  primary-writes (named n) m = λ is. refl
  primary-writes (constant b) m = λ is. refl
  primary-writes (bracketed e) m = expression-writes e m

-- as many instructions as the formula is large
pub expression_next : (e : Expression) (m : Draft) → m.next + size (expression_formula e m.names) ≤ 4096
    → (expression_draft e m).next ≡ m.next + size (expression_formula e m.names)
expression_next e m l =
    let a = expression_formula e m.names in
    let n = length_formula a [] in
    ap (λ d. d.next) (sym (expression-writes e m [])) ∙ puts_next (formula_code a []) m (omega arith) ∙ omega arith
