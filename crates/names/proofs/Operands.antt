-- An expression with brackets d deep has at most d + 2 operands at once: 34 at 32.
-- Assumes nothing.
use Prim.Native.Nat.{◌+◌, ◌≤◌, max}
use native.Mathlib.Omega.{arith}
use mathlib.Core.List.{List}
use Rattle.words.specs.Token.{Name, Chain}
use Rattle.syntax.specs.Tree.{Expression, Tail, More, Factor, Primary, expression, alone, joined, chained, enough, more, plain, negated, named, constant, bracketed}
use Rattle.syntax.specs.Circuit.{Formula, combined}
use Rattle.syntax.specs.Sentence.{expression_nest, tail_nest, more_nest, factor_nest, primary_nest}
use Rattle.rules.specs.Sized.{operands}
use Rattle.names.specs.CircuitOf.{chain_operator, expression_formula, tail_formula, more_formula, factor_formula, primary_formula}

module _ (ns : List Name) where
  mutual
    unfolding operands

    pub expression_operands : (x : Expression) → operands (expression_formula x ns) ≤ expression_nest x + 2
    expression_operands (expression f t) = omega (arith, tail_operands t (factor_formula f ns), factor_operands f)

    tail_operands : (t : Tail) (a : Formula) → operands (tail_formula t ns a) ≤ max (operands a) (tail_nest t + 2)
    tail_operands alone a = omega arith
    tail_operands (joined o f) a = omega (arith, factor_operands f)
    tail_operands (chained c f m) a =
        omega (arith, more_operands m c (combined (chain_operator c) a (factor_formula f ns)), factor_operands f)

    more_operands : (m : More) (c : Chain) (a : Formula) → operands (more_formula m ns c a) ≤ max (operands a) (more_nest m + 2)
    more_operands enough c a = omega arith
    more_operands (more f m) c a =
        omega (arith, more_operands m c (combined (chain_operator c) a (factor_formula f ns)), factor_operands f)

    factor_operands : (f : Factor) → operands (factor_formula f ns) ≤ factor_nest f + 1
    factor_operands (plain p) = primary_operands p
    factor_operands (negated p) = primary_operands p

    primary_operands : (p : Primary) → operands (primary_formula p ns) ≤ primary_nest p + 1
    primary_operands (named n) = omega arith
    primary_operands (constant b) = omega arith
    primary_operands (bracketed x) = omega (arith, expression_operands x)
