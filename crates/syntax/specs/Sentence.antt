-- Which lists of tokens are designs, where refusals 3 and 4 of document 01 are due, and which verdict on a list of tokens is right.
-- Assumes nothing: these are definitions.
use Rattle.std.specs.Prelude.{ℕ, suc, ◌+◌, ◌<◌, ◌≤◌, max, ◌≡◌, refl, false, ◌⊎◌, length, take}
use Rattle.std.proofs.Common.{arith, inr}
use Rattle.std.proofs.Math.Option.{none}
use mathlib.Core.List.{List, [], ◌∷◌, ◌++◌, cons≢nil}
use Rattle.laws.specs.Text.{bytes}
use Rattle.words.specs.Token.{Token}
use Rattle.syntax.specs.Tree.{Expression, expression, Tail, alone, joined, chained, More, enough, more, Factor, plain, negated, Primary, named, constant, bracketed}
use Rattle.syntax.specs.Tree.{Statements, done, also, Statement, assignment, conditional, null, Otherwise, missing, otherwise}
use Rattle.syntax.specs.Tree.{Process, process, listed, Design, design, design_text}

-- 32 open brackets and `if`s together
abbrev pub most_open : ℕ
most_open = 32

-- NESTING: how many brackets and `if`s are open at once at the deepest place; the brackets of a sensitivity list are not counted

abbrev mutual
  pub expression_nest : Expression → ℕ
  expression_nest (expression f t) = max (factor_nest f) (tail_nest t)

  pub tail_nest : Tail → ℕ
  tail_nest alone = 0
  tail_nest (joined o f) = factor_nest f
  tail_nest (chained c f m) = max (factor_nest f) (more_nest m)

  pub more_nest : More → ℕ
  more_nest enough = 0
  more_nest (more f m) = max (factor_nest f) (more_nest m)

  pub factor_nest : Factor → ℕ
  factor_nest (plain p) = primary_nest p
  factor_nest (negated p) = primary_nest p

  pub primary_nest : Primary → ℕ
  primary_nest (named n) = 0
  primary_nest (constant b) = 0
  primary_nest (bracketed e) = 1 + expression_nest e

-- an `if` is open up to its `end if`
abbrev mutual
  pub statements_nest : Statements → ℕ
  statements_nest done = 0
  statements_nest (also s ss) = max (statement_nest s) (statements_nest ss)

  pub statement_nest : Statement → ℕ
  statement_nest (assignment n e d) = expression_nest e
  statement_nest (conditional e ss o) = 1 + max (expression_nest e) (max (statements_nest ss) (otherwise_nest o))
  statement_nest null = 0

  pub otherwise_nest : Otherwise → ℕ
  otherwise_nest missing = 0
  otherwise_nest (otherwise ss) = statements_nest ss

abbrev pub process_nest : Process → ℕ
process_nest (process l s i b c) = statements_nest b

abbrev pub processes_nest : List Process → ℕ
processes_nest [] = 0
processes_nest (p ∷ ps) = max (process_nest p) (processes_nest ps)

abbrev pub nest : Design → ℕ
nest (design e w c a o ds ps w' c') = processes_nest ps

-- SENTENCES

-- a sentence of the grammar, sizes aside: the tokens of some tree
abbrev pub Sentence : List Token → Type 0
Sentence ts = (d : Design) × (design_text d ≡ ts)

-- some sentence, sizes aside, begins with p
abbrev pub Viable : List Token → Type 0
Viable p = (d : Design) × (rest : List Token) × (design_text d ≡ p ++ rest)

-- some sentence that never has more than 32 open begins with p
abbrev pub ViableWithin : List Token → Type 0
ViableWithin p = (d : Design) × (nest d ≤ most_open) × (rest : List Token) × (design_text d ≡ p ++ rest)

-- REFUSALS: token k is the first that is refused, so what stands before it can go on to a sentence within the limit

-- no sentence, sizes aside, can go on with token k; or the text ends before it, and is none
abbrev pub Stuck : List Token → ℕ → Type 0
Stuck ts k = ((k < length ts) × ¬ Viable (take (suc k) ts)) ⊎ ((k ≡ length ts) × ¬ Sentence ts)

-- 3 at token k
pub record Refused3 (ts : List Token) (k : ℕ) : Type 0 where
  pub before : ViableWithin (take k ts)
  pub here : Stuck ts k

-- 4 at token k: a sentence can go on with it, so that 3 is not due, but every such sentence has more than 32 open.
-- Said the other way, token k is the bracket or `if` that is the 33rd open, counted token by token: `thirty_third` of proofs/Counting proves that the two agree.
pub record Refused4 (ts : List Token) (k : ℕ) : Type 0 where
  pub before : ViableWithin (take k ts)
  pub viable : Viable (take (suc k) ts)
  pub here : ¬ ViableWithin (take (suc k) ts)

-- VERDICTS: what was read, or the refusal and the number of its token, counted from 0

pub data Verdict (D : Type 0) : Type 0 where
  accepted : D → Verdict D
  refused3 refused4 : (k : ℕ) → Verdict D

abbrev pub Right : List Token → Verdict Design → Type 0
Right ts (accepted d) = (design_text d ≡ ts) × (nest d ≤ most_open)
Right ts (refused3 k) = Refused3 ts k
Right ts (refused4 k) = Refused4 ts k

-- EXAMPLES

-- one process over one statement
abbrev smallest : Statement → Design
smallest s = design (bytes "e") false none (bytes "a") (bytes "e") [] (process none (listed (bytes "q") []) false (also s done) none ∷ []) false none

-- process (q) begin if (q) then if (not (q)) then null; end if; end if; end process; the list's bracket is not counted
nest-example : nest (smallest (conditional (expression (plain (bracketed (expression (plain (named (bytes "q"))) alone))) alone)
    (also (conditional (expression (plain (bracketed (expression (negated (bracketed (expression (plain (named (bytes "q"))) alone))) alone))) alone) (also null done) missing) done) missing)) ≡ 4
nest-example = refl

-- its text with one `null` is accepted, and the empty text is refused 3 at its end
accepted-example : Right (design_text (smallest null)) (accepted (smallest null))
accepted-example = (refl, omega arith)

refused-example : Right [] (refused3 0)
refused-example = record {
  before = (smallest null, omega arith, _, refl);
  here = inr (refl, λ (d, e). none-empty d e);
}
  where
    none-empty : (d : Design) → ¬ (design_text d ≡ [])
    none-empty (design e w c a o ds ps w' c') z = cons≢nil z
