-- A design has as many roles as tokens.
-- Assumes nothing.
use Prim.Native.Nat.{suc}
use mathlib.Core.Path.{◌≡◌, refl, ap}
use mathlib.Core.Bool.{Bool, true, false}
use mathlib.Core.Option.{Option, none, some}
use mathlib.Core.List.{List, [], ◌∷◌}
use lib.ListN.{length}
use Rattle.words.specs.Token.{Token, Name, Fixed, Chain, fixed, IS, ENTITY, ARCHITECTURE, SEMICOLON}
use Rattle.syntax.specs.Tree.{Expression, Tail, More, Factor, Primary, expression, alone, joined, chained, enough, more, plain, negated, named, constant, bracketed}
use Rattle.syntax.specs.Tree.{Delay, Statements, Statement, Otherwise, immediate, after, done, also, assignment, conditional, null, missing, otherwise}
use Rattle.syntax.specs.Tree.{Declaration, Sensitivity, Process, Design, declaration, unlisted, listed, process, design}
use Rattle.syntax.specs.Tree.{expression_text, tail_text, more_text, factor_text, primary_text, delay_text, statements_text, statement_text, otherwise_text, word_text, name_text, label_text, comma_text, initial_text, declaration_text, sensitivity_text, process_text, declarations_text, processes_text, design_text}
use Rattle.names.specs.Roles.{Role, declares, listens, passes, expression_roles, tail_roles, more_roles, factor_roles, primary_roles, delay_roles, statements_roles, statement_roles, otherwise_roles, word_roles, closing_roles, label_roles, comma_roles, initial_roles, declaration_roles, sensitivity_roles, process_roles, declarations_roles, processes_roles, design_roles}

-- as many roles as tokens
abbrev Paired : List Role → List Token → Type 0
Paired r t = length r ≡ length t

mutual
  expression_paired : (e : Expression) (r : List Role) (t : List Token) → Paired r t → Paired (expression_roles e r) (expression_text e t)
  expression_paired (expression f o) r t h = factor_paired f _ _ (tail_paired o r t h)

  tail_paired : (o : Tail) (r : List Role) (t : List Token) → Paired r t → Paired (tail_roles o r) (tail_text o t)
  tail_paired alone r t h = h
  tail_paired (joined o f) r t h = ap suc (factor_paired f r t h)
  tail_paired (chained c f m) r t h = ap suc (factor_paired f _ _ (more_paired m c r t h))

  more_paired : (m : More) (c : Chain) (r : List Role) (t : List Token) → Paired r t → Paired (more_roles m r) (more_text m c t)
  more_paired enough c r t h = h
  more_paired (more f m) c r t h = ap suc (factor_paired f _ _ (more_paired m c r t h))

  factor_paired : (f : Factor) (r : List Role) (t : List Token) → Paired r t → Paired (factor_roles f r) (factor_text f t)
  factor_paired (plain p) r t h = primary_paired p r t h
  factor_paired (negated p) r t h = ap suc (primary_paired p r t h)

  primary_paired : (p : Primary) (r : List Role) (t : List Token) → Paired r t → Paired (primary_roles p r) (primary_text p t)
  primary_paired (named n) r t h = ap suc h
  primary_paired (constant b) r t h = ap suc h
  primary_paired (bracketed e) r t h = ap suc (expression_paired e _ _ (ap suc h))

delay_paired : (d : Delay) (r : List Role) (t : List Token) → Paired r t → Paired (delay_roles d r) (delay_text d t)
delay_paired immediate r t h = h
delay_paired (after n u) r t h = ap suc (ap suc (ap suc h))

mutual
  statements_paired : (ss : Statements) (r : List Role) (t : List Token) → Paired r t → Paired (statements_roles ss r) (statements_text ss t)
  statements_paired done r t h = h
  statements_paired (also s ss) r t h = statement_paired s _ _ (statements_paired ss r t h)

  statement_paired : (s : Statement) (r : List Role) (t : List Token) → Paired r t → Paired (statement_roles s r) (statement_text s t)
  statement_paired (assignment n e d) r t h = ap suc (ap suc (ap suc (expression_paired e _ _ (delay_paired d _ _ (ap suc h)))))
  statement_paired (conditional e ss o) r t h =
      ap suc (expression_paired e _ _ (ap suc (statements_paired ss _ _ (otherwise_paired o _ _ (ap suc (ap suc (ap suc h)))))))
  statement_paired null r t h = ap suc (ap suc h)

  otherwise_paired : (o : Otherwise) (r : List Role) (t : List Token) → Paired r t → Paired (otherwise_roles o r) (otherwise_text o t)
  otherwise_paired missing r t h = h
  otherwise_paired (otherwise ss) r t h = ap suc (statements_paired ss r t h)

word_paired : (b : Bool) (w : Fixed) (r : List Role) (t : List Token) → Paired r t → Paired (word_roles b r) (word_text b w t)
word_paired true w r t h = ap suc h
word_paired false w r t h = h

closing_paired : (o c : Option Name) (r : List Role) (t : List Token) → Paired r t → Paired (closing_roles o c r) (name_text c t)
closing_paired o none r t h = h
closing_paired o (some n) r t h = ap suc h

initial_paired : (i : Option Bool) (r : List Role) (t : List Token) → Paired r t → Paired (initial_roles i r) (initial_text i t)
initial_paired none r t h = h
initial_paired (some b) r t h = ap suc (ap suc h)

label_paired : (l : Option Name) (r : List Role) (t : List Token) → Paired r t → Paired (label_roles l r) (label_text l t)
label_paired none r t h = h
label_paired (some n) r t h = ap suc (ap suc h)

comma_paired : (f : Name → Role) (ns : List Name) (r : List Role) (t : List Token) → Paired r t → Paired (comma_roles f ns r) (comma_text ns t)
comma_paired f [] r t h = h
comma_paired f (n ∷ ns) r t h = ap suc (ap suc (comma_paired f ns r t h))

declaration_paired : (d : Declaration) (r : List Role) (t : List Token) → Paired r t → Paired (declaration_roles d r) (declaration_text d t)
declaration_paired (declaration n ns i) r t h =
    ap suc (ap suc (comma_paired declares ns _ _ (ap suc (ap suc (initial_paired i _ _ (ap suc h))))))

sensitivity_paired : (s : Sensitivity) (r : List Role) (t : List Token) → Paired r t → Paired (sensitivity_roles s r) (sensitivity_text s t)
sensitivity_paired unlisted r t h = h
sensitivity_paired (listed n ns) r t h = ap suc (ap suc (comma_paired listens ns _ _ (ap suc h)))

process_paired : (p : Process) (r : List Role) (t : List Token) → Paired r t → Paired (process_roles p r) (process_text p t)
process_paired (process l s i b c) r t h =
    label_paired l _ _ (ap suc (sensitivity_paired s _ _ (word_paired i IS _ _ (ap suc
    (statements_paired b _ _ (ap suc (ap suc (closing_paired l c _ _ (ap suc h)))))))))

declarations_paired : (ds : List Declaration) (r : List Role) (t : List Token) → Paired r t → Paired (declarations_roles ds r) (declarations_text ds t)
declarations_paired [] r t h = h
declarations_paired (d ∷ ds) r t h = declaration_paired d _ _ (declarations_paired ds r t h)

processes_paired : (ps : List Process) (r : List Role) (t : List Token) → Paired r t → Paired (processes_roles ps r) (processes_text ps t)
processes_paired [] r t h = h
processes_paired (p ∷ ps) r t h = process_paired p _ _ (processes_paired ps r t h)

pub as_many : (d : Design) → length (design_roles d) ≡ length (design_text d)
as_many (design e w c a o ds ps w' c') =
    ap suc (ap suc (ap suc (ap suc (word_paired w ENTITY _ _ (closing_paired (some e) c _ _ (ap suc
    (ap suc (ap suc (ap suc (ap suc (ap suc (declarations_paired ds _ _ (ap suc (processes_paired ps _ _ (ap suc
    (word_paired w' ARCHITECTURE _ _ (closing_paired (some a) c' (passes ∷ []) (fixed SEMICOLON ∷ []) refl)))))))))))))))))
