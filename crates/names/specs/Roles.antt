-- What each token of a design is for, in text order: one role for one token, with the names and numbers that its rules compare.
-- Assumes nothing: these are definitions.
use Rattle.std.specs.Prelude.{ℕ, ◌≡◌, refl, Bool, true, false, List, [], ◌∷◌}
use Rattle.std.proofs.Math.Option.{Option, none, some}
use Rattle.laws.specs.Text.{bytes}
use Rattle.words.specs.declared.unit.TimeUnit.{TimeUnit}
use Rattle.words.specs.declared.unit.TimeUnit.TheVariants.{Ns}
use Rattle.words.specs.Token.{Name}
use Rattle.syntax.specs.Tree.{Expression, Tail, More, Factor, Primary, expression, alone, joined, chained, enough, more, plain, negated, named, constant, bracketed}
use Rattle.syntax.specs.Tree.{Delay, Statements, Statement, Otherwise, immediate, after, done, also, assignment, conditional, null, missing, otherwise}
use Rattle.syntax.specs.Tree.{Declaration, Sensitivity, Process, Design, declaration, unlisted, listed, process, design}

pub data Role : Type 0 where
  -- a name in a declaration of signals; the label of a process
  declares labels : Name → Role
  -- a name in a list, in an expression, and left of `<=`
  listens reads assigns : Name → Role
  -- the name after `of`, and the entity's own
  belongs : (entity here : Name) → Role
  -- a closing name, and the name of what it closes (a process may have none)
  closes : (opened : Option Name) (here : Name) → Role
  -- the word `process` that opens one
  opens : Role
  -- the integer of a delay, and its unit
  delays : ℕ → TimeUnit → Role
  -- a literal or an operator stands for one instruction, `if` for two
  counts : ℕ → Role
  -- any other token
  passes : Role

-- the roles of a tree's tokens, in front of the roles r

abbrev mutual
  pub expression_roles : Expression → List Role → List Role
  expression_roles (expression f t) r = factor_roles f (tail_roles t r)

  pub tail_roles : Tail → List Role → List Role
  tail_roles alone r = r
  tail_roles (joined o f) r = counts 1 ∷ factor_roles f r
  tail_roles (chained c f m) r = counts 1 ∷ factor_roles f (more_roles m r)

  pub more_roles : More → List Role → List Role
  more_roles enough r = r
  more_roles (more f m) r = counts 1 ∷ factor_roles f (more_roles m r)

  pub factor_roles : Factor → List Role → List Role
  factor_roles (plain p) r = primary_roles p r
  factor_roles (negated p) r = counts 1 ∷ primary_roles p r

  pub primary_roles : Primary → List Role → List Role
  primary_roles (named n) r = reads n ∷ r
  primary_roles (constant b) r = counts 1 ∷ r
  primary_roles (bracketed e) r = passes ∷ expression_roles e (passes ∷ r)

abbrev pub delay_roles : Delay → List Role → List Role
delay_roles immediate r = r
delay_roles (after n u) r = passes ∷ delays n u ∷ passes ∷ r

abbrev mutual
  pub statements_roles : Statements → List Role → List Role
  statements_roles done r = r
  statements_roles (also s ss) r = statement_roles s (statements_roles ss r)

  pub statement_roles : Statement → List Role → List Role
  statement_roles (assignment n e d) r = assigns n ∷ passes ∷ passes ∷ expression_roles e (delay_roles d (passes ∷ r))
  statement_roles (conditional e ss o) r =
      counts 2 ∷ expression_roles e (passes ∷ statements_roles ss (otherwise_roles o (passes ∷ passes ∷ passes ∷ r)))
  statement_roles null r = passes ∷ passes ∷ r

  pub otherwise_roles : Otherwise → List Role → List Role
  otherwise_roles missing r = r
  otherwise_roles (otherwise ss) r = passes ∷ statements_roles ss r

-- what may be missing
abbrev pub word_roles : Bool → List Role → List Role
word_roles true r = passes ∷ r
word_roles false r = r

abbrev pub closing_roles : (opened closing : Option Name) → List Role → List Role
closing_roles o none r = r
closing_roles o (some n) r = closes o n ∷ r

abbrev pub initial_roles : Option Bool → List Role → List Role
initial_roles none r = r
initial_roles (some b) r = passes ∷ passes ∷ r

abbrev pub label_roles : Option Name → List Role → List Role
label_roles none r = r
label_roles (some n) r = labels n ∷ passes ∷ r

-- {`,` name}, where a name is for f
abbrev pub comma_roles : (Name → Role) → List Name → List Role → List Role
comma_roles f [] r = r
comma_roles f (n ∷ ns) r = passes ∷ f n ∷ comma_roles f ns r

abbrev pub declaration_roles : Declaration → List Role → List Role
declaration_roles (declaration n ns i) r =
    passes ∷ declares n ∷ comma_roles declares ns (passes ∷ passes ∷ initial_roles i (passes ∷ r))

abbrev pub sensitivity_roles : Sensitivity → List Role → List Role
sensitivity_roles unlisted r = r
sensitivity_roles (listed n ns) r = passes ∷ listens n ∷ comma_roles listens ns (passes ∷ r)

abbrev pub process_roles : Process → List Role → List Role
process_roles (process l s i b c) r =
    label_roles l (opens ∷ sensitivity_roles s (word_roles i (passes
    ∷ statements_roles b (passes ∷ passes ∷ closing_roles l c (passes ∷ r)))))

abbrev pub declarations_roles : List Declaration → List Role → List Role
declarations_roles [] r = r
declarations_roles (d ∷ ds) r = declaration_roles d (declarations_roles ds r)

abbrev pub processes_roles : List Process → List Role → List Role
processes_roles [] r = r
processes_roles (p ∷ ps) r = process_roles p (processes_roles ps r)

abbrev pub design_roles : Design → List Role
design_roles (design e w c a o ds ps w' c') =
    passes ∷ passes ∷ passes ∷ passes ∷ word_roles w (closing_roles (some e) c (passes
    ∷ passes ∷ passes ∷ passes ∷ belongs e o ∷ passes ∷ declarations_roles ds (passes ∷ processes_roles ps (passes
    ∷ word_roles w' (closing_roles (some a) c' (passes ∷ []))))))

-- q <= transport not q after 3 ns;
roles-example : statement_roles (assignment (bytes "q") (expression (negated (named (bytes "q"))) alone) (after 3 Ns)) []
    ≡ assigns (bytes "q") ∷ passes ∷ passes ∷ counts 1 ∷ reads (bytes "q") ∷ passes ∷ delays 3 Ns ∷ passes ∷ passes ∷ []
roles-example = refl
