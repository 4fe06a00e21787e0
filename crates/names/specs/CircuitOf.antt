-- The circuit that a design stands for, and the names that its dump shows.
-- Every name is taken for its number among the declared signals, so this is meant for designs whose names are declared. Assumes nothing: these are definitions.
use Rattle.std.specs.Prelude.{ℕ, ◌*◌, ◌≡◌, refl, Bool, true, false, List, [], ◌∷◌, ◌++◌, eqb}
use Rattle.std.proofs.Math.Option.{Option, none, some}
use Rattle.laws.specs.Pick.{pick, same_list}
use Rattle.laws.specs.Text.{bytes}
use Rattle.words.specs.declared.unit.TimeUnit.TheVariants.{Us}
use Rattle.words.specs.Token.{Name, Once, NAND, NOR, Chain, AND, OR, XOR, XNOR}
use Rattle.words.specs.Unit.{femtoseconds_of}
use Rattle.syntax.specs.Tree.{Expression, Tail, More, Factor, Primary, expression, alone, joined, chained, enough, more, plain, negated, named, constant, bracketed}
use Rattle.syntax.specs.Tree.{Delay, Statements, Statement, Otherwise, immediate, after, done, also, assignment, conditional, null, missing, otherwise}
use Rattle.syntax.specs.Tree.{Declaration, Sensitivity, Process, Design, declaration, unlisted, listed, process, design}
use Rattle.syntax.specs.Circuit.{Operator, Formula, Actions, Activity, Circuit}
use Rattle.names.specs.Judge.{number_of}

abbrev pub once_operator : Once → Operator
once_operator NAND = Operator.NAND
once_operator NOR = Operator.NOR

abbrev pub chain_operator : Chain → Operator
chain_operator AND = Operator.AND
chain_operator OR = Operator.OR
chain_operator XOR = Operator.XOR
chain_operator XNOR = Operator.XNOR

-- over the signals ns; a tail goes on from the formula a on its left
abbrev mutual
  pub expression_formula : Expression → List Name → Formula
  expression_formula (expression f t) ns = tail_formula t ns (factor_formula f ns)

  pub tail_formula : Tail → List Name → Formula → Formula
  tail_formula alone ns a = a
  tail_formula (joined o f) ns a = Formula.combined (once_operator o) a (factor_formula f ns)
  tail_formula (chained c f m) ns a = more_formula m ns c (Formula.combined (chain_operator c) a (factor_formula f ns))

  pub more_formula : More → List Name → Chain → Formula → Formula
  more_formula enough ns c a = a
  more_formula (more f m) ns c a = more_formula m ns c (Formula.combined (chain_operator c) a (factor_formula f ns))

  pub factor_formula : Factor → List Name → Formula
  factor_formula (plain p) ns = primary_formula p ns
  factor_formula (negated p) ns = Formula.negated (primary_formula p ns)

  pub primary_formula : Primary → List Name → Formula
  primary_formula (named n) ns = Formula.signal (number_of n ns)
  primary_formula (constant b) ns = Formula.constant b
  primary_formula (bracketed e) ns = expression_formula e ns

-- a missing `after` is delay 0
abbrev pub delay_femtoseconds : Delay → ℕ
delay_femtoseconds immediate = 0
delay_femtoseconds (after n u) = n * femtoseconds_of u

-- a statement, in front of the actions r
abbrev mutual
  pub statements_actions : Statements → List Name → Actions
  statements_actions done ns = Actions.done
  statements_actions (also s ss) ns = statement_actions s ns (statements_actions ss ns)

  pub statement_actions : Statement → List Name → Actions → Actions
  statement_actions (assignment n e d) ns r = Actions.assign (number_of n ns) (expression_formula e ns) (delay_femtoseconds d) r
  statement_actions (conditional e ss o) ns r = Actions.branch (expression_formula e ns) (statements_actions ss ns) (otherwise_actions o ns) r
  statement_actions null ns r = Actions.null r

  pub otherwise_actions : Otherwise → List Name → Actions
  otherwise_actions missing ns = Actions.done
  otherwise_actions (otherwise ss) ns = statements_actions ss ns

-- a repeated number counts once
abbrev pub without : ℕ → List ℕ → List ℕ
without k [] = []
without k (j ∷ js) = let others = without k js in pick (eqb j k) others (j ∷ others)

abbrev pub distinct : List ℕ → List ℕ
distinct [] = []
distinct (k ∷ ks) = k ∷ without k (distinct ks)

abbrev pub list_names : Sensitivity → List Name
list_names unlisted = []
list_names (listed n ns) = n ∷ ns

abbrev pub numbers : List Name → List Name → List ℕ
numbers ns [] = []
numbers ns (m ∷ ms) = number_of m ns ∷ numbers ns ms

abbrev pub activity_of : List Name → Process → Activity
activity_of ns (process l s i b c) = record { wakes = distinct (numbers ns (list_names s)); body = statements_actions b ns }

abbrev pub activities_of : List Name → List Process → List Activity
activities_of ns [] = []
activities_of ns (p ∷ ps) = activity_of ns p ∷ activities_of ns ps

-- the signals of the declarations, in declared order, and their starting values (`false` if not given)
abbrev pub declared_names : List Declaration → List Name
declared_names [] = []
declared_names (declaration n ns i ∷ ds) = (n ∷ ns) ++ declared_names ds

abbrev pub starting_value : Option Bool → Bool
starting_value none = false
starting_value (some b) = b

abbrev pub each_value : Bool → List Name → List Bool
each_value b [] = []
each_value b (n ∷ ns) = b ∷ each_value b ns

abbrev pub declared_values : List Declaration → List Bool
declared_values [] = []
declared_values (declaration n ns i ∷ ds) = each_value (starting_value i) (n ∷ ns) ++ declared_values ds

abbrev pub entity_name : Design → Name
entity_name (design e w c a o ds ps w' c') = e

abbrev pub signal_names : Design → List Name
signal_names (design e w c a o ds ps w' c') = declared_names ds

abbrev pub circuit_of : Design → Circuit
circuit_of (design e w c a o ds ps w' c') = record { initial = declared_values ds; processes = activities_of (declared_names ds) ps }

-- EXAMPLES, over the signals q and d

once_each : distinct (1 ∷ 0 ∷ 1 ∷ []) ≡ 1 ∷ 0 ∷ []
once_each = refl

-- q xor d xor true: from the left
from_the_left : expression_formula (expression (plain (named (bytes "q"))) (chained XOR (plain (named (bytes "d"))) (more (plain (constant true)) enough))) (bytes "q" ∷ bytes "d" ∷ [])
    ≡ Formula.combined Operator.XOR (Formula.combined Operator.XOR (Formula.signal 0) (Formula.signal 1)) (Formula.constant true)
unfolding same_list
from_the_left = refl

-- if q then d <= transport true after 2 us; end if;
one_arm : statements_actions (also (conditional (expression (plain (named (bytes "q"))) alone)
    (also (assignment (bytes "d") (expression (plain (constant true)) alone) (after 2 Us)) done) missing) done) (bytes "q" ∷ bytes "d" ∷ [])
    ≡ Actions.branch (Formula.signal 0) (Actions.assign 1 (Formula.constant true) 2_000_000_000 Actions.done) Actions.done Actions.done
unfolding same_list
one_arm = refl

-- signal q : boolean := true; signal d : boolean;
starting : declared_values (declaration (bytes "q") [] (some true) ∷ declaration (bytes "d") [] none ∷ []) ≡ true ∷ false ∷ []
starting = refl
