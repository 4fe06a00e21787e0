-- The grammar of document 01: the tree of a design as it is written, and the tokens of a tree.
-- What a text may leave out (`is`, a closing name, a label, `after`) is a field of the tree. Assumes nothing: these are definitions.
use Rattle.std.specs.Prelude.{ℕ, ◌≡◌, refl, Bool, true, false, List, [], ◌∷◌}
use Rattle.std.proofs.Math.Option.{Option, none, some}
use Rattle.laws.specs.Text.{bytes}
use Rattle.words.specs.declared.unit.TimeUnit.{TimeUnit}
use Rattle.words.specs.declared.unit.TimeUnit.TheVariants.{Ns}
use Rattle.words.specs.Token.{Name, Once, NAND, Chain, AND, Fixed, ENTITY, IS, END, ARCHITECTURE, OF, SIGNAL, BEGIN, BOOLEAN, PROCESS, TRANSPORT, AFTER, IF, THEN, ELSE, NULL, NOT, OPEN, CLOSE, COMMA, COLON, SEMICOLON, ARROW, BECOMES}
use Rattle.words.specs.Token.{Token, name, integer, literal, once, chain, unit, fixed}

-- TREES

-- expression: a factor; or two factors joined by one `nand` or `nor`; or two or more joined by one same word of `and`, `or`, `xor`, `xnor`
-- factor: [`not`] then a name, `true`, `false`, or `(` expression `)`
mutual
  pub data Expression : Type 0 where
    expression : Factor → Tail → Expression

  pub data Tail : Type 0 where
    alone : Tail
    joined : Once → Factor → Tail
    chained : Chain → Factor → More → Tail

  pub data More : Type 0 where
    enough : More
    more : Factor → More → More

  pub data Factor : Type 0 where
    plain : Primary → Factor
    negated : Primary → Factor

  pub data Primary : Type 0 where
    named : Name → Primary
    constant : Bool → Primary
    bracketed : Expression → Primary

-- [`after` integer unit]
pub data Delay : Type 0 where
  immediate : Delay
  after : ℕ → TimeUnit → Delay

-- statement: name `<=` `transport` expression [`after` integer unit] `;`
-- or `if` expression `then` {statement} [`else` {statement}] `end` `if` `;` or `null` `;`
mutual
  pub data Statements : Type 0 where
    done : Statements
    also : Statement → Statements → Statements

  pub data Statement : Type 0 where
    assignment : (target : Name) → Expression → Delay → Statement
    conditional : Expression → Statements → Otherwise → Statement
    null : Statement

  pub data Otherwise : Type 0 where
    missing : Otherwise
    otherwise : Statements → Otherwise

-- signal: `signal` name {`,` name} `:` `boolean` [`:=` `true` or `false`] `;`
pub data Declaration : Type 0 where
  declaration : (first : Name) (others : List Name) (initial : Option Bool) → Declaration

-- [`(` name {`,` name} `)`]
pub data Sensitivity : Type 0 where
  unlisted : Sensitivity
  listed : (first : Name) (others : List Name) → Sensitivity

-- process: [name `:`] `process` [`(` name {`,` name} `)`] [`is`] `begin` {statement} `end` `process` [name] `;`
pub data Process : Type 0 where
  process : (label : Option Name) (list : Sensitivity) (is : Bool) (body : Statements) (closing : Option Name) → Process

-- design: `entity` name `is` `end` [`entity`] [name] `;`
-- then `architecture` name `of` name `is` {signal} `begin` {process} `end` [`architecture`] [name] `;` and end of text
pub data Design : Type 0 where
  design : (entity : Name) (entity_word : Bool) (entity_closing : Option Name)
      (architecture of : Name) (declarations : List Declaration) (processes : List Process)
      (architecture_word : Bool) (architecture_closing : Option Name) → Design

-- TEXTS: the tokens of a tree, in front of the tokens r

abbrev mutual
  pub expression_text : Expression → List Token → List Token
  expression_text (expression f t) r = factor_text f (tail_text t r)

  pub tail_text : Tail → List Token → List Token
  tail_text alone r = r
  tail_text (joined o f) r = once o ∷ factor_text f r
  tail_text (chained c f m) r = chain c ∷ factor_text f (more_text m c r)

  pub more_text : More → Chain → List Token → List Token
  more_text enough c r = r
  more_text (more f m) c r = chain c ∷ factor_text f (more_text m c r)

  pub factor_text : Factor → List Token → List Token
  factor_text (plain p) r = primary_text p r
  factor_text (negated p) r = fixed NOT ∷ primary_text p r

  pub primary_text : Primary → List Token → List Token
  primary_text (named n) r = name n ∷ r
  primary_text (constant b) r = literal b ∷ r
  primary_text (bracketed e) r = fixed OPEN ∷ expression_text e (fixed CLOSE ∷ r)

abbrev pub delay_text : Delay → List Token → List Token
delay_text immediate r = r
delay_text (after n u) r = fixed AFTER ∷ integer n ∷ unit u ∷ r

abbrev mutual
  pub statements_text : Statements → List Token → List Token
  statements_text done r = r
  statements_text (also s ss) r = statement_text s (statements_text ss r)

  pub statement_text : Statement → List Token → List Token
  statement_text (assignment n e d) r = name n ∷ fixed ARROW ∷ fixed TRANSPORT ∷ expression_text e (delay_text d (fixed SEMICOLON ∷ r))
  statement_text (conditional e ss o) r =
      fixed IF ∷ expression_text e (fixed THEN ∷ statements_text ss (otherwise_text o (fixed END ∷ fixed IF ∷ fixed SEMICOLON ∷ r)))
  statement_text null r = fixed NULL ∷ fixed SEMICOLON ∷ r

  pub otherwise_text : Otherwise → List Token → List Token
  otherwise_text missing r = r
  otherwise_text (otherwise ss) r = fixed ELSE ∷ statements_text ss r

-- what may be missing
abbrev pub word_text : Bool → Fixed → List Token → List Token
word_text true w r = fixed w ∷ r
word_text false w r = r

abbrev pub name_text : Option Name → List Token → List Token
name_text none r = r
name_text (some n) r = name n ∷ r

-- {`,` name}
abbrev pub comma_text : List Name → List Token → List Token
comma_text [] r = r
comma_text (n ∷ ns) r = fixed COMMA ∷ name n ∷ comma_text ns r

abbrev pub initial_text : Option Bool → List Token → List Token
initial_text none r = r
initial_text (some b) r = fixed BECOMES ∷ literal b ∷ r

abbrev pub declaration_text : Declaration → List Token → List Token
declaration_text (declaration n ns i) r =
    fixed SIGNAL ∷ name n ∷ comma_text ns (fixed COLON ∷ fixed BOOLEAN ∷ initial_text i (fixed SEMICOLON ∷ r))

abbrev pub sensitivity_text : Sensitivity → List Token → List Token
sensitivity_text unlisted r = r
sensitivity_text (listed n ns) r = fixed OPEN ∷ name n ∷ comma_text ns (fixed CLOSE ∷ r)

abbrev pub label_text : Option Name → List Token → List Token
label_text none r = r
label_text (some n) r = name n ∷ fixed COLON ∷ r

abbrev pub process_text : Process → List Token → List Token
process_text (process l s i b c) r =
    label_text l (fixed PROCESS ∷ sensitivity_text s (word_text i IS (fixed BEGIN
    ∷ statements_text b (fixed END ∷ fixed PROCESS ∷ name_text c (fixed SEMICOLON ∷ r)))))

abbrev pub declarations_text : List Declaration → List Token → List Token
declarations_text [] r = r
declarations_text (d ∷ ds) r = declaration_text d (declarations_text ds r)

abbrev pub processes_text : List Process → List Token → List Token
processes_text [] r = r
processes_text (p ∷ ps) r = process_text p (processes_text ps r)

abbrev pub whole_text : Design → List Token → List Token
whole_text (design e w c a o ds ps w' c') r =
    fixed ENTITY ∷ name e ∷ fixed IS ∷ fixed END ∷ word_text w ENTITY (name_text c (fixed SEMICOLON
    ∷ fixed ARCHITECTURE ∷ name a ∷ fixed OF ∷ name o ∷ fixed IS ∷ declarations_text ds (fixed BEGIN ∷ processes_text ps (fixed END
    ∷ word_text w' ARCHITECTURE (name_text c' (fixed SEMICOLON ∷ r))))))

-- and end of text
abbrev pub design_text : Design → List Token
design_text d = whole_text d []

-- EXAMPLE: each part that may be missing once there and once not

-- entity e is end entity e; architecture a of e is signal q, d : boolean := true; signal s : boolean; begin
-- p : process (q, d) is begin if not q then q <= transport (q nand d) and false and q after 3 ns; else null; end if; end process p;
-- process begin d <= transport q; end process; end;
text-example : design_text (design (bytes "e") true (some (bytes "e")) (bytes "a") (bytes "e")
    (declaration (bytes "q") (bytes "d" ∷ []) (some true) ∷ declaration (bytes "s") [] none ∷ [])
    (process (some (bytes "p")) (listed (bytes "q") (bytes "d" ∷ [])) true
    (also (conditional (expression (negated (named (bytes "q"))) alone)
    (also (assignment (bytes "q")
    (expression (plain (bracketed (expression (plain (named (bytes "q"))) (joined NAND (plain (named (bytes "d")))))))
    (chained AND (plain (constant false)) (more (plain (named (bytes "q"))) enough))) (after 3 Ns)) done)
    (otherwise (also null done))) done) (some (bytes "p"))
    ∷ process none unlisted false (also (assignment (bytes "d") (expression (plain (named (bytes "q"))) alone) immediate) done) none ∷ [])
    false none)
    ≡ fixed ENTITY ∷ name (bytes "e") ∷ fixed IS ∷ fixed END ∷ fixed ENTITY ∷ name (bytes "e") ∷ fixed SEMICOLON
    ∷ fixed ARCHITECTURE ∷ name (bytes "a") ∷ fixed OF ∷ name (bytes "e") ∷ fixed IS
    ∷ fixed SIGNAL ∷ name (bytes "q") ∷ fixed COMMA ∷ name (bytes "d") ∷ fixed COLON ∷ fixed BOOLEAN ∷ fixed BECOMES ∷ literal true ∷ fixed SEMICOLON
    ∷ fixed SIGNAL ∷ name (bytes "s") ∷ fixed COLON ∷ fixed BOOLEAN ∷ fixed SEMICOLON ∷ fixed BEGIN
    ∷ name (bytes "p") ∷ fixed COLON ∷ fixed PROCESS ∷ fixed OPEN ∷ name (bytes "q") ∷ fixed COMMA ∷ name (bytes "d") ∷ fixed CLOSE ∷ fixed IS ∷ fixed BEGIN
    ∷ fixed IF ∷ fixed NOT ∷ name (bytes "q") ∷ fixed THEN
    ∷ name (bytes "q") ∷ fixed ARROW ∷ fixed TRANSPORT ∷ fixed OPEN ∷ name (bytes "q") ∷ once NAND ∷ name (bytes "d") ∷ fixed CLOSE
    ∷ chain AND ∷ literal false ∷ chain AND ∷ name (bytes "q") ∷ fixed AFTER ∷ integer 3 ∷ unit Ns ∷ fixed SEMICOLON
    ∷ fixed ELSE ∷ fixed NULL ∷ fixed SEMICOLON ∷ fixed END ∷ fixed IF ∷ fixed SEMICOLON
    ∷ fixed END ∷ fixed PROCESS ∷ name (bytes "p") ∷ fixed SEMICOLON
    ∷ fixed PROCESS ∷ fixed BEGIN ∷ name (bytes "d") ∷ fixed ARROW ∷ fixed TRANSPORT ∷ name (bytes "q") ∷ fixed SEMICOLON ∷ fixed END ∷ fixed PROCESS ∷ fixed SEMICOLON
    ∷ fixed END ∷ fixed SEMICOLON ∷ []
text-example = refl
