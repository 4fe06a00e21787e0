-- What every reader answers: from one spot of the text to another, the grammar's machine, the judge and the draft of the table go together.
-- Assumes nothing: these are definitions.
use Rattle.std.specs.Prelude.{ℕ, ◌+◌, ◌<◌, ◌≤◌, ◌≡◌, Bool, List, [], ◌∷◌, ◌++◌, length}
use Rattle.std.proofs.Math.Option.{Option}
use Rattle.words.specs.Token.{Name, Chain}
use Rattle.syntax.specs.Tree.{Expression, Tail, More, Delay, Statements, Statement, Otherwise, done, also, Sensitivity, Declaration, Process, Design}
use Rattle.syntax.specs.Sentence.{most_open}
use Rattle.syntax.proofs.Machine.{Values, Step, made, weights}
use Rattle.syntax.proofs.Rows.{Place, Block, in_process, Closing, Symbol, Value, a_name, processes, process_body, beginning, statements, an_expression as expression_at, a_tail as tail_at, a_more as more_at, an_end}
use Rattle.syntax.proofs.Nesting.{weight}
use Rattle.names.specs.Roles.{Role, expression_roles, tail_roles, more_roles, statements_roles, statement_roles, otherwise_roles, delay_roles, sensitivity_roles, process_roles, processes_roles, declarations_roles, comma_roles, word_roles, closing_roles, initial_roles as initial_value_roles, declares, listens, belongs, opens, passes}
use Rattle.look.specs.Inside.Looks.{name_at, look_of}
use Rattle.emission.specs.Inside.Draft.{Draft, expression_draft, tail_draft, more_draft, statements_draft, statement_draft, sensitivity_draft, process_draft, each_draft, with_name, with_listener, with_initial, with_process, with_end}
use Rattle.ledger.specs.Inside.Standing.{Sound}
use Rattle.reading.specs.Inside.Spots.{Reached, verdict, Judged, word_of}

-- what a reader reads: a symbol and all that it stands for; an expression, what follows its first factor and what follows a factor of a
-- chain, up to what must follow; a statement and statements; a list of signals up to what must follow; a process; a symbol whose value is
-- given; what closes statements
pub data What : Type 0 where
  whole : (X : Symbol) → (Value X → List Role → List Role) → (Value X → Draft → Draft) → What
  an_expression a_tail a_statement some_statements a_list : What
  a_more : Chain → What
  a_process : What
  given : (X : Symbol) → Value X → (List Role → List Role) → What
  closes : (b : Block) → (Closing b → List Role → List Role) → (Closing b → Draft → Draft) → What

abbrev pub Tree : What → Type 0
Tree (whole X f g) = Value X
Tree an_expression = Expression
Tree a_tail = Tail
Tree a_statement = Statement
Tree some_statements = Statements
Tree a_list = Sensitivity
Tree (a_more d) = More
Tree a_process = Process
Tree (given X v f) = Unit
Tree (closes b f g) = Closing b

-- where it stands
abbrev pub Context : What → Type 0
Context (whole X f g) = Unit
Context an_expression = Place
Context a_tail = Place
Context a_statement = Block
Context some_statements = Block
Context a_list = Unit
Context (a_more d) = Place
Context a_process = Unit
Context (given X v f) = Unit
Context (closes b f g) = Unit

abbrev pub top : (w : What) → Context w → Symbol
top (whole X f g) c = X
top an_expression c = expression_at c
top a_tail c = tail_at c
top a_statement b = statements b
top some_statements b = statements b
top a_list c = process_body
top (a_more d) c = more_at d c
top a_process c = processes
top (given X v f) c = X
top (closes b f g) c = statements b

-- statements, and others after them
abbrev pub onto : Statements → Statements → Statements
onto done r = r
onto (also s ss) r = also s (onto ss r)

-- what is left of the symbol after it
abbrev pub step : (w : What) → Tree w → (c : Context w) → Step Value (top w c)
step (whole X f g) v c = record { push = []; build = λ _. v }
step an_expression v c = record { push = an_end c ∷ []; build = λ ws. (v, ws.0) }
step a_tail v c = record { push = an_end c ∷ []; build = λ ws. (v, ws.0) }
step a_statement v b = record { push = statements b ∷ []; build = λ ws. (also v ws.0.0, ws.0.1) }
step some_statements v b = record { push = statements b ∷ []; build = λ ws. (onto v ws.0.0, ws.0.1) }
step a_list v c = record { push = beginning ∷ statements in_process ∷ []; build = λ ws. (v, (ws.0, ws.1.0)) }
step (a_more d) v c = record { push = an_end c ∷ []; build = λ ws. (v, ws.0) }
step a_process v c = record { push = processes ∷ []; build = λ ws. v ∷ ws.0 }
step (given X x f) v c = record { push = []; build = λ _. x }
step (closes b f g) v c = record { push = []; build = λ _. (done, v) }

abbrev pub roles : (w : What) → Tree w → List Role → List Role
roles (whole X f g) v r = f v r
roles an_expression v r = expression_roles v r
roles a_tail v r = tail_roles v r
roles a_statement v r = statement_roles v r
roles some_statements v r = statements_roles v r
roles a_list v r = sensitivity_roles v r
roles (a_more d) v r = more_roles v r
roles a_process v r = process_roles v r
roles (given X x f) v r = f r
roles (closes b f g) v r = f v r

abbrev pub drafts : (w : What) → Tree w → Draft → Draft
drafts (whole X f g) v m = g v m
drafts an_expression v m = expression_draft v m
drafts a_tail v m = tail_draft v m
drafts a_statement v m = statement_draft v m
drafts some_statements v m = statements_draft v m
drafts a_list v m = sensitivity_draft v m
drafts (a_more d) v m = more_draft v d m
drafts a_process v m = process_draft v m
drafts (given X x f) v m = m
drafts (closes b f g) v m = g v m

-- a part that writes nothing
abbrev pub silent : {A : Type 0} → A → Draft → Draft
silent v m = m

-- the roles of [`after` integer unit] `;` and of [`else` {statement}] `end` `if` `;`
abbrev pub ending_roles : Delay → List Role → List Role
ending_roles d r = delay_roles d (passes ∷ r)

abbrev pub finish_roles : Otherwise → List Role → List Role
finish_roles o r = otherwise_roles o (passes ∷ passes ∷ passes ∷ r)

-- of a name, of [`:=` literal] `;`, of {`,` name} `:` `boolean` [`:=` literal] `;` and of {signal} `begin`
abbrev pub declares_roles : Name → List Role → List Role
declares_roles n r = declares n ∷ r

abbrev pub initial_roles : Option Bool → List Role → List Role
initial_roles i r = initial_value_roles i (passes ∷ r)

abbrev pub more_signals_roles : List Name × Option Bool → List Role → List Role
more_signals_roles v r = comma_roles declares v.0 (passes ∷ passes ∷ initial_roles v.1 r)

abbrev pub signals_roles : List Declaration → List Role → List Role
signals_roles v r = declarations_roles v (passes ∷ r)

-- of a name in a list, of {`,` name} `)`, of [`is`] `begin`, of [name] `;`, of what follows the word `process`, and of {process} `end`
abbrev pub listens_roles : Name → List Role → List Role
listens_roles n r = listens n ∷ r

abbrev pub more_listed_roles : List Name → List Role → List Role
more_listed_roles v r = comma_roles listens v (passes ∷ r)

abbrev pub beginning_roles : Bool → List Role → List Role
beginning_roles i r = word_roles i (passes ∷ r)

abbrev pub closing_name_roles : Option Name → Option Name → List Role → List Role
closing_name_roles o c r = closing_roles o c (passes ∷ r)

abbrev pub body_roles : Option Name → Value process_body → List Role → List Role
body_roles o v r =
    sensitivity_roles v.0 (beginning_roles v.1.0 (statements_roles v.1.1.0 (passes ∷ passes ∷ closing_name_roles o v.1.1.1 r)))

abbrev pub processes_end_roles : List Process → List Role → List Role
processes_end_roles v r = processes_roles v (passes ∷ r)

-- of [`entity` or `architecture`] [name] `;`, and of the name after `of`
abbrev pub closing_part_roles : Option Name → Bool × Option Name → List Role → List Role
closing_part_roles o v r = word_roles v.0 (closing_name_roles o v.1 r)

abbrev pub belongs_roles : Name → Name → List Role → List Role
belongs_roles e n r = belongs e n ∷ r

-- WHAT THEY WRITE

-- the signals from number k on start as given
abbrev pub initial_draft : ℕ → Option Bool → Draft → Draft
initial_draft k i m = with_initial i k m

-- more signals of a declaration whose first has the number k; all declarations
abbrev pub more_signals_draft : ℕ → List Name × Option Bool → Draft → Draft
more_signals_draft k v m = with_initial v.1 k (each_draft with_name v.0 m)

-- more signals of a list; what follows the word `process`
abbrev pub more_listed_draft : List Name → Draft → Draft
more_listed_draft v m = each_draft with_listener v m

abbrev pub body_draft : Value process_body → Draft → Draft
body_draft v m = with_end (statements_draft v.1.1.0 (sensitivity_draft v.0 m))

-- WHAT A CALL NEEDS AND DOES

-- a spot that a reader may be called at, with so many labels that are not yet opened
pub record Ready (u : ℕ) (s : List ℕ) (p : Reached) (l : List ℕ) : Type 0 where
  pub inside : p.at ≤ length s
  pub sound : p.number ≡ 0 → Sound u s l

-- from p to q, over the ledger l that becomes l' and the table's words v that become v'
pub record Reads (w : What) (s : List ℕ) (room : ℕ) (p q : Reached) (l l' v v' : List ℕ) : Type 0 where
  pub tree : Tree w
  pub fine : q.number ≡ 0 → p.number ≡ 0
  pub ahead : p.at ≤ q.at
  pub inside : q.at ≤ length s
  pub moves : (c : Context w) (ss : List Symbol) (k : Values Value (top w c ∷ ss) → Design) → weights weight (top w c ∷ ss) + room ≡ most_open
      → verdict s p (top w c ∷ ss) k ≡ verdict s q ((step w tree c).push ++ ss) (λ us. k (made Value (step w tree c) ss us))
  pub judges : q.number ≡ 0 → Judged 0 0 s p q l l' v v' (roles w tree) (drafts w tree)

-- a name that nothing is said of, which is the one that stands at p
abbrev pub the_name : List ℕ → ℕ → Name
the_name s at = name_at s (look_of s at).start (look_of s at).end

pub record Named (s : List ℕ) (p q : Reached) (l v : List ℕ) : Type 0 where
  pub reads : Reads (given a_name (the_name s p.at) (λ r. passes ∷ r)) s 32 p q l l v v
  pub some : q.number ≡ 0 → (look_of s p.at).start < (look_of s p.at).end

-- the word `process`, which the judge is told of
pub record Opens (s : List ℕ) (p q : Reached) (l l' v : List ℕ) : Type 0 where
  pub worded : q ≡ word_of s p 8
  pub judged : q.number ≡ 0 → Judged 1 0 s p q l l' v v (λ r. opens ∷ r) with_process
