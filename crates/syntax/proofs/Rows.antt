-- The grammar of document 01 as rows: each symbol takes one token and is replaced by the symbols that must follow.
-- No symbol is ever empty: what may be missing is kept together with what must follow it. Assumes nothing.
use mathlib.Core.Path.{◌≡◌, refl, ap}
use mathlib.Core.Bool.{Bool, true, false}
use mathlib.Core.Option.{Option, none, some, some-injective, none-ne-some}
use mathlib.Core.List.{List, [], ◌∷◌, ◌++◌}
use Prim.Native.Nat.{ℕ}
use Rattle.words.specs.declared.unit.TimeUnit.{TimeUnit}
use Rattle.words.specs.Token.{Name, Once, Chain, Chain-discrete, Fixed, Fixed-discrete}
use Rattle.words.specs.Token.{ENTITY, IS, END, ARCHITECTURE, OF, SIGNAL, BEGIN, BOOLEAN, PROCESS, TRANSPORT, AFTER, IF, THEN, ELSE, NULL, NOT, OPEN, CLOSE, COMMA, COLON, SEMICOLON, ARROW, BECOMES}
use Rattle.words.specs.Token.{Token, name, integer, literal, once, chain, unit, fixed, foreign}
use Rattle.syntax.specs.Tree.{Expression, expression, Tail, alone, joined, chained, More, enough, more, Factor, plain, negated, Primary, named, constant, bracketed}
use Rattle.syntax.specs.Tree.{Delay, immediate, after, Statements, done, also, assignment, conditional, null, Otherwise, missing, otherwise}
use Rattle.syntax.specs.Tree.{Declaration, declaration, Sensitivity, unlisted, listed, Process, process, Design, design}
use Rattle.syntax.specs.Tree.{expression_text, tail_text, more_text, factor_text, primary_text, delay_text, statements_text, otherwise_text, word_text, name_text, comma_text, initial_text, sensitivity_text, declarations_text, processes_text, whole_text}
use Rattle.syntax.proofs.Machine.{Values, Step, front, back}

-- KINDS OF TOKENS that a row asks for

pub data Kind : Type 0 where
  any_name any_integer any_literal any_once any_chain any_unit : Kind
  the_chain : Chain → Kind
  the_fixed : Fixed → Kind

-- what tokens of a kind differ in
abbrev pub Content : Kind → Type 0
Content any_name = Name
Content any_integer = ℕ
Content any_literal = Bool
Content any_once = Once
Content any_chain = Chain
Content any_unit = TimeUnit
Content (the_chain c) = Unit
Content (the_fixed w) = Unit

abbrev pub token_of : (c : Kind) → Content c → Token
token_of any_name a = name a
token_of any_integer a = integer a
token_of any_literal a = literal a
token_of any_once a = once a
token_of any_chain a = chain a
token_of any_unit a = unit a
token_of (the_chain c) a = chain c
token_of (the_fixed w) a = fixed w

-- a token of the kind, with its content
abbrev pub Fits : Kind → Token → Type 0
Fits c t = Option ((a : Content c) × (token_of c a ≡ t))

abbrev pub fixed-fits : (w u : Fixed) → Dec (w ≡ u) → Fits (the_fixed w) (fixed u)
fixed-fits w u (yes p) = some (tt, ap fixed p)
fixed-fits w u (no _) = none

abbrev pub fits : (c : Kind) (t : Token) → Fits c t
fits any_name (name n) = some (n, refl)
fits any_name (integer n) = none
fits any_name (literal b) = none
fits any_name (once o) = none
fits any_name (chain d) = none
fits any_name (unit u) = none
fits any_name (fixed u) = none
fits any_name foreign = none
fits any_integer (name n) = none
fits any_integer (integer n) = some (n, refl)
fits any_integer (literal b) = none
fits any_integer (once o) = none
fits any_integer (chain d) = none
fits any_integer (unit u) = none
fits any_integer (fixed u) = none
fits any_integer foreign = none
fits any_literal (name n) = none
fits any_literal (integer n) = none
fits any_literal (literal b) = some (b, refl)
fits any_literal (once o) = none
fits any_literal (chain d) = none
fits any_literal (unit u) = none
fits any_literal (fixed u) = none
fits any_literal foreign = none
fits any_once (name n) = none
fits any_once (integer n) = none
fits any_once (literal b) = none
fits any_once (once o) = some (o, refl)
fits any_once (chain d) = none
fits any_once (unit u) = none
fits any_once (fixed u) = none
fits any_once foreign = none
fits any_chain (name n) = none
fits any_chain (integer n) = none
fits any_chain (literal b) = none
fits any_chain (once o) = none
fits any_chain (chain d) = some (d, refl)
fits any_chain (unit u) = none
fits any_chain (fixed u) = none
fits any_chain foreign = none
fits any_unit (name n) = none
fits any_unit (integer n) = none
fits any_unit (literal b) = none
fits any_unit (once o) = none
fits any_unit (chain d) = none
fits any_unit (unit u) = some (u, refl)
fits any_unit (fixed u) = none
fits any_unit foreign = none
fits (the_chain c) (name n) = none
fits (the_chain c) (integer n) = none
fits (the_chain c) (literal b) = none
fits (the_chain c) (once o) = none
fits (the_chain c) (chain d) = elim (Chain-discrete c d) [ yes p ↦ some (tt, ap chain p) | no _ ↦ none ]
fits (the_chain c) (unit u) = none
fits (the_chain c) (fixed u) = none
fits (the_chain c) foreign = none
fits (the_fixed w) (name n) = none
fits (the_fixed w) (integer n) = none
fits (the_fixed w) (literal b) = none
fits (the_fixed w) (once o) = none
fits (the_fixed w) (chain d) = none
fits (the_fixed w) (unit u) = none
fits (the_fixed w) (fixed u) = fixed-fits w u (Fixed-discrete w u)
fits (the_fixed w) foreign = none

-- SYMBOLS

-- where an expression stands, and so what may follow it
pub data Place : Type 0 where
  in_brackets in_condition in_assignment : Place

-- where statements stand, and so what may close them
pub data Block : Type 0 where
  in_process in_then in_else : Block

-- which of the design's two parts ends
pub data Part : Type 0 where
  entity_part architecture_part : Part

abbrev pub part_word : Part → Fixed
part_word entity_part = ENTITY
part_word architecture_part = ARCHITECTURE

pub data Symbol : Type 0 where
  a_design a_name an_integer a_literal a_unit a_factor a_primary : Symbol
  the_word : Fixed → Symbol
  -- {signal} `begin`; {`,` name} `:` `boolean` [`:=` literal] `;`; [`:=` literal] `;`
  signals more_signals initial_value : Symbol
  -- {process} `end`; what follows the word `process`; {`,` name} `)`; [`is`] `begin`
  processes process_body more_listed beginning : Symbol
  -- [name] `;`; [`entity` or `architecture`] [name] `;`
  closing_name : Symbol
  closing : Part → Symbol
  -- {statement} and what closes them; `if` `;` behind `end`
  statements : Block → Symbol
  closing_if : Symbol
  -- an expression, what may follow its first factor, what may follow a factor of a chain, each with what must follow; only that
  an_expression a_tail : Place → Symbol
  a_more : Chain → Place → Symbol
  an_end : Place → Symbol

abbrev pub Ending : Place → Type 0
Ending in_brackets = Unit
Ending in_condition = Unit
Ending in_assignment = Delay

abbrev pub Closing : Block → Type 0
Closing in_process = Option Name
Closing in_then = Otherwise
Closing in_else = Unit

abbrev pub Value : Symbol → Type 0
Value a_design = Design
Value a_name = Name
Value an_integer = ℕ
Value a_literal = Bool
Value a_unit = TimeUnit
Value a_factor = Factor
Value a_primary = Primary
Value (the_word w) = Unit
Value signals = List Declaration
Value more_signals = List Name × Option Bool
Value initial_value = Option Bool
Value processes = List Process
Value process_body = Sensitivity × (Bool × (Statements × Option Name))
Value more_listed = List Name
Value beginning = Bool
Value closing_name = Option Name
Value (closing u) = Bool × Option Name
Value (statements b) = Statements × Closing b
Value closing_if = Unit
Value (an_expression c) = Expression × Ending c
Value (a_tail c) = Tail × Ending c
Value (a_more d c) = More × Ending c
Value (an_end c) = Ending c

abbrev pub ending_text : (c : Place) → Ending c → List Token → List Token
ending_text in_brackets a r = fixed CLOSE ∷ r
ending_text in_condition a r = fixed THEN ∷ r
ending_text in_assignment a r = delay_text a (fixed SEMICOLON ∷ r)

abbrev pub closing_text : (b : Block) → Closing b → List Token → List Token
closing_text in_process a r = fixed END ∷ fixed PROCESS ∷ name_text a (fixed SEMICOLON ∷ r)
closing_text in_then a r = otherwise_text a (fixed END ∷ fixed IF ∷ fixed SEMICOLON ∷ r)
closing_text in_else a r = fixed END ∷ fixed IF ∷ fixed SEMICOLON ∷ r

abbrev pub text : (X : Symbol) → Value X → List Token → List Token
text a_design d r = whole_text d r
text a_name n r = name n ∷ r
text an_integer n r = integer n ∷ r
text a_literal b r = literal b ∷ r
text a_unit u r = unit u ∷ r
text a_factor f r = factor_text f r
text a_primary p r = primary_text p r
text (the_word w) v r = fixed w ∷ r
text signals v r = declarations_text v (fixed BEGIN ∷ r)
text more_signals v r = comma_text v.0 (fixed COLON ∷ fixed BOOLEAN ∷ initial_text v.1 (fixed SEMICOLON ∷ r))
text initial_value i r = initial_text i (fixed SEMICOLON ∷ r)
text processes v r = processes_text v (fixed END ∷ r)
text process_body v r = sensitivity_text v.0 (word_text v.1.0 IS (fixed BEGIN ∷ statements_text v.1.1.0 (closing_text in_process v.1.1.1 r)))
text more_listed v r = comma_text v (fixed CLOSE ∷ r)
text beginning i r = word_text i IS (fixed BEGIN ∷ r)
text closing_name o r = name_text o (fixed SEMICOLON ∷ r)
text (closing u) v r = word_text v.0 (part_word u) (name_text v.1 (fixed SEMICOLON ∷ r))
text (statements b) v r = statements_text v.0 (closing_text b v.1 r)
text closing_if v r = fixed IF ∷ fixed SEMICOLON ∷ r
text (an_expression c) v r = expression_text v.0 (ending_text c v.1 r)
text (a_tail c) v r = tail_text v.0 (ending_text c v.1 r)
text (a_more d c) v r = more_text v.0 d (ending_text c v.1 r)
text (an_end c) v r = ending_text c v r

-- ROWS: the token, the symbols that take X's place, and what their values make

pub data Row (X : Symbol) : Type 0 where
  row : (c : Kind) (ys : Content c → List Symbol) → ((a : Content c) → Values Value (ys a) → Value X) → Row X

abbrev pub find : {X : Symbol} → List (Row X) → Token → Option (Step Value X)
find [] t = none
find (row c ys b ∷ rs) t = elim (fits c t) [ none ↦ find rs t | some a ↦ some record { push = ys a.0; build = b a.0 } ]

-- the rows of Y for X, where g makes X's value of Y's and of those of zs: what X may begin with is missing, and Y and zs must follow
abbrev pub followed_by : {X Y : Symbol} (zs : List Symbol) → (Value Y → Values Value zs → Value X) → List (Row Y) → List (Row X)
followed_by zs g [] = []
followed_by zs g (row c ys b ∷ rs) = row c (λ a. ys a ++ zs) (λ a ws. g (b a (front Value (ys a) zs ws)) (back Value (ys a) zs ws)) ∷ followed_by zs g rs

abbrev pub word_rows : (w : Fixed) → List (Row (the_word w))
word_rows w = row (the_fixed w) (λ _. []) (λ _ _. tt) ∷ []

abbrev pub closing_name_rows : List (Row closing_name)
closing_name_rows = row any_name (λ _. the_word SEMICOLON ∷ []) (λ n _. some n) ∷ followed_by [] (λ _ _. none) (word_rows SEMICOLON)

-- what must follow an expression
abbrev pub end_rows : (c : Place) → List (Row (an_end c))
end_rows in_brackets = followed_by [] (λ v _. v) (word_rows CLOSE)
end_rows in_condition = followed_by [] (λ v _. v) (word_rows THEN)
end_rows in_assignment = row (the_fixed AFTER) (λ _. an_integer ∷ a_unit ∷ the_word SEMICOLON ∷ []) (λ _ ws. after ws.0 ws.1.0)
    ∷ followed_by [] (λ _ _. immediate) (word_rows SEMICOLON)

-- what closes statements
abbrev pub close_rows : (b : Block) → List (Row (statements b))
close_rows in_process = row (the_fixed END) (λ _. the_word PROCESS ∷ closing_name ∷ []) (λ _ ws. (done, ws.1.0)) ∷ []
close_rows in_then = row (the_fixed ELSE) (λ _. statements in_else ∷ []) (λ _ ws. (done, otherwise ws.0.0))
    ∷ row (the_fixed END) (λ _. closing_if ∷ []) (λ _ _. (done, missing)) ∷ []
close_rows in_else = row (the_fixed END) (λ _. closing_if ∷ []) (λ _ _. (done, tt)) ∷ []

abbrev pub primary_rows : List (Row a_primary)
primary_rows = row any_name (λ _. []) (λ n _. named n)
    ∷ row any_literal (λ _. []) (λ b _. constant b)
    ∷ row (the_fixed OPEN) (λ _. an_expression in_brackets ∷ []) (λ _ ws. bracketed ws.0.0) ∷ []

abbrev pub factor_rows : List (Row a_factor)
factor_rows = row (the_fixed NOT) (λ _. a_primary ∷ []) (λ _ ws. negated ws.0) ∷ followed_by [] (λ p _. plain p) primary_rows

abbrev pub beginning_rows : List (Row beginning)
beginning_rows = row (the_fixed IS) (λ _. the_word BEGIN ∷ []) (λ _ _. true) ∷ followed_by [] (λ _ _. false) (word_rows BEGIN)

-- the process of a label and of what follows its word
abbrev pub labelled : Option Name → Value process_body → Process
labelled l v = process l v.0 v.1.0 v.1.1.0 v.1.1.1

abbrev pub rows : (X : Symbol) → List (Row X)
rows a_design = row (the_fixed ENTITY)
    (λ _. a_name ∷ the_word IS ∷ the_word END ∷ closing entity_part
    ∷ the_word ARCHITECTURE ∷ a_name ∷ the_word OF ∷ a_name ∷ the_word IS ∷ signals ∷ processes ∷ closing architecture_part ∷ [])
    (λ _ (e, (_, (_, ((w, c), (_, (a, (_, (o, (_, (ds, (ps, ((w', c'), _)))))))))))). design e w c a o ds ps w' c') ∷ []
rows a_name = row any_name (λ _. []) (λ n _. n) ∷ []
rows an_integer = row any_integer (λ _. []) (λ n _. n) ∷ []
rows a_literal = row any_literal (λ _. []) (λ b _. b) ∷ []
rows a_unit = row any_unit (λ _. []) (λ u _. u) ∷ []
rows a_factor = factor_rows
rows a_primary = primary_rows
rows (the_word w) = word_rows w
rows signals = row (the_fixed SIGNAL) (λ _. a_name ∷ more_signals ∷ signals ∷ []) (λ _ ws. declaration ws.0 ws.1.0.0 ws.1.0.1 ∷ ws.1.1.0)
    ∷ row (the_fixed BEGIN) (λ _. []) (λ _ _. []) ∷ []
rows more_signals = row (the_fixed COMMA) (λ _. a_name ∷ more_signals ∷ []) (λ _ ws. (ws.0 ∷ ws.1.0.0, ws.1.0.1))
    ∷ row (the_fixed COLON) (λ _. the_word BOOLEAN ∷ initial_value ∷ []) (λ _ ws. ([], ws.1.0)) ∷ []
rows initial_value = row (the_fixed BECOMES) (λ _. a_literal ∷ the_word SEMICOLON ∷ []) (λ _ ws. some ws.0) ∷ followed_by [] (λ _ _. none) (word_rows SEMICOLON)
rows processes = row any_name (λ _. the_word COLON ∷ the_word PROCESS ∷ process_body ∷ processes ∷ []) (λ n ws. labelled (some n) ws.1.1.0 ∷ ws.1.1.1.0)
    ∷ row (the_fixed PROCESS) (λ _. process_body ∷ processes ∷ []) (λ _ ws. labelled none ws.0 ∷ ws.1.0)
    ∷ row (the_fixed END) (λ _. []) (λ _ _. []) ∷ []
rows process_body = row (the_fixed OPEN) (λ _. a_name ∷ more_listed ∷ beginning ∷ statements in_process ∷ [])
    (λ _ ws. (listed ws.0 ws.1.0, (ws.1.1.0, ws.1.1.1.0)))
    ∷ followed_by (statements in_process ∷ []) (λ i ws. (unlisted, (i, ws.0))) beginning_rows
rows more_listed = row (the_fixed COMMA) (λ _. a_name ∷ more_listed ∷ []) (λ _ ws. ws.0 ∷ ws.1.0) ∷ row (the_fixed CLOSE) (λ _. []) (λ _ _. []) ∷ []
rows beginning = beginning_rows
rows closing_name = closing_name_rows
rows (closing u) = row (the_fixed (part_word u)) (λ _. closing_name ∷ []) (λ _ ws. (true, ws.0)) ∷ followed_by [] (λ o _. (false, o)) closing_name_rows
rows (statements b) = row any_name (λ _. the_word ARROW ∷ the_word TRANSPORT ∷ an_expression in_assignment ∷ statements b ∷ [])
    (λ n ws. (also (assignment n ws.1.1.0.0 ws.1.1.0.1) ws.1.1.1.0.0, ws.1.1.1.0.1))
    ∷ row (the_fixed IF) (λ _. an_expression in_condition ∷ statements in_then ∷ statements b ∷ [])
    (λ _ ws. (also (conditional ws.0.0 ws.1.0.0 ws.1.0.1) ws.1.1.0.0, ws.1.1.0.1))
    ∷ row (the_fixed NULL) (λ _. the_word SEMICOLON ∷ statements b ∷ []) (λ _ ws. (also null ws.1.0.0, ws.1.0.1))
    ∷ close_rows b
rows closing_if = row (the_fixed IF) (λ _. the_word SEMICOLON ∷ []) (λ _ _. tt) ∷ []
rows (an_expression c) = followed_by (a_tail c ∷ []) (λ f ws. (expression f ws.0.0, ws.0.1)) factor_rows
rows (a_tail c) = row any_once (λ _. a_factor ∷ an_end c ∷ []) (λ o ws. (joined o ws.0, ws.1.0))
    ∷ row any_chain (λ d. a_factor ∷ a_more d c ∷ []) (λ d ws. (chained d ws.0 ws.1.0.0, ws.1.0.1))
    ∷ followed_by [] (λ a _. (alone, a)) (end_rows c)
rows (a_more d c) = row (the_chain d) (λ _. a_factor ∷ a_more d c ∷ []) (λ _ ws. (more ws.0 ws.1.0.0, ws.1.0.1))
    ∷ followed_by [] (λ a _. (enough, a)) (end_rows c)
rows (an_end c) = end_rows c

-- what a symbol does with a token
abbrev pub next : (X : Symbol) → Token → Option (Step Value X)
next X t = find (rows X) t

-- LAWS: what holds of every row holds of what is found

abbrev pub Every : {X : Symbol} → (Token → Step Value X → Type 0) → List (Row X) → Type 0
Every P [] = Unit
Every P (row c ys b ∷ rs) = ((a : Content c) → P (token_of c a) record { push = ys a; build = b a }) × Every P rs

pub found : {X : Symbol} (P : Token → Step Value X → Type 0) (rs : List (Row X)) → Every P rs
    → (t : Token) (s : Step Value X) → find rs t ≡ some s → P t s
found P [] g t s e = absurd (none-ne-some _ e)
found {X} P (row c ys b ∷ rs) g t s e = go (fits c t) (λ f. found P rs g.1 t s f) e
  where
    go : (o : Fits c t) → (find rs t ≡ some s → P t s)
        → ◌≡◌ {A = Option (Step Value X)} (elim o [ none ↦ find rs t | some a ↦ some record { push = ys a.0; build = b a.0 } ]) (some s) → P t s
    go none ih e = ih e
    go (some (a, p)) ih e = rw (← (some-injective _ _ e), ← p) (g.0 a)
