-- The reader of tokens on examples, each computed: case A of document 01, P5, P6, P7 and P12, and both sides of refusals 3 and 4.
-- Assumes nothing.
use mathlib.Core.Path.{◌≡◌, refl}
use mathlib.Core.Bool.{false}
use mathlib.Core.List.{List, [], ◌∷◌}
use mathlib.Core.Option.{none}
use Prim.Native.Nat.{ℕ, zero, suc}
use Prim.Native.String.{String}
use native.Mathlib.Decide.{dec_le}
use Rattle.laws.specs.Text.{bytes}
use Rattle.words.specs.declared.unit.TimeUnit.TheVariants.{Ns}
use Rattle.words.specs.Token.{NAND, AND, OR, ENTITY, IS, END, ARCHITECTURE, OF, SIGNAL, BEGIN, BOOLEAN, PROCESS, TRANSPORT, AFTER, IF, THEN, NOT, OPEN, CLOSE, COMMA, COLON, SEMICOLON, ARROW}
use Rattle.words.specs.Token.{Token, name, integer, once, chain, unit, fixed, foreign}
use Rattle.syntax.specs.Tree.{Expression, expression, alone, plain, negated, named, bracketed, Statements, done, also, assignment, conditional, missing, immediate, after}
use Rattle.syntax.specs.Tree.{Design, design, declaration, process, listed}
use Rattle.syntax.specs.Sentence.{accepted, refused3, refused4}
use Rattle.syntax.proofs.Theorem.{read}

abbrev called : String → Token
called n = name (bytes n)

-- CASE A

abbrev pub tokens_a : List Token
tokens_a = fixed ENTITY ∷ called "pair" ∷ fixed IS ∷ fixed END ∷ fixed SEMICOLON
    ∷ fixed ARCHITECTURE ∷ called "a" ∷ fixed OF ∷ called "pair" ∷ fixed IS
    ∷ fixed SIGNAL ∷ called "q" ∷ fixed COMMA ∷ called "d" ∷ fixed COLON ∷ fixed BOOLEAN ∷ fixed SEMICOLON
    ∷ fixed BEGIN
    ∷ fixed PROCESS ∷ fixed OPEN ∷ called "q" ∷ fixed CLOSE ∷ fixed BEGIN
    ∷ called "q" ∷ fixed ARROW ∷ fixed TRANSPORT ∷ fixed NOT ∷ called "q" ∷ fixed AFTER ∷ integer 3 ∷ unit Ns ∷ fixed SEMICOLON
    ∷ fixed END ∷ fixed PROCESS ∷ fixed SEMICOLON
    ∷ fixed PROCESS ∷ fixed OPEN ∷ called "q" ∷ fixed CLOSE ∷ fixed BEGIN
    ∷ called "d" ∷ fixed ARROW ∷ fixed TRANSPORT ∷ fixed NOT ∷ called "q" ∷ fixed SEMICOLON
    ∷ fixed END ∷ fixed PROCESS ∷ fixed SEMICOLON
    ∷ fixed END ∷ fixed SEMICOLON ∷ []

abbrev pub tree_a : Design
tree_a = design (bytes "pair") false none (bytes "a") (bytes "pair") (declaration (bytes "q") (bytes "d" ∷ []) none ∷ [])
    (process none (listed (bytes "q") []) false (also (assignment (bytes "q") (expression (negated (named (bytes "q"))) alone) (after 3 Ns)) done) none
    ∷ process none (listed (bytes "q") []) false (also (assignment (bytes "d") (expression (negated (named (bytes "q"))) alone) immediate) done) none ∷ [])
    false none

case_a_lem : read tokens_a ≡ accepted tree_a
unfolding read dec_le
case_a_lem = refl

-- ONE PROCESS: entity e is end; architecture a of e is begin process (q) begin .. end process; end;

-- its statements begin at token 16
abbrev statements_in : List Token → List Token
statements_in r = fixed ENTITY ∷ called "e" ∷ fixed IS ∷ fixed END ∷ fixed SEMICOLON ∷ fixed ARCHITECTURE ∷ called "a" ∷ fixed OF ∷ called "e" ∷ fixed IS
    ∷ fixed BEGIN ∷ fixed PROCESS ∷ fixed OPEN ∷ called "q" ∷ fixed CLOSE ∷ fixed BEGIN ∷ r

abbrev rest : List Token
rest = fixed END ∷ fixed PROCESS ∷ fixed SEMICOLON ∷ fixed END ∷ fixed SEMICOLON ∷ []

-- q <= transport ..; end process; end; the expression begins at token 19
abbrev valued : List Token → List Token
valued r = statements_in (called "q" ∷ fixed ARROW ∷ fixed TRANSPORT ∷ r)

abbrev design_of : Statements → Design
design_of ss = design (bytes "e") false none (bytes "a") (bytes "e") [] (process none (listed (bytes "q") []) false ss none ∷ []) false none

-- REFUSAL 3

-- a nand b nand c: at the second `nand`
P5 : read (valued (called "a" ∷ once NAND ∷ called "b" ∷ once NAND ∷ called "c" ∷ fixed SEMICOLON ∷ rest)) ≡ refused3 22
unfolding read dec_le
P5 = refl

-- a and b or c: at `or`
P6 : read (valued (called "a" ∷ chain AND ∷ called "b" ∷ chain OR ∷ called "c" ∷ fixed SEMICOLON ∷ rest)) ≡ refused3 22
unfolding read dec_le
P6 = refl

-- not not a: at the second `not`
P7 : read (valued (fixed NOT ∷ fixed NOT ∷ called "a" ∷ fixed SEMICOLON ∷ rest)) ≡ refused3 20
unfolding read dec_le
P7 = refl

-- the empty text: at its end
P12 : read [] ≡ refused3 0
unfolding read dec_le
P12 = refl

-- no statement, and neither it nor its end
least-accepted : read (statements_in rest) ≡ accepted (design_of done)
unfolding read dec_le
least-accepted = refl

cut_short : read (statements_in (fixed END ∷ fixed PROCESS ∷ fixed SEMICOLON ∷ fixed END ∷ [])) ≡ refused3 20
unfolding read dec_le
cut_short = refl

too_long_lem : read (statements_in (fixed END ∷ fixed PROCESS ∷ fixed SEMICOLON ∷ fixed END ∷ fixed SEMICOLON ∷ fixed SEMICOLON ∷ [])) ≡ refused3 21
unfolding read dec_le
too_long_lem = refl

-- a reserved word that is not of the subset
foreign-word : read (statements_in (foreign ∷ rest)) ≡ refused3 16
unfolding read dec_le
foreign-word = refl

-- REFUSAL 4

abbrev many : ℕ → Token → List Token → List Token
many zero t r = r
many (suc n) t r = t ∷ many n t r

abbrev bracketed_by : ℕ → Expression
bracketed_by zero = expression (plain (named (bytes "q"))) alone
bracketed_by (suc n) = expression (plain (bracketed (bracketed_by n))) alone

-- 32 brackets, and the list's beside them; a 33rd
brackets_32 : read (valued (many 32 (fixed OPEN) (called "q" ∷ many 32 (fixed CLOSE) (fixed SEMICOLON ∷ rest))))
    ≡ accepted (design_of (also (assignment (bytes "q") (bracketed_by 32) immediate) done))
unfolding read dec_le
brackets_32 = refl

brackets_33 : read (valued (many 33 (fixed OPEN) (called "q" ∷ many 33 (fixed CLOSE) (fixed SEMICOLON ∷ rest)))) ≡ refused4 51
unfolding read dec_le
brackets_33 = refl

-- an `if` and 31 brackets in its condition; 32
if_31 : read (statements_in (fixed IF ∷ many 31 (fixed OPEN) (called "q" ∷ many 31 (fixed CLOSE) (fixed THEN ∷ fixed END ∷ fixed IF ∷ fixed SEMICOLON ∷ rest))))
    ≡ accepted (design_of (also (conditional (bracketed_by 31) done missing) done))
unfolding read dec_le
if_31 = refl

if_32 : read (statements_in (fixed IF ∷ many 32 (fixed OPEN) (called "q" ∷ many 32 (fixed CLOSE) (fixed THEN ∷ fixed END ∷ fixed IF ∷ fixed SEMICOLON ∷ rest)))) ≡ refused4 48
unfolding read dec_le
if_32 = refl

-- 32 nested `if`s, each `if q then`, and a bracket, or a 33rd `if`, where the innermost may have statements
abbrev nested_ifs : ℕ → List Token → List Token
nested_ifs zero r = r
nested_ifs (suc n) r = fixed IF ∷ called "q" ∷ fixed THEN ∷ nested_ifs n r

ifs_33 : read (statements_in (nested_ifs 32 (fixed IF ∷ []))) ≡ refused4 112
unfolding read dec_le
ifs_33 = refl

ifs_bracket : read (statements_in (nested_ifs 32 (called "q" ∷ fixed ARROW ∷ fixed TRANSPORT ∷ fixed OPEN ∷ []))) ≡ refused4 115
unfolding read dec_le
ifs_bracket = refl

-- what is closed is open no more
ifs_closed : read (statements_in (nested_ifs 32 (fixed END ∷ fixed IF ∷ fixed SEMICOLON ∷ fixed IF ∷ []))) ≡ refused3 116
unfolding read dec_le
ifs_closed = refl

-- 3 BEFORE 4 AT ONE TOKEN: where 32 are open, an `if` that stands for a factor, and a bracket behind one, are refused 3
if_for_factor : read (valued (many 32 (fixed OPEN) (fixed IF ∷ []))) ≡ refused3 51
unfolding read dec_le
if_for_factor = refl

bracket_behind_factor : read (valued (many 32 (fixed OPEN) (called "q" ∷ fixed OPEN ∷ []))) ≡ refused3 52
unfolding read dec_le
bracket_behind_factor = refl
