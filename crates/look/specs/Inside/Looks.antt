-- The token at a place of a text, with the places where it starts and ends; and which token each number stands for.
-- Assumes nothing.
use Rattle.std.specs.Prelude.{ℕ, zero, suc, ◌+◌, ◌-◌, ◌≡◌, refl, Bool, true, false, List, [], ◌∷◌, length, get_or, drop, take, Option, Some, None, Ok, Err}
use Rattle.laws.specs.Pick.{same_list}
use Rattle.laws.specs.Text.{bytes}
use Rattle.words.specs.Integer.{value_of}
use Rattle.words.specs.Vocabulary.{lower, subset, others, vocabulary, row_from, row_of}
use Rattle.words.specs.declared.unit.TimeUnit.TheVariants.{Fs, Ps, Ns, Us, Ms, Sec, Min, Hr}
use Rattle.words.specs.Token.{Name, Once, NAND, NOR, Chain, AND, OR, XOR, XNOR}
use Rattle.words.specs.Token.{ENTITY, IS, END, ARCHITECTURE, OF, SIGNAL, BEGIN, BOOLEAN, PROCESS, TRANSPORT, AFTER, IF, THEN, ELSE, NULL, NOT, OPEN, CLOSE, COMMA, COLON, SEMICOLON, ARROW, BECOMES}
use Rattle.words.specs.Token.{Token, name, integer, literal, once, chain, unit, fixed, foreign}
use Rattle.lexis.specs.Byte.{class_of}
use Rattle.lexis.specs.Blank.{skip_from}
use Rattle.lexis.specs.Run.{run_length, all_digits, singles}
use Rattle.lexis.specs.Token.{mark_of, lexeme_of, Scan, scan_of}
use Rattle.lexis.specs.declared.token.Kind.{Kind}
use Rattle.lexis.specs.declared.token.Kind.TheVariants.{Word, Integer, Open, Close, Comma, Colon, Semicolon, Arrow, Becomes}
use Rattle.look.specs.declared.Look.{Look}
use Rattle.look.specs.declared.token.Token.{Token as Seen}
use Rattle.look.specs.declared.token.Token.TheVariants as seen
use Rattle.look.specs.Inside.Tokens.{token_in_row, number_of}

-- the bytes of a text from a place up to another
abbrev pub part : List ℕ → (start end : ℕ) → List ℕ
part text start end = take (end - start) (drop start text)

-- the name that they are
unfoldable pub name_at : List ℕ → (start end : ℕ) → Name
name_at text start end = lower (part text start end)

-- of a word by its row, where it has one
abbrev pub seen_in : Option ℕ → Seen
seen_in (Some row) = token_in_row row
seen_in None = seen.Name

abbrev pub kind_of : Kind → List ℕ → Seen
kind_of Word run = seen_in (row_of run)
kind_of Integer run = seen.Integer
kind_of Open run = seen.Open
kind_of Close run = seen.Close
kind_of Comma run = seen.Comma
kind_of Colon run = seen.Colon
kind_of Semicolon run = seen.Semicolon
kind_of Arrow run = seen.Arrow
kind_of Becomes run = seen.Becomes

abbrev pub finish : List ℕ → Look
finish text = record { token = seen.Finish; start = length text; end = length text }

abbrev pub look_from : List ℕ → ℕ → Scan → Look
look_from text at (Ok (Some found)) =
    let start = at + found.start in
    let end = start + found.length in
    record { token = kind_of found.kind (part text start end); start = start; end = end }
look_from text at (Ok None) = finish text
look_from text at (Err none) = finish text

-- the token from place at on
unfoldable pub look_of : List ℕ → ℕ → Look
look_of text at = look_from text at (scan_of (drop at text))

-- THE TOKEN OF A NUMBER

abbrev pub foreigns : ℕ → List Token → List Token
foreigns zero tokens = tokens
foreigns (suc count) tokens = foreign ∷ foreigns count tokens

-- the tokens in the order of their numbers; what a name and an integer say is in the bytes of the token
abbrev pub kinds : List ℕ → List Token
kinds run =
    fixed ENTITY ∷ fixed IS ∷ fixed END ∷ fixed ARCHITECTURE ∷ fixed OF ∷ fixed SIGNAL ∷ fixed BEGIN ∷ fixed BOOLEAN ∷
    fixed PROCESS ∷ fixed TRANSPORT ∷ fixed AFTER ∷ fixed IF ∷ fixed THEN ∷ fixed ELSE ∷ fixed NULL ∷ fixed NOT ∷
    once NAND ∷ once NOR ∷ chain AND ∷ chain OR ∷ chain XOR ∷ chain XNOR ∷ literal true ∷ literal false ∷
    unit Fs ∷ unit Ps ∷ unit Ns ∷ unit Us ∷ unit Ms ∷ unit Sec ∷ unit Min ∷ unit Hr ∷
    foreigns 76 (name (lower run) ∷ integer (value_of run) ∷
    fixed OPEN ∷ fixed CLOSE ∷ fixed COMMA ∷ fixed COLON ∷ fixed SEMICOLON ∷ fixed ARROW ∷ fixed BECOMES ∷ [])

unfoldable pub token_of_kind : List ℕ → ℕ → Token
token_of_kind run kind = get_or (kinds run) kind foreign

abbrev pub kind_seen : Look → ℕ
kind_seen l = number_of l.token

abbrev pub token_of_look : List ℕ → Look → Token
token_of_look text l = token_of_kind (part text l.start l.end) (kind_seen l)

-- what a number says that is one of several: 16 and 17; 18 to 21; 22 and 23
abbrev pub once_of : ℕ → Once
once_of kind = get_or (NAND ∷ []) (kind - 16) NOR

abbrev pub chain_of : ℕ → Chain
chain_of kind = get_or (AND ∷ OR ∷ XOR ∷ []) (kind - 18) XNOR

abbrev pub literal_of : ℕ → Bool
literal_of kind = get_or (true ∷ []) (kind - 22) false

-- EXAMPLES

abbrev assigns : List ℕ
assigns = bytes "Q <= -- next\n transport"

a_name_lem : look_of assigns 0 ≡ record { token = seen.Name; start = 0; end = 1 }
unfolding class_of skip_from run_length all_digits singles mark_of lexeme_of scan_of subset others vocabulary row_from row_of same_list token_in_row look_of
a_name_lem = refl

in_lower_case : token_of_look assigns (look_of assigns 0) ≡ name (bytes "q")
unfolding class_of skip_from run_length all_digits singles mark_of lexeme_of scan_of subset others vocabulary row_from row_of same_list token_in_row look_of token_of_kind
in_lower_case = refl

a_word : look_of assigns 4 ≡ record { token = seen.Transport; start = 14; end = 23 }
unfolding class_of skip_from run_length all_digits singles mark_of lexeme_of scan_of subset others vocabulary row_from row_of same_list token_in_row look_of
a_word = refl

at_the_end : look_of assigns 23 ≡ record { token = seen.Finish; start = 23; end = 23 }
unfolding class_of skip_from run_length all_digits singles mark_of lexeme_of scan_of subset others vocabulary row_from row_of same_list token_in_row look_of
at_the_end = refl

a_chain : chain_of 20 ≡ XOR
a_chain = refl
