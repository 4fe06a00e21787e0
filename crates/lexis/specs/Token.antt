-- The first token of a text, the first place that the lexical rules refuse, and all tokens of a text with their places.
-- Assumes nothing: these are definitions.
use Rattle.std.specs.Prelude.{ℕ, zero, suc, ◌+◌, ◌<◌, ◌≤◌, false, List, [], ◌∷◌, eqb, get_or, length, take, drop, Option, Some, None, Result, Ok, Err}
use Rattle.laws.specs.Pick.{pick}
use Rattle.words.specs.Integer.{value_of}
use Rattle.words.specs.Vocabulary.{word_token}
use Rattle.words.specs.Token.{Token, integer, fixed, OPEN, CLOSE, COMMA, COLON, SEMICOLON, ARROW, BECOMES}
use Rattle.lexis.specs.Byte.{class_of, by_class}
use Rattle.lexis.specs.Blank.{none_at, skip_from}
use Rattle.lexis.specs.Run.{run_length, shape_of}
use Rattle.lexis.specs.declared.NoToken.{NoToken}
use Rattle.lexis.specs.declared.token.Kind.{Kind}
use Rattle.lexis.specs.declared.token.Kind.TheVariants.{Word, Integer, Open, Close, Comma, Colon, Semicolon, Arrow, Becomes}
use Rattle.lexis.specs.declared.token.Lexeme.{Lexeme}
use Rattle.lexis.specs.declared.token.Token.{Token as Scanned}

abbrev pub lexeme : Kind → ℕ → Option Lexeme
lexeme kind length = Some (record { kind = kind; length = length })

-- marks: ( ) , ; := : <=
unfoldable pub mark_of : (first second : ℕ) → Option Lexeme
mark_of first second =
    pick (eqb first 40) (lexeme Open 1)
    (pick (eqb first 41) (lexeme Close 1)
    (pick (eqb first 44) (lexeme Comma 1)
    (pick (eqb first 59) (lexeme Semicolon 1)
    (pick (eqb first 58) (pick (eqb second 61) (lexeme Becomes 2) (lexeme Colon 1))
    (pick (eqb first 60) (pick (eqb second 61) (lexeme Arrow 2) None)
    None)))))

abbrev pub run_token : Option Kind → ℕ → Option Lexeme
run_token (Some kind) length = lexeme kind length
run_token None length = None

abbrev pub or_refused : Option Lexeme → Result (Option Lexeme) NoToken
or_refused (Some found) = Ok (Some found)
or_refused None = Err (none_at 0)

-- the token at the start of a text that is not empty
abbrev pub start_of : List ℕ → Option Lexeme
start_of text =
    let run = run_token (shape_of (take (run_length 0 text) text)) (run_length 0 text) in
    let mark = mark_of (get_or text 0 0) (get_or text 1 0) in
    by_class (class_of (get_or text 0 0)) run run run None None mark None None

-- what stands at the start of a text that no blank and no comment starts; nothing where the text is empty
unfoldable pub lexeme_of : List ℕ → Result (Option Lexeme) NoToken
lexeme_of text = pick (eqb (length text) 0) (Ok None) (or_refused (start_of text))

-- a token of a text, no token at its end, or where it is refused
abbrev pub Scan : Type 0
Scan = Result (Option Scanned) NoToken

abbrev pub scanned : Kind → (start length : ℕ) → Scan
scanned kind start length = Ok (Some (record { kind = kind; start = start; length = length }))

abbrev pub placed_at : ℕ → Result (Option Lexeme) NoToken → Scan
placed_at start (Ok (Some found)) = scanned found.kind start found.length
placed_at start (Ok None) = Ok None
placed_at start (Err refused) = Err (none_at start)

abbrev pub on_skipped : Result ℕ NoToken → List ℕ → Scan
on_skipped (Ok n) text = placed_at n (lexeme_of (drop n text))
on_skipped (Err refused) text = Err refused

-- the first token of a text
unfoldable pub scan_of : List ℕ → Scan
scan_of text = on_skipped (skip_from false 0 text) text

-- a token of a text of n bytes lies within it, and is not empty
abbrev pub Within : ℕ → Scan → Type 0
Within n (Ok (Some found)) = (0 < found.length) × (found.start + found.length ≤ n)
Within n (Ok None) = Unit {0}
Within n (Err none) = none.place ≤ n

-- THE WHOLE TEXT: one scan after the other, each of the text from the byte after the last token on

-- the token of a kind, from its bytes
abbrev pub token_of : Kind → List ℕ → Token
token_of Word run = word_token run
token_of Integer run = integer (value_of run)
token_of Open run = fixed OPEN
token_of Close run = fixed CLOSE
token_of Comma run = fixed COMMA
token_of Colon run = fixed COLON
token_of Semicolon run = fixed SEMICOLON
token_of Arrow run = fixed ARROW
token_of Becomes run = fixed BECOMES

-- a token and the byte place where it starts
pub record Placed : Type 0 where
  pub token : Token
  pub start : ℕ

abbrev pub placed_token : ℕ → Kind → (start length : ℕ) → List ℕ → Placed
placed_token i kind start length text = record { token = token_of kind (take length (drop start text)); start = i + start }

abbrev pub on_scan : {A : Type 0} → Scan → (token : Kind → ℕ → ℕ → A) (ended : A) (refused : ℕ → A) → A
on_scan (Ok (Some found)) token ended refused = token found.kind found.start found.length
on_scan (Ok None) token ended refused = ended
on_scan (Err none) token ended refused = refused none.place

-- what is made of a text that starts at place i: of each token and what is made of the rest, of the end, of the first refused place.
-- A scan that finds a token takes at least a byte, so that one more scan than there are bytes is enough
unfoldable pub over_text : {A : Type 0} (found : Placed → A → A) (ended : A) (refused : ℕ → A) → (scans : ℕ) → ℕ → List ℕ → A
over_text found ended refused zero i text = ended
over_text found ended refused (suc scans) i text =
    on_scan (scan_of text)
    (λ kind start length. found (placed_token i kind start length text)
    (over_text found ended refused scans (i + (start + length)) (drop (start + length) text)))
    ended
    (λ place. refused (i + place))

-- the first place that the lexical rules refuse
unfoldable pub first_refused : List ℕ → Option ℕ
first_refused text = over_text (λ token rest. rest) None Some (length text + 1) 0 text

-- the tokens with their places, up to a place that is refused
unfoldable pub tokens_of : List ℕ → List Placed
tokens_of text = over_text (λ token rest. token ∷ rest) [] (λ place. []) (length text + 1) 0 text
