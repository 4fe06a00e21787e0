-- Worked examples, computed: case A's tokens with their places, and each rule of 'The text' on both sides.
-- Assumes nothing.
use Rattle.std.specs.Prelude.{ℕ, ◌≡◌, refl, List, [], ◌∷◌, ◌++◌, Some, None}
use Rattle.laws.specs.Pick.{same_list}
use Rattle.laws.specs.Text.{bytes, lines}
use Rattle.words.specs.Vocabulary.{subset, others, vocabulary, row_from, row_of, token_at, word_token}
use Rattle.words.specs.Token.{Token, name, integer, unit, fixed, foreign, ENTITY, IS, END, ARCHITECTURE, OF, SIGNAL, BEGIN, BOOLEAN, PROCESS, TRANSPORT, AFTER, NOT, OPEN, CLOSE, COMMA, COLON, SEMICOLON, ARROW, BECOMES}
use Rattle.words.specs.declared.unit.TimeUnit.TheVariants.{Ns}
use Rattle.lexis.specs.Byte.{class_of}
use Rattle.lexis.specs.Blank.{skip_from}
use Rattle.lexis.specs.Run.{run_length, all_digits, singles}
use Rattle.lexis.specs.Token.{Placed, mark_of, lexeme_of, scan_of, over_text, first_refused, tokens_of}

abbrev at : ℕ → Token → Placed
at start token = record { token = token; start = start }

abbrev pub case_a : List ℕ
case_a = lines (
    "entity pair is end;"
    ∷ "architecture a of pair is"
    ∷ "  signal q, d : boolean;"
    ∷ "begin"
    ∷ "  process (q) begin q <= transport not q after 3 ns; end process;"
    ∷ "  process (q) begin d <= transport not q; end process;"
    ∷ "end;"
    ∷ [])

tokens_of_case_a : tokens_of case_a ≡
    at 0 (fixed ENTITY) ∷ at 7 (name (bytes "pair")) ∷ at 12 (fixed IS) ∷ at 15 (fixed END) ∷ at 18 (fixed SEMICOLON)
    ∷ at 20 (fixed ARCHITECTURE) ∷ at 33 (name (bytes "a")) ∷ at 35 (fixed OF) ∷ at 38 (name (bytes "pair")) ∷ at 43 (fixed IS)
    ∷ at 48 (fixed SIGNAL) ∷ at 55 (name (bytes "q")) ∷ at 56 (fixed COMMA) ∷ at 58 (name (bytes "d")) ∷ at 60 (fixed COLON)
    ∷ at 62 (fixed BOOLEAN) ∷ at 69 (fixed SEMICOLON) ∷ at 71 (fixed BEGIN)
    ∷ at 79 (fixed PROCESS) ∷ at 87 (fixed OPEN) ∷ at 88 (name (bytes "q")) ∷ at 89 (fixed CLOSE) ∷ at 91 (fixed BEGIN)
    ∷ at 97 (name (bytes "q")) ∷ at 99 (fixed ARROW) ∷ at 102 (fixed TRANSPORT) ∷ at 112 (fixed NOT) ∷ at 116 (name (bytes "q"))
    ∷ at 118 (fixed AFTER) ∷ at 124 (integer 3) ∷ at 126 (unit Ns) ∷ at 128 (fixed SEMICOLON)
    ∷ at 130 (fixed END) ∷ at 134 (fixed PROCESS) ∷ at 141 (fixed SEMICOLON)
    ∷ at 145 (fixed PROCESS) ∷ at 153 (fixed OPEN) ∷ at 154 (name (bytes "q")) ∷ at 155 (fixed CLOSE) ∷ at 157 (fixed BEGIN)
    ∷ at 163 (name (bytes "d")) ∷ at 165 (fixed ARROW) ∷ at 168 (fixed TRANSPORT) ∷ at 178 (fixed NOT) ∷ at 182 (name (bytes "q"))
    ∷ at 183 (fixed SEMICOLON) ∷ at 185 (fixed END) ∷ at 189 (fixed PROCESS) ∷ at 196 (fixed SEMICOLON)
    ∷ at 198 (fixed END) ∷ at 201 (fixed SEMICOLON) ∷ []
unfolding class_of skip_from run_length all_digits singles mark_of lexeme_of scan_of over_text tokens_of subset others vocabulary row_from row_of token_at word_token same_list
tokens_of_case_a = refl

-- MARKS

greedy : tokens_of (bytes "p:=<=:,") ≡ at 0 (name (bytes "p")) ∷ at 1 (fixed BECOMES) ∷ at 3 (fixed ARROW) ∷ at 5 (fixed COLON) ∷ at 6 (fixed COMMA) ∷ []
unfolding class_of skip_from run_length all_digits singles mark_of lexeme_of scan_of over_text tokens_of subset others vocabulary row_from row_of token_at word_token same_list
greedy = refl

colon_apart : tokens_of (bytes ": (") ≡ at 0 (fixed COLON) ∷ at 2 (fixed OPEN) ∷ []
unfolding class_of skip_from run_length all_digits singles mark_of lexeme_of scan_of over_text tokens_of subset others vocabulary row_from row_of token_at word_token same_list
colon_apart = refl

equals_apart : first_refused (bytes ": =") ≡ Some 2
unfolding class_of skip_from run_length all_digits singles mark_of lexeme_of scan_of over_text first_refused
equals_apart = refl

less-alone : first_refused (bytes "a < b") ≡ Some 2
unfolding class_of skip_from run_length all_digits singles mark_of lexeme_of scan_of over_text first_refused
less-alone = refl

dash_alone : first_refused (bytes "a - b") ≡ Some 2
unfolding class_of skip_from run_length all_digits singles mark_of lexeme_of scan_of over_text first_refused
dash_alone = refl

-- RUNS

case_aside : tokens_of (bytes "PrOcEsS Reject nS_1") ≡ at 0 (fixed PROCESS) ∷ at 8 foreign ∷ at 15 (name (bytes "ns_1")) ∷ []
unfolding class_of skip_from run_length all_digits singles mark_of lexeme_of scan_of over_text tokens_of subset others vocabulary row_from row_of token_at word_token same_list
case_aside = refl

zeros : tokens_of (bytes "007 0") ≡ at 0 (integer 7) ∷ at 4 (integer 0) ∷ []
unfolding class_of skip_from run_length all_digits singles mark_of lexeme_of scan_of over_text tokens_of subset others vocabulary row_from row_of token_at word_token same_list
zeros = refl

last_underscore : first_refused (bytes "a a_") ≡ Some 2
unfolding class_of skip_from run_length all_digits singles mark_of lexeme_of scan_of over_text first_refused
last_underscore = refl

double_underscore : first_refused (bytes "a__b") ≡ Some 0
unfolding class_of skip_from run_length all_digits singles mark_of lexeme_of scan_of over_text first_refused
double_underscore = refl

first_underscore : first_refused (bytes " _a") ≡ Some 1
unfolding class_of skip_from run_length all_digits singles mark_of lexeme_of scan_of over_text first_refused
first_underscore = refl

integer-and-unit : first_refused (bytes "3ns") ≡ Some 0
unfolding class_of skip_from run_length all_digits singles mark_of lexeme_of scan_of over_text first_refused
integer-and-unit = refl

thirty_two : first_refused (bytes "a2345678901234567890123456789012") ≡ None
unfolding class_of skip_from run_length all_digits singles mark_of lexeme_of scan_of over_text first_refused
thirty_two = refl

thirty_three : first_refused (bytes "a23456789012345678901234567890123") ≡ Some 0
unfolding class_of skip_from run_length all_digits singles mark_of lexeme_of scan_of over_text first_refused
thirty_three = refl

-- COMMENTS

to_the_end_of_text : first_refused (bytes "a --") ≡ None
unfolding class_of skip_from run_length all_digits singles mark_of lexeme_of scan_of over_text first_refused
to_the_end_of_text = refl

four-ends : tokens_of (bytes "a--b\nc--d" ++ 11 ∷ bytes "e--f" ++ 12 ∷ bytes "g--h\ri") ≡ at 0 (name (bytes "a")) ∷ at 5 (name (bytes "c")) ∷ at 10 (name (bytes "e")) ∷ at 15 (name (bytes "g")) ∷ at 20 (name (bytes "i")) ∷ []
unfolding class_of skip_from run_length all_digits singles mark_of lexeme_of scan_of over_text tokens_of subset others vocabulary row_from row_of token_at word_token same_list
four-ends = refl

any_low_byte : first_refused (bytes "--" ++ 0 ∷ 127 ∷ bytes "\"$_") ≡ None
unfolding class_of skip_from run_length all_digits singles mark_of lexeme_of scan_of over_text first_refused
any_low_byte = refl

-- BYTES OF 128 OR MORE

high_in_comment : first_refused (bytes "a -- " ++ 128 ∷ []) ≡ Some 5
unfolding class_of skip_from run_length all_digits singles mark_of lexeme_of scan_of over_text first_refused
high_in_comment = refl

high_behind_a_word : first_refused (bytes "ab" ++ 128 ∷ []) ≡ Some 2
unfolding class_of skip_from run_length all_digits singles mark_of lexeme_of scan_of over_text first_refused
high_behind_a_word = refl

high_behind_no_word : first_refused (bytes "a_" ++ 128 ∷ []) ≡ Some 0
unfolding class_of skip_from run_length all_digits singles mark_of lexeme_of scan_of over_text first_refused
high_behind_no_word = refl

first_of_two : first_refused (bytes "a_ " ++ 255 ∷ []) ≡ Some 0
unfolding class_of skip_from run_length all_digits singles mark_of lexeme_of scan_of over_text first_refused
first_of_two = refl
