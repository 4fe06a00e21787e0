-- What texts get, computed from their bytes: case A of document 01, P5, P6, P7, P11 and P12, and the order of 2, 3 and 5.
-- Assumes nothing.
use Prim.Native.Nat.{ℕ}
use Prim.Native.String.{String}
use native.Mathlib.Decide.{dec_le}
use mathlib.Core.Path.{◌≡◌, refl}
use mathlib.Core.List.{List, [], ◌∷◌, ◌++◌, map}
use Rattle.laws.specs.Pick.{same_list}
use Rattle.laws.specs.Text.{bytes}
use Rattle.words.specs.Vocabulary.{subset, others, vocabulary, row_from, row_of, token_at, word_token}
use Rattle.lexis.specs.Byte.{class_of}
use Rattle.lexis.specs.Blank.{skip_from}
use Rattle.lexis.specs.Run.{run_length, all_digits, singles}
use Rattle.lexis.specs.Token.{mark_of, lexeme_of, scan_of, over_text, first_refused, tokens_of}
use Rattle.syntax.proofs.Theorem.{read}
use Rattle.syntax.proofs.Examples.{tree_a}
use Rattle.names.specs.Judge.{judged}
use Rattle.names.specs.Text.{Answer, accepts, refuses, Gets}
use Rattle.names.proofs.Answer.{answer_to, answers}

-- CASE A

abbrev pub text_a : List ℕ
text_a =
    bytes "entity pair is end;\narchitecture a of pair is\n  signal q, d : boolean;\nbegin\n"
    ++ bytes "  process (q) begin q <= transport not q after 3 ns; end process;\n  process (q) begin d <= transport not q; end process;\nend;\n"

-- what a text gets, opened to be computed
answer : List ℕ → Answer
unfolding answer_to read dec_le judged same_list first_refused tokens_of over_text scan_of lexeme_of mark_of skip_from run_length all_digits singles class_of word_token token_at row_of row_from vocabulary others subset
answer text = answer_to text

computed_a : answer_to text_a ≡ accepts tree_a
unfolding answer
computed_a = refl

pub case_a_lem : Gets text_a (accepts tree_a)
case_a_lem = (answers text_a (accepts tree_a)).0 computed_a

-- THE CASES: a text, and its number and place, or (0, 0) where it is accepted

-- the expression begins at place 101
abbrev pub assigns : String → List ℕ
assigns expression =
    bytes "entity e is end; architecture a of e is signal a, b, c : boolean; begin process begin a <= transport "
    ++ bytes expression ++ bytes "; end process; end;"

abbrev pub numbered : Answer → ℕ × ℕ
numbered (accepts d) = (0, 0)
numbered (refuses number place) = (number, place)

abbrev pub cases : List (List ℕ × (ℕ × ℕ))
cases =
    -- P5, P6, P7
    (assigns "a nand b nand c", (3, 110)) ∷ (assigns "a nand (b nand c)", (0, 0))
    ∷ (assigns "a and b or c", (3, 109)) ∷ (assigns "a and b and c", (0, 0))
    ∷ (assigns "not not a", (3, 105)) ∷ (assigns "not (not a)", (0, 0))
    -- P11
    ∷ (assigns "true after 1000 sec", (0, 0)) ∷ (assigns "true after 1001 sec", (8, 112)) ∷ (assigns "true after 0 hr", (0, 0))
    -- P12, and a text that ends too soon: at its length
    ∷ (bytes "", (3, 0)) ∷ (bytes "entity e ", (3, 9))
    -- 2 over the whole text goes before 3, and 3 before 5
    ∷ (bytes "entity e_ is end;", (2, 7)) ∷ (bytes "end; $", (2, 5)) ∷ (bytes "end; e", (3, 0))
    ∷ (assigns "x", (5, 101)) ∷ (assigns "x or", (3, 105)) ∷ []

-- each text of the cases gets its answer
pub cases-right : map (λ c. numbered (answer_to c.0)) cases ≡ map (λ c. c.1) cases
unfolding answer
cases-right = refl
