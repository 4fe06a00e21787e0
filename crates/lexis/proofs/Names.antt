-- Every name of a text has at most 32 bytes.
-- Assumes nothing.
use mathlib.Core.Path.{◌≡◌, refl, ap, subst}
use mathlib.Core.Bool.{Bool, true, false}
use mathlib.Core.List.{List, [], ◌∷◌, map}
use Prim.Native.Nat.{ℕ, zero, suc, ◌+◌, ◌≤◌}
use native.Mathlib.Omega.{arith}
use borrow.Author.Tests.{ltb-false}
use lib.Dec.{T, eqb, ltb}
use lib.ListN.{length, drop, take, get_or, length-map, length-take}
use lib.Seq.{length-take-le}
use Rattle.laws.proofs.Picks.{pick_both}
use Rattle.laws.proofs.Table.{every, first_passes, others_pass}
use Rattle.words.specs.Token.{Name, Token, name, integer, literal, once, chain, unit, fixed, foreign}
use Rattle.words.specs.Vocabulary.{lower_of, lower, Row, subset, others, vocabulary, token_at, word_token, row_of}
use Rattle.std.specs.Prelude.{Option, Some, None, Result, Ok, Err}
use Rattle.lexis.specs.Byte.{class_of, by_class, is_letter}
use Rattle.lexis.specs.Blank.{skip_from}
use Rattle.lexis.specs.Run.{run_length, all_digits, singles, longest_word, shape_of}
use Rattle.lexis.specs.Token.{lexeme, mark_of, run_token, or_refused, lexeme_of, Scan, placed_at, on_skipped, scan_of, token_of, Placed, placed_token, on_scan, over_text, tokens_of}
use Rattle.lexis.specs.declared.byte.Class.{Class}
use Rattle.lexis.specs.declared.byte.Class.TheVariants.{Letter, Digit, Underscore, Space, LineEnd, Mark, Other, High}
use Rattle.lexis.specs.declared.NoToken.{NoToken}
use Rattle.lexis.specs.declared.token.Kind.{Kind}
use Rattle.lexis.specs.declared.token.Kind.TheVariants.{Word, Integer, Open, Close, Comma, Colon, Semicolon, Arrow, Becomes}
use Rattle.lexis.specs.declared.token.Lexeme.{Lexeme}
use Rattle.lexis.proofs.Bounds.{run-within}

-- a token's name, if it is one, is short
abbrev pub ShortToken : Token → Type 0
ShortToken (name n) = length n ≤ longest_word
ShortToken (integer n) = Unit {0}
ShortToken (literal b) = Unit {0}
ShortToken (once o) = Unit {0}
ShortToken (chain c) = Unit {0}
ShortToken (unit u) = Unit {0}
ShortToken (fixed w) = Unit {0}
ShortToken foreign = Unit {0}

unfoldable pub ShortNames : List Token → Type 0
ShortNames [] = Unit {0}
ShortNames (t ∷ ts) = ShortToken t × ShortNames ts

-- WORDS

-- no row of the vocabulary is a name
abbrev plain_token : Token → Bool
plain_token (name n) = false
plain_token (integer n) = true
plain_token (literal b) = true
plain_token (once o) = true
plain_token (chain c) = true
plain_token (unit u) = true
plain_token (fixed w) = true
plain_token foreign = true

plain-short : (t : Token) → plain_token t ≡ true → ShortToken t
plain-short (name n) e = let z : ◌≡◌ {A = ℕ} 0 1 = cc in absurd (omega arith)
plain-short (integer n) e = tt
plain-short (literal b) e = tt
plain-short (once o) e = tt
plain-short (chain c) e = tt
plain-short (unit u) e = tt
plain-short (fixed w) e = tt
plain-short foreign e = tt

row-short : (rows : List Row) → T (every (λ r. plain_token r.token) rows) → (k : ℕ) (w : Name) → length w ≤ longest_word
    → ShortToken (get_or (map (λ r. r.token) rows) k (name w))
row-short [] t k w h = h
row-short (r ∷ rows) t zero w h =
    plain-short r.token (first_passes (plain_token r.token) (every (λ r. plain_token r.token) rows) t)
row-short (r ∷ rows) t (suc k) w h =
    row-short rows (others_pass (plain_token r.token) (every (λ r. plain_token r.token) rows) t) k w h

all_plain : T (every (λ r. plain_token r.token) vocabulary)
unfolding subset others vocabulary
all_plain = tt

token_at-short : (row : Option ℕ) (w : Name) → length w ≤ longest_word → ShortToken (token_at row w)
unfolding token_at
token_at-short (Some k) w h = row-short vocabulary all_plain k w h
token_at-short None w h = h

word-short : (w : List ℕ) → length w ≤ longest_word → ShortToken (word_token w)
unfolding word_token
word-short w h = token_at-short (row_of w) (lower w) (let e = length-map w lower_of in omega arith)

-- a token of so many bytes
token-short : (k : Kind) (run : List ℕ) → (k ≡ Word → length run ≤ longest_word) → ShortToken (token_of k run)
token-short Word run h = word-short run (h refl)
token-short Integer run h = tt
token-short Open run h = tt
token-short Close run h = tt
token-short Comma run h = tt
token-short Colon run h = tt
token-short Semicolon run h = tt
token-short Arrow run h = tt
token-short Becomes run h = tt

-- SCANS

-- a mark is no word
abbrev marks : Kind → Bool
marks Word = false
marks Integer = true
marks Open = true
marks Close = true
marks Comma = true
marks Colon = true
marks Semicolon = true
marks Arrow = true
marks Becomes = true

not-word : (k : Kind) → marks k ≡ true → k ≡ Word → ⊥
not-word k e h = let z : ◌≡◌ {A = ℕ} 0 1 = cc (ap marks h) in omega arith

-- a word that is found is short
abbrev ShortLexeme : Option Lexeme → Type 0
ShortLexeme (Some found) = found.kind ≡ Word → found.length ≤ longest_word
ShortLexeme None = Unit {0}

abbrev ShortStart : Result (Option Lexeme) NoToken → Type 0
ShortStart (Ok found) = ShortLexeme found
ShortStart (Err none) = Unit {0}

abbrev ShortScan : Scan → Type 0
ShortScan (Ok (Some found)) = found.kind ≡ Word → found.length ≤ longest_word
ShortScan (Ok None) = Unit {0}
ShortScan (Err none) = Unit {0}

abbrev ShortShape : ℕ → Option Kind → Type 0
ShortShape l (Some k) = k ≡ Word → l ≤ longest_word
ShortShape l None = Unit {0}

shape_short : (run : List ℕ) → ShortShape (length run) (shape_of run)
shape_short run =
    pick_both (ShortShape (length run)) (all_digits run) (Some Integer) _ (λ _ e. absurd (not-word Integer refl e))
    (λ _. pick_both (ShortShape (length run)) (ltb longest_word (length run)) None _ (λ _. tt)
    (λ e. pick_both (ShortShape (length run)) (singles false run) _ None
    (λ _. pick_both (ShortShape (length run)) (is_letter (class_of (get_or run 0 0))) (Some Word) None (λ _ is. ltb-false longest_word (length run) e) (λ _. tt))
    (λ _. tt)))

run_short : (l : ℕ) (k : Option Kind) → ShortShape l k → ShortLexeme (run_token k l)
run_short l (Some k) h = h
run_short l None h = tt

mark_short : (first second : ℕ) → ShortLexeme (mark_of first second)
unfolding mark_of
mark_short first second =
    let single : (k : Kind) → (k ≡ Word → ⊥) → (l : ℕ) → ShortLexeme (lexeme k l) = λ k h l e. absurd (h e) in
    let S = ShortLexeme in
    pick_both S (eqb first 40) (lexeme Open 1) _ (λ _. single Open (not-word Open refl) 1) (λ _.
    pick_both S (eqb first 41) (lexeme Close 1) _ (λ _. single Close (not-word Close refl) 1) (λ _.
    pick_both S (eqb first 44) (lexeme Comma 1) _ (λ _. single Comma (not-word Comma refl) 1) (λ _.
    pick_both S (eqb first 59) (lexeme Semicolon 1) _ (λ _. single Semicolon (not-word Semicolon refl) 1) (λ _.
    pick_both S (eqb first 58) _ _
    (λ _. pick_both S (eqb second 61) (lexeme Becomes 2) (lexeme Colon 1) (λ _. single Becomes (not-word Becomes refl) 2) (λ _. single Colon (not-word Colon refl) 1)) (λ _.
    pick_both S (eqb first 60) _ _
    (λ _. pick_both S (eqb second 61) (lexeme Arrow 2) None (λ _. single Arrow (not-word Arrow refl) 2) (λ _. tt)) (λ _. tt))))))

by_class_lem : (k : Class) (run mark : Option Lexeme) → ShortLexeme run → ShortLexeme mark → ShortLexeme (by_class k run run run None None mark None None)
by_class_lem Letter run mark p q = p
by_class_lem Digit run mark p q = p
by_class_lem Underscore run mark p q = p
by_class_lem Space run mark p q = tt
by_class_lem LineEnd run mark p q = tt
by_class_lem Mark run mark p q = q
by_class_lem Other run mark p q = tt
by_class_lem High run mark p q = tt

start_short : (x : Option Lexeme) → ShortLexeme x → ShortStart (or_refused x)
start_short (Some found) h = h
start_short None h = tt

-- the run at the start of a text is as long as what is taken of it
lexeme_short : (s : List ℕ) → ShortStart (lexeme_of s)
unfolding lexeme_of
lexeme_short s =
    let l : length (take (run_length 0 s) s) ≡ run_length 0 s = length-take-le (run_length 0 s) s (omega (arith, (run-within 0 s).1)) in
    pick_both ShortStart (eqb (length s) 0) (Ok None) _ (λ _. tt)
    (λ _. start_short _
    (by_class_lem (class_of (get_or s 0 0)) _ _
    (run_short (run_length 0 s) (shape_of (take (run_length 0 s) s))
    (subst (λ (n : ℕ). ShortShape n (shape_of (take (run_length 0 s) s))) l (shape_short (take (run_length 0 s) s))))
    (mark_short (get_or s 0 0) (get_or s 1 0))))

placed-short : (n : ℕ) (x : Result (Option Lexeme) NoToken) → ShortStart x → ShortScan (placed_at n x)
placed-short n (Ok (Some found)) h = h
placed-short n (Ok None) h = tt
placed-short n (Err none) h = tt

skipped-short : (r : Result ℕ NoToken) (s : List ℕ) → ShortScan (on_skipped r s)
skipped-short (Ok n) s = placed-short n (lexeme_of (drop n s)) (lexeme_short (drop n s))
skipped-short (Err none) s = tt

scan_short : (s : List ℕ) → ShortScan (scan_of s)
unfolding scan_of
scan_short s = skipped-short (skip_from false 0 s) s

-- THE WHOLE TEXT

abbrev tokens_in : List Placed → List Token
tokens_in ps = map (λ p. p.token) ps

tokens-short : (f i : ℕ) (s : List ℕ) → ShortNames (tokens_in (over_text (λ token rest. token ∷ rest) [] (λ place. []) f i s))
unfolding ShortNames over_text
tokens-short zero i s = tt
tokens-short (suc f) i s = go (scan_of s) (scan_short s) (λ n. tokens-short f (i + n) (drop n s))
  where
    go : (r : Scan) → ShortScan r
        → ((n : ℕ) → ShortNames (tokens_in (over_text (λ token rest. token ∷ rest) [] (λ place. []) f (i + n) (drop n s))))
        → ShortNames (tokens_in (on_scan r
        (λ kind start length. placed_token i kind start length s ∷ over_text (λ token rest. token ∷ rest) [] (λ place. []) f (i + (start + length)) (drop (start + length) s))
        [] (λ place. [])))
    go (Ok (Some found)) h more =
        (token-short found.kind (take found.length (drop found.start s)) (λ e. let p = h e in omega (arith, length-take found.length (drop found.start s))), more (found.start + found.length))
    go (Ok None) h more = tt
    go (Err none) h more = tt

pub short-names : (text : List ℕ) → ShortNames (tokens_in (tokens_of text))
unfolding tokens_of
short-names text = tokens-short (length text + 1) 0 text
