-- What may be missing is missing where the next token does not begin it: the machine then does to the symbol what it does to what must follow.
-- Laws for the readers of the code, over every stack. Assumes nothing.
use mathlib.Core.Path.{◌≡◌, refl, ap, ◌∙◌}
use mathlib.Core.Bool.{false}
use mathlib.Core.Option.{Option, none, some, map}
use mathlib.Core.List.{List, [], ◌∷◌, ◌++◌}
use Rattle.words.specs.Token.{Token, Chain, IS, BEGIN, AFTER, NOT, OPEN, SEMICOLON, BECOMES}
use Rattle.syntax.specs.Tree.{expression, alone, enough, plain, immediate, unlisted}
use Rattle.syntax.specs.Sentence.{most_open}
use Rattle.syntax.proofs.Machine.{Values, Step, front, back, extended, run-extended}
use Rattle.syntax.proofs.Rows.{Kind, Content, Fits, any_name, any_once, any_chain, the_chain, the_fixed, fits, Part, part_word, Place, in_assignment, in_process}
use Rattle.syntax.proofs.Rows.{Symbol, a_factor, a_primary, the_word, initial_value, process_body, beginning, closing_name, closing, statements, an_expression, a_tail, a_more, an_end}
use Rattle.syntax.proofs.Rows.{Value, Row, row, rows, find, next, followed_by}
use Rattle.syntax.proofs.Nesting.{weight}
use Rattle.syntax.proofs.Theorem.{run}

-- what a row finds, if its kind fits, else r
abbrev chosen : {X : Symbol} (c : Kind) (ys : Content c → List Symbol) (b : (a : Content c) → Values Value (ys a) → Value X) {t : Token}
    → Fits c t → Option (Step Value X) → Option (Step Value X)
chosen c ys b o r = elim o [ none ↦ r | some a ↦ some record { push = ys a.0; build = b a.0 } ]

-- the first row does not take the token; the rows after it
abbrev Refuses : {X : Symbol} → Token → List (Row X) → Type 0
Refuses t [] = Unit
Refuses t (row c ys b ∷ rs) = fits c t ≡ none

abbrev tail : {X : Symbol} → List (Row X) → List (Row X)
tail [] = []
tail (r ∷ rs) = rs

past : {X : Symbol} (t : Token) (rs : List (Row X)) → Refuses t rs → find rs t ≡ find (tail rs) t
past t [] n = refl
past t (row c ys b ∷ rs) n = ap (λ o. chosen c ys b o (find rs t)) n

find_followed : (X Y : Symbol) (zs : List Symbol) (g : Value Y → Values Value zs → Value X) (rs : List (Row Y)) (t : Token)
    → find {X = X} (followed_by zs g rs) t ≡ map (extended Value zs g) (find rs t)
find_followed X Y zs g [] t = refl
find_followed X Y zs g (row c ys b ∷ rs) t = go (fits c t) (find_followed X Y zs g rs t)
  where
    go : (o : Fits c t) → find {X = X} (followed_by zs g rs) t ≡ map (extended Value zs g) (find rs t)
        → chosen {X = X} c (λ a. ys a ++ zs) (λ a ws. g (b a (front Value (ys a) zs ws)) (back Value (ys a) zs ws)) o (find (followed_by zs g rs) t)
        ≡ map (extended Value zs g) (chosen {X = Y} c ys b o (find rs t))
    go none ih = ih
    go (some a) ih = refl

module _ {D : Type 0} (t : Token) (ts : List Token) (ss : List Symbol) where
  -- of a symbol whose own rows do not take the token
  others : (X Y : Symbol) (zs : List Symbol) (g : Value Y → Values Value zs → Value X) → next X t ≡ find (followed_by zs g (rows Y)) t → (k : Values Value (X ∷ ss) → D)
      → run (t ∷ ts) (X ∷ ss) k ≡ run (t ∷ ts) (Y ∷ (zs ++ ss)) (λ vs. k (g vs.0 (front Value zs ss vs.1), back Value zs ss vs.1))
  others X Y zs g n k = run-extended Value next weight most_open X Y zs g t ts ss k (n ∙ find_followed X Y zs g (rows Y) t)

  pub expression_first : (c : Place) (k : Values Value (an_expression c ∷ ss) → D)
      → run (t ∷ ts) (an_expression c ∷ ss) k ≡ run (t ∷ ts) (a_factor ∷ a_tail c ∷ ss) (λ vs. k ((expression vs.0 vs.1.0.0, vs.1.0.1), vs.1.1))
  expression_first c k = others (an_expression c) a_factor (a_tail c ∷ []) (λ f ws. (expression f ws.0.0, ws.0.1)) refl k

  pub factor-plain : fits (the_fixed NOT) t ≡ none → (k : Values Value (a_factor ∷ ss) → D)
      → run (t ∷ ts) (a_factor ∷ ss) k ≡ run (t ∷ ts) (a_primary ∷ ss) (λ vs. k (plain vs.0, vs.1))
  factor-plain n k = others a_factor a_primary [] (λ p _. plain p) (past t (rows a_factor) n) k

  pub tail-alone : (c : Place) → fits any_once t ≡ none → fits any_chain t ≡ none → (k : Values Value (a_tail c ∷ ss) → D)
      → run (t ∷ ts) (a_tail c ∷ ss) k ≡ run (t ∷ ts) (an_end c ∷ ss) (λ vs. k ((alone, vs.0), vs.1))
  tail-alone c n m k = others (a_tail c) (an_end c) [] (λ a _. (alone, a)) (past t (rows (a_tail c)) n ∙ past t (tail (rows (a_tail c))) m) k

  pub more_enough : (d : Chain) (c : Place) → fits (the_chain d) t ≡ none → (k : Values Value (a_more d c ∷ ss) → D)
      → run (t ∷ ts) (a_more d c ∷ ss) k ≡ run (t ∷ ts) (an_end c ∷ ss) (λ vs. k ((enough, vs.0), vs.1))
  more_enough d c n k = others (a_more d c) (an_end c) [] (λ a _. (enough, a)) (past t (rows (a_more d c)) n) k

  pub delay-missing : fits (the_fixed AFTER) t ≡ none → (k : Values Value (an_end in_assignment ∷ ss) → D)
      → run (t ∷ ts) (an_end in_assignment ∷ ss) k ≡ run (t ∷ ts) (the_word SEMICOLON ∷ ss) (λ vs. k (immediate, vs.1))
  delay-missing n k = others (an_end in_assignment) (the_word SEMICOLON) [] (λ _ _. immediate) (past t (rows (an_end in_assignment)) n) k

  pub initial-missing : fits (the_fixed BECOMES) t ≡ none → (k : Values Value (initial_value ∷ ss) → D)
      → run (t ∷ ts) (initial_value ∷ ss) k ≡ run (t ∷ ts) (the_word SEMICOLON ∷ ss) (λ vs. k (none, vs.1))
  initial-missing n k = others initial_value (the_word SEMICOLON) [] (λ _ _. none) (past t (rows initial_value) n) k

  pub list_missing : fits (the_fixed OPEN) t ≡ none → (k : Values Value (process_body ∷ ss) → D)
      → run (t ∷ ts) (process_body ∷ ss) k ≡ run (t ∷ ts) (beginning ∷ statements in_process ∷ ss) (λ vs. k ((unlisted, (vs.0, vs.1.0)), vs.1.1))
  list_missing n k = others process_body beginning (statements in_process ∷ []) (λ i ws. (unlisted, (i, ws.0))) (past t (rows process_body) n) k

  pub is_missing : fits (the_fixed IS) t ≡ none → (k : Values Value (beginning ∷ ss) → D)
      → run (t ∷ ts) (beginning ∷ ss) k ≡ run (t ∷ ts) (the_word BEGIN ∷ ss) (λ vs. k (false, vs.1))
  is_missing n k = others beginning (the_word BEGIN) [] (λ _ _. false) (past t (rows beginning) n) k

  pub closing-word-missing : (u : Part) → fits (the_fixed (part_word u)) t ≡ none → (k : Values Value (closing u ∷ ss) → D)
      → run (t ∷ ts) (closing u ∷ ss) k ≡ run (t ∷ ts) (closing_name ∷ ss) (λ vs. k ((false, vs.0), vs.1))
  closing-word-missing u n k = others (closing u) closing_name [] (λ o _. (false, o)) (past t (rows (closing u)) n) k

  pub closing-name-missing : fits any_name t ≡ none → (k : Values Value (closing_name ∷ ss) → D)
      → run (t ∷ ts) (closing_name ∷ ss) k ≡ run (t ∷ ts) (the_word SEMICOLON ∷ ss) (λ vs. k (none, vs.1))
  closing-name-missing n k = others closing_name (the_word SEMICOLON) [] (λ _ _. none) (past t (rows closing_name) n) k
