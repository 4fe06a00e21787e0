-- The rows are the grammar: a row has the text of its symbol, every value is made by a row, and every symbol has a value.
-- Assumes nothing.
use mathlib.Core.Path.{◌≡◌, refl, ap, ◌∙◌}
use mathlib.Core.Bool.{true, false}
use mathlib.Core.Option.{Option, none, some}
use mathlib.Core.List.{List, [], ◌∷◌}
use Rattle.words.specs.declared.unit.TimeUnit.TheVariants
use Rattle.words.specs.Token.{AND, OR, XOR, XNOR, Fixed, Fixed-discrete}
use Rattle.words.specs.Token.{ENTITY, IS, END, ARCHITECTURE, SIGNAL, BEGIN, PROCESS, AFTER, IF, THEN, ELSE, NULL, NOT, OPEN, CLOSE, COMMA, COLON, SEMICOLON, BECOMES}
use Rattle.words.specs.Token.{Token, name, integer, literal, once, chain, unit, fixed}
use Rattle.syntax.specs.Tree.{expression, alone, joined, chained, enough, more, plain, negated, named, constant, bracketed}
use Rattle.syntax.specs.Tree.{immediate, after, done, also, assignment, conditional, null, missing, otherwise}
use Rattle.syntax.specs.Tree.{declaration, unlisted, listed, process, design}
use Rattle.syntax.proofs.Machine.{Values, Step, texts, texts-split}
use Rattle.syntax.proofs.Rows.{Place, in_brackets, in_condition, in_assignment, Block, in_process, in_then, in_else, entity_part, architecture_part, Ending, Closing}
use Rattle.syntax.proofs.Rows.{Symbol, a_design, a_name, an_integer, a_literal, a_unit, a_factor, a_primary, the_word, signals, more_signals, initial_value, processes, process_body, more_listed, beginning, closing_name, closing, statements, closing_if, an_expression, a_tail, a_more, an_end}
use Rattle.syntax.proofs.Rows.{Value, text, Row, row, rows, next, token_of, followed_by, word_rows, closing_name_rows, end_rows, close_rows, primary_rows, factor_rows, beginning_rows, fixed-fits, Every, found}

-- A ROW HAS THE TEXT OF ITS SYMBOL

abbrev pub Sound : (X : Symbol) → Token → Step Value X → Type 0
Sound X t s = (ws : Values Value s.push) (r : List Token) → text X (s.build ws) r ≡ t ∷ texts Value text s.push ws r

followed_sound : (X Y : Symbol) (zs : List Symbol) (g : Value Y → Values Value zs → Value X) (rs : List (Row Y))
    → ((v : Value Y) (vs : Values Value zs) (r : List Token) → text X (g v vs) r ≡ text Y v (texts Value text zs vs r))
    → Every (Sound Y) rs → Every (Sound X) (followed_by zs g rs)
followed_sound X Y zs g [] e h = tt
followed_sound X Y zs g (row c ys b ∷ rs) e h =
    (λ a ws r. e _ _ r ∙ h.0 a _ _ ∙ ap (λ z. token_of c a ∷ z) (texts-split Value text (ys a) zs ws r), followed_sound X Y zs g rs e h.1)

word_sound : (w : Fixed) → Every (Sound (the_word w)) (word_rows w)
word_sound w = (λ a ws r. refl, tt)

closing-name-sound : Every (Sound closing_name) closing_name_rows
closing-name-sound = (λ a ws r. refl, followed_sound closing_name (the_word SEMICOLON) [] (λ _ _. none) (word_rows SEMICOLON) (λ v vs r. refl) (word_sound SEMICOLON))

end_sound : (c : Place) → Every (Sound (an_end c)) (end_rows c)
end_sound in_brackets = followed_sound (an_end in_brackets) (the_word CLOSE) [] (λ v _. v) (word_rows CLOSE) (λ v vs r. refl) (word_sound CLOSE)
end_sound in_condition = followed_sound (an_end in_condition) (the_word THEN) [] (λ v _. v) (word_rows THEN) (λ v vs r. refl) (word_sound THEN)
end_sound in_assignment = (λ a ws r. refl, followed_sound (an_end in_assignment) (the_word SEMICOLON) [] (λ _ _. immediate) (word_rows SEMICOLON) (λ v vs r. refl) (word_sound SEMICOLON))

primary-sound : Every (Sound a_primary) primary_rows
primary-sound = (λ a ws r. refl, (λ a ws r. refl, (λ a ws r. refl, tt)))

factor-sound : Every (Sound a_factor) factor_rows
factor-sound = (λ a ws r. refl, followed_sound a_factor a_primary [] (λ p _. plain p) primary_rows (λ p vs r. refl) primary-sound)

beginning-sound : Every (Sound beginning) beginning_rows
beginning-sound = (λ a ws r. refl, followed_sound beginning (the_word BEGIN) [] (λ _ _. false) (word_rows BEGIN) (λ v vs r. refl) (word_sound BEGIN))

close_sound : (b : Block) → Every (Sound (statements b)) (close_rows b)
close_sound in_process = (λ a ws r. refl, tt)
close_sound in_then = (λ a ws r. refl, (λ a ws r. refl, tt))
close_sound in_else = (λ a ws r. refl, tt)

rows-sound : (X : Symbol) → Every (Sound X) (rows X)
rows-sound a_design = (λ a ws r. refl, tt)
rows-sound a_name = (λ a ws r. refl, tt)
rows-sound an_integer = (λ a ws r. refl, tt)
rows-sound a_literal = (λ a ws r. refl, tt)
rows-sound a_unit = (λ a ws r. refl, tt)
rows-sound a_factor = factor-sound
rows-sound a_primary = primary-sound
rows-sound (the_word w) = word_sound w
rows-sound signals = (λ a ws r. refl, (λ a ws r. refl, tt))
rows-sound more_signals = (λ a ws r. refl, (λ a ws r. refl, tt))
rows-sound initial_value = (λ a ws r. refl, followed_sound initial_value (the_word SEMICOLON) [] (λ _ _. none) (word_rows SEMICOLON) (λ v vs r. refl) (word_sound SEMICOLON))
rows-sound processes = (λ a ws r. refl, (λ a ws r. refl, (λ a ws r. refl, tt)))
rows-sound process_body = (λ a ws r. refl, followed_sound process_body beginning (statements in_process ∷ []) (λ i ws. (unlisted, (i, ws.0))) beginning_rows (λ v vs r. refl) beginning-sound)
rows-sound more_listed = (λ a ws r. refl, (λ a ws r. refl, tt))
rows-sound beginning = beginning-sound
rows-sound closing_name = closing-name-sound
rows-sound (closing u) = (λ a ws r. refl, followed_sound (closing u) closing_name [] (λ o _. (false, o)) closing_name_rows (λ o vs r. refl) closing-name-sound)
rows-sound (statements b) = (λ a ws r. refl, (λ a ws r. refl, (λ a ws r. refl, close_sound b)))
rows-sound closing_if = (λ a ws r. refl, tt)
rows-sound (an_expression c) = followed_sound (an_expression c) a_factor (a_tail c ∷ []) (λ f ws. (expression f ws.0.0, ws.0.1)) factor_rows (λ f vs r. refl) factor-sound
rows-sound (a_tail c) = (λ a ws r. refl, (λ a ws r. refl, followed_sound (a_tail c) (an_end c) [] (λ a _. (alone, a)) (end_rows c) (λ a vs r. refl) (end_sound c)))
rows-sound (a_more d c) = (λ a ws r. refl, followed_sound (a_more d c) (an_end c) [] (λ a _. (enough, a)) (end_rows c) (λ a vs r. refl) (end_sound c))
rows-sound (an_end c) = end_sound c

pub sound : (X : Symbol) (t : Token) (s : Step Value X) → next X t ≡ some s → Sound X t s
sound X t s n = found (Sound X) (rows X) (rows-sound X) t s n

-- EVERY VALUE IS MADE BY THE ROW OF ITS FIRST TOKEN

abbrev Made : (X : Symbol) → Value X → Option (Step Value X) → Type 0
Made X v none = ⊥
Made X v (some s) = (ws : Values Value s.push) × (s.build ws ≡ v)

word_made : (w : Fixed) → Made (the_word w) tt (next (the_word w) (fixed w))
word_made w = go (Fixed-discrete w w)
  where
    go : (d : Dec (w ≡ w)) → Made (the_word w) tt (elim (fixed-fits w w d) [ none ↦ none | some a ↦ some record { push = []; build = λ _. tt } ])
    go (yes p) = (tt, refl)
    go (no n) = absurd (n refl)

first : (X : Symbol) (v : Value X) → (t : Token) × Made X v (next X t)
first a_design (design e w c a o ds ps w' c') = (fixed ENTITY, ((e, (tt, (tt, ((w, c), (tt, (a, (tt, (o, (tt, (ds, (ps, ((w', c'), tt)))))))))))), refl))
first a_name n = (name n, (tt, refl))
first an_integer n = (integer n, (tt, refl))
first a_literal b = (literal b, (tt, refl))
first a_unit u = (unit u, (tt, refl))
first a_factor (plain (named n)) = (name n, (tt, refl))
first a_factor (plain (constant b)) = (literal b, (tt, refl))
first a_factor (plain (bracketed e)) = (fixed OPEN, (((e, tt), tt), refl))
first a_factor (negated p) = (fixed NOT, ((p, tt), refl))
first a_primary (named n) = (name n, (tt, refl))
first a_primary (constant b) = (literal b, (tt, refl))
first a_primary (bracketed e) = (fixed OPEN, (((e, tt), tt), refl))
first (the_word w) v = (fixed w, word_made w)
first signals (declaration n ms i ∷ ds) = (fixed SIGNAL, ((n, ((ms, i), (ds, tt))), refl))
first signals [] = (fixed BEGIN, (tt, refl))
first more_signals (n ∷ ms, i) = (fixed COMMA, ((n, ((ms, i), tt)), refl))
first more_signals ([], i) = (fixed COLON, ((tt, (i, tt)), refl))
first initial_value (some b) = (fixed BECOMES, ((b, (tt, tt)), refl))
first initial_value none = (fixed SEMICOLON, (tt, refl))
first processes (process (some n) s i b c ∷ ps) = (name n, ((tt, (tt, ((s, (i, (b, c))), (ps, tt)))), refl))
first processes (process none s i b c ∷ ps) = (fixed PROCESS, (((s, (i, (b, c))), (ps, tt)), refl))
first processes [] = (fixed END, (tt, refl))
first process_body (listed n ms, (i, (b, c))) = (fixed OPEN, ((n, (ms, (i, ((b, c), tt)))), refl))
first process_body (unlisted, (true, (b, c))) = (fixed IS, ((tt, ((b, c), tt)), refl))
first process_body (unlisted, (false, (b, c))) = (fixed BEGIN, (((b, c), tt), refl))
first more_listed (n ∷ ms) = (fixed COMMA, ((n, (ms, tt)), refl))
first more_listed [] = (fixed CLOSE, (tt, refl))
first beginning true = (fixed IS, ((tt, tt), refl))
first beginning false = (fixed BEGIN, (tt, refl))
first closing_name (some n) = (name n, ((tt, tt), refl))
first closing_name none = (fixed SEMICOLON, (tt, refl))
first (closing entity_part) (true, o) = (fixed ENTITY, ((o, tt), refl))
first (closing architecture_part) (true, o) = (fixed ARCHITECTURE, ((o, tt), refl))
first (closing entity_part) (false, some n) = (name n, ((tt, tt), refl))
first (closing architecture_part) (false, some n) = (name n, ((tt, tt), refl))
first (closing entity_part) (false, none) = (fixed SEMICOLON, (tt, refl))
first (closing architecture_part) (false, none) = (fixed SEMICOLON, (tt, refl))
first (statements b) (also (assignment n e a) ss, z) = (name n, ((tt, (tt, ((e, a), ((ss, z), tt)))), refl))
first (statements b) (also (conditional e s o) ss, z) = (fixed IF, (((e, tt), ((s, o), ((ss, z), tt))), refl))
first (statements b) (also null ss, z) = (fixed NULL, ((tt, ((ss, z), tt)), refl))
first (statements in_process) (done, z) = (fixed END, ((tt, (z, tt)), refl))
first (statements in_then) (done, missing) = (fixed END, ((tt, tt), refl))
first (statements in_then) (done, otherwise ss) = (fixed ELSE, (((ss, tt), tt), refl))
first (statements in_else) (done, z) = (fixed END, ((tt, tt), refl))
first closing_if v = (fixed IF, ((tt, tt), refl))
first (an_expression c) (expression (plain (named n)) o, a) = (name n, (((o, a), tt), refl))
first (an_expression c) (expression (plain (constant b)) o, a) = (literal b, (((o, a), tt), refl))
first (an_expression c) (expression (plain (bracketed e)) o, a) = (fixed OPEN, (((e, tt), ((o, a), tt)), refl))
first (an_expression c) (expression (negated p) o, a) = (fixed NOT, ((p, ((o, a), tt)), refl))
first (a_tail c) (joined o f, a) = (once o, ((f, (a, tt)), refl))
first (a_tail c) (chained d f m, a) = (chain d, ((f, ((m, a), tt)), refl))
first (a_tail in_brackets) (alone, a) = (fixed CLOSE, (tt, refl))
first (a_tail in_condition) (alone, a) = (fixed THEN, (tt, refl))
first (a_tail in_assignment) (alone, immediate) = (fixed SEMICOLON, (tt, refl))
first (a_tail in_assignment) (alone, after n u) = (fixed AFTER, ((n, (u, (tt, tt))), refl))
first (a_more AND c) (more f m, a) = (chain AND, ((f, ((m, a), tt)), refl))
first (a_more OR c) (more f m, a) = (chain OR, ((f, ((m, a), tt)), refl))
first (a_more XOR c) (more f m, a) = (chain XOR, ((f, ((m, a), tt)), refl))
first (a_more XNOR c) (more f m, a) = (chain XNOR, ((f, ((m, a), tt)), refl))
first (a_more d in_brackets) (enough, a) = (fixed CLOSE, (tt, refl))
first (a_more d in_condition) (enough, a) = (fixed THEN, (tt, refl))
first (a_more d in_assignment) (enough, immediate) = (fixed SEMICOLON, (tt, refl))
first (a_more d in_assignment) (enough, after n u) = (fixed AFTER, ((n, (u, (tt, tt))), refl))
first (an_end in_brackets) a = (fixed CLOSE, (tt, refl))
first (an_end in_condition) a = (fixed THEN, (tt, refl))
first (an_end in_assignment) immediate = (fixed SEMICOLON, (tt, refl))
first (an_end in_assignment) (after n u) = (fixed AFTER, ((n, (u, (tt, tt))), refl))

pub view : (X : Symbol) (v : Value X) → (t : Token) × (s : Step Value X) × (ws : Values Value s.push) × (next X t ≡ some s) × (s.build ws ≡ v)
view X v = let (t, f) = first X v in go t (next X t) refl f
  where
    go : (t : Token) (o : Option (Step Value X)) → next X t ≡ o → Made X v o
        → (t : Token) × (s : Step Value X) × (ws : Values Value s.push) × (next X t ≡ some s) × (s.build ws ≡ v)
    go t none n f = absurd f
    go t (some s) n (ws, b) = (t, s, ws, n, b)

-- EVERY SYMBOL HAS A VALUE

unfoldable pub fill_ending : (c : Place) → Ending c
fill_ending in_brackets = tt
fill_ending in_condition = tt
fill_ending in_assignment = immediate

unfoldable pub fill-closing : (b : Block) → Closing b
fill-closing in_process = none
fill-closing in_then = missing
fill-closing in_else = tt

unfoldable pub fill : (X : Symbol) → Value X
fill a_design = design [] false none [] [] [] [] false none
fill a_name = []
fill an_integer = 0
fill a_literal = true
fill a_unit = TheVariants.Fs
fill a_factor = plain (named [])
fill a_primary = named []
fill (the_word w) = tt
fill signals = []
fill more_signals = ([], none)
fill initial_value = none
fill processes = []
fill process_body = (unlisted, (false, (done, none)))
fill more_listed = []
fill beginning = false
fill closing_name = none
fill (closing u) = (false, none)
fill (statements b) = (done, fill-closing b)
fill closing_if = tt
fill (an_expression c) = (expression (plain (named [])) alone, fill_ending c)
fill (a_tail c) = (alone, fill_ending c)
fill (a_more d c) = (enough, fill_ending c)
fill (an_end c) = fill_ending c
