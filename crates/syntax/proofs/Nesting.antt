-- What the symbols of a stack hold open, and how deep their values nest: each row keeps the nesting.
-- Assumes nothing.
use mathlib.Core.Path.{◌≡◌, sym, ap, ◌∙◌}
use mathlib.Core.Bool.{false}
use mathlib.Core.Option.{none, some}
use mathlib.Core.List.{List, [], ◌∷◌}
use Prim.Native.Nat.{ℕ, ◌+◌, ◌≤◌, max}
use native.Mathlib.Nat.{zero-max, max-zero}
use native.Mathlib.Omega.{arith}
use Rattle.words.specs.Token.{Token, Fixed, BEGIN, THEN, SEMICOLON}
use Rattle.syntax.specs.Tree.{expression, alone, enough, plain, immediate, unlisted}
use Rattle.syntax.specs.Sentence.{expression_nest, tail_nest, more_nest, factor_nest, primary_nest, statements_nest, otherwise_nest, processes_nest, nest}
use Rattle.syntax.proofs.Machine.{Values, Step, front, back, weights, nests, nests-split}
use Rattle.syntax.proofs.Rows.{Place, in_brackets, in_condition, in_assignment, Block, in_process, in_then, in_else, Closing}
use Rattle.syntax.proofs.Rows.{Symbol, a_design, a_name, an_integer, a_literal, a_unit, a_factor, a_primary, the_word, signals, more_signals, initial_value, processes, process_body, more_listed, beginning, closing_name, closing, statements, closing_if, an_expression, a_tail, a_more, an_end}
use Rattle.syntax.proofs.Rows.{Value, Row, row, rows, next, followed_by, word_rows, closing_name_rows, end_rows, close_rows, primary_rows, factor_rows, beginning_rows, Every, found}
use Rattle.syntax.proofs.Laws.{fill, fill-closing}

-- WEIGHTS: an expression in brackets holds its bracket open, the statements of an `if` their `if`; its condition stands above them

abbrev pub place_weight : Place → ℕ
place_weight in_brackets = 1
place_weight in_condition = 0
place_weight in_assignment = 0

abbrev pub block_weight : Block → ℕ
block_weight in_process = 0
block_weight in_then = 1
block_weight in_else = 1

abbrev pub weight : Symbol → ℕ
weight a_design = 0
weight a_name = 0
weight an_integer = 0
weight a_literal = 0
weight a_unit = 0
weight a_factor = 0
weight a_primary = 0
weight (the_word w) = 0
weight signals = 0
weight more_signals = 0
weight initial_value = 0
weight processes = 0
weight process_body = 0
weight more_listed = 0
weight beginning = 0
weight closing_name = 0
weight (closing u) = 0
weight (statements b) = block_weight b
weight closing_if = 1
weight (an_expression c) = place_weight c
weight (a_tail c) = place_weight c
weight (a_more d c) = place_weight c
weight (an_end c) = place_weight c

-- DEPTHS

abbrev pub closing_depth : (b : Block) → Closing b → ℕ
closing_depth in_process a = 0
closing_depth in_then a = otherwise_nest a
closing_depth in_else a = 0

abbrev pub depth : (X : Symbol) → Value X → ℕ
depth a_design d = nest d
depth a_name v = 0
depth an_integer v = 0
depth a_literal v = 0
depth a_unit v = 0
depth a_factor f = factor_nest f
depth a_primary p = primary_nest p
depth (the_word w) v = 0
depth signals v = 0
depth more_signals v = 0
depth initial_value v = 0
depth processes v = processes_nest v
depth process_body v = statements_nest v.1.1.0
depth more_listed v = 0
depth beginning v = 0
depth closing_name v = 0
depth (closing u) v = 0
depth (statements b) v = block_weight b + max (statements_nest v.0) (closing_depth b v.1)
depth closing_if v = 1
depth (an_expression c) v = place_weight c + expression_nest v.0
depth (a_tail c) v = place_weight c + tail_nest v.0
depth (a_more d c) v = place_weight c + more_nest v.0
depth (an_end c) v = place_weight c

shallow-closing : (b : Block) → closing_depth b (fill-closing b) ≤ 0
unfolding fill-closing
shallow-closing in_process = omega arith
shallow-closing in_then = omega arith
shallow-closing in_else = omega arith

-- a symbol has a value that opens no more than the symbol holds open
pub shallow : (X : Symbol) → depth X (fill X) ≤ weight X
unfolding fill
shallow a_design = omega arith
shallow a_name = omega arith
shallow an_integer = omega arith
shallow a_literal = omega arith
shallow a_unit = omega arith
shallow a_factor = omega arith
shallow a_primary = omega arith
shallow (the_word w) = omega arith
shallow signals = omega arith
shallow more_signals = omega arith
shallow initial_value = omega arith
shallow processes = omega arith
shallow process_body = omega arith
shallow more_listed = omega arith
shallow beginning = omega arith
shallow closing_name = omega arith
shallow (closing u) = omega arith
shallow (statements b) = let h = shallow-closing b in omega arith
shallow closing_if = omega arith
shallow (an_expression c) = omega arith
shallow (a_tail c) = omega arith
shallow (a_more d c) = omega arith
shallow (an_end c) = omega arith

-- A ROW KEEPS THE NESTING

abbrev pub Deep : (X : Symbol) → Token → Step Value X → Type 0
Deep X t s = (ws : Values Value s.push) → depth X (s.build ws) ≡ max (weight X) (nests Value weight depth s.push ws)

followed_deep : (X Y : Symbol) (zs : List Symbol) (g : Value Y → Values Value zs → Value X) (rs : List (Row Y)) → weight X ≡ weight Y + weights weight zs
    → ((v : Value Y) (vs : Values Value zs) → depth X (g v vs) ≡ max (depth Y v + weights weight zs) (nests Value weight depth zs vs))
    → ((vs : Values Value zs) → weights weight zs ≤ nests Value weight depth zs vs) → Every (Deep Y) rs → Every (Deep X) (followed_by zs g rs)
followed_deep X Y zs g [] w e l h = tt
followed_deep X Y zs g (row c ys b ∷ rs) w e l h = (
  λ a ws.
      let d = e (b a (front Value (ys a) zs ws)) (back Value (ys a) zs ws) in
      let m = h.0 a (front Value (ys a) zs ws) in
      let n = nests-split Value weight depth (ys a) zs ws (l (back Value (ys a) zs ws)) in
      omega arith,
  followed_deep X Y zs g rs w e l h.1,
)

word-deep : (w : Fixed) → Every (Deep (the_word w)) (word_rows w)
word-deep w = (λ a ws. omega arith, tt)

closing-name-deep : Every (Deep closing_name) closing_name_rows
closing-name-deep = (λ a ws. omega arith, followed_deep closing_name (the_word SEMICOLON) [] (λ _ _. none) (word_rows SEMICOLON) (omega arith) (λ v vs. omega arith) (λ vs. omega arith) (word-deep SEMICOLON))

end_deep : (c : Place) → Every (Deep (an_end c)) (end_rows c)
end_deep in_brackets = (λ a ws. omega arith, tt)
end_deep in_condition = followed_deep (an_end in_condition) (the_word THEN) [] (λ v _. v) (word_rows THEN) (omega arith) (λ v vs. omega arith) (λ vs. omega arith) (word-deep THEN)
end_deep in_assignment = (λ a ws. omega arith, followed_deep (an_end in_assignment) (the_word SEMICOLON) [] (λ _ _. immediate) (word_rows SEMICOLON) (omega arith) (λ v vs. omega arith) (λ vs. omega arith) (word-deep SEMICOLON))

primary-deep : Every (Deep a_primary) primary_rows
primary-deep = (λ a ws. omega arith, (λ a ws. omega arith, (λ a ws. omega arith, tt)))

factor-deep : Every (Deep a_factor) factor_rows
factor-deep = (λ a ws. omega arith, followed_deep a_factor a_primary [] (λ p _. plain p) primary_rows (omega arith) (λ v vs. omega arith) (λ vs. omega arith) primary-deep)

beginning-deep : Every (Deep beginning) beginning_rows
beginning-deep = (λ a ws. omega arith, followed_deep beginning (the_word BEGIN) [] (λ _ _. false) (word_rows BEGIN) (omega arith) (λ v vs. omega arith) (λ vs. omega arith) (word-deep BEGIN))

close_deep : (b : Block) → Every (Deep (statements b)) (close_rows b)
close_deep in_process = (λ a ws. omega arith, tt)
close_deep in_then = (λ a ws. omega arith, (λ a ws. omega arith, tt))
close_deep in_else = (λ a ws. omega arith, tt)

-- a statement that nests s, others that nest m, and what closes them, c, over w that are open
one_more : (w s m c x y : ℕ) → x ≡ s + w → y ≡ w + max m c → w + max (max s m) c ≡ max w (max x y)
one_more w s m c x y e f = omega arith

absorbed : (w x y z : ℕ) → x ≡ w → y ≡ w → max w (max x (max y z)) ≡ max w z
absorbed w x y z e f = omega arith

regrouped : (x y z : ℕ) → max x (max y z) ≡ max (max x y) z
regrouped x y z = omega arith

rows-deep : (X : Symbol) → Every (Deep X) (rows X)
rows-deep a_design = (λ a ws. simp (zero-max, max-zero) (omega arith), tt)
rows-deep a_name = (λ a ws. omega arith, tt)
rows-deep an_integer = (λ a ws. omega arith, tt)
rows-deep a_literal = (λ a ws. omega arith, tt)
rows-deep a_unit = (λ a ws. omega arith, tt)
rows-deep a_factor = factor-deep
rows-deep a_primary = primary-deep
rows-deep (the_word w) = word-deep w
rows-deep signals = (λ a ws. omega arith, (λ a ws. omega arith, tt))
rows-deep more_signals = (λ a ws. omega arith, (λ a ws. omega arith, tt))
rows-deep initial_value = (λ a ws. omega arith, followed_deep initial_value (the_word SEMICOLON) [] (λ _ _. none) (word_rows SEMICOLON) (omega arith) (λ v vs. omega arith) (λ vs. omega arith) (word-deep SEMICOLON))
rows-deep processes = (λ a ws. omega arith, (λ a ws. omega arith, (λ a ws. omega arith, tt)))
rows-deep process_body = (λ a ws. omega arith, followed_deep process_body beginning (statements in_process ∷ []) (λ i ws. (unlisted, (i, ws.0))) beginning_rows (omega arith) (λ v vs. omega arith) (λ vs. omega arith) beginning-deep)
rows-deep more_listed = (λ a ws. omega arith, (λ a ws. omega arith, tt))
rows-deep beginning = beginning-deep
rows-deep closing_name = closing-name-deep
rows-deep (closing u) = (λ a ws. omega arith, followed_deep (closing u) closing_name [] (λ o _. (false, o)) closing_name_rows (omega arith) (λ v vs. omega arith) (λ vs. omega arith) closing-name-deep)
rows-deep (statements b) = (
  λ a ws. one_more (block_weight b) (expression_nest ws.1.1.0.0) (statements_nest ws.1.1.1.0.0) (closing_depth b ws.1.1.1.0.1) _ _ (omega arith) (omega arith)
      ∙ sym (absorbed (block_weight b) _ _ _ (omega arith) (omega arith)),
  (
    λ a ws. one_more (block_weight b) (1 + max (expression_nest ws.0.0) (max (statements_nest ws.1.0.0) (otherwise_nest ws.1.0.1))) (statements_nest ws.1.1.0.0) (closing_depth b ws.1.1.0.1) _ _ (omega arith) (omega arith)
        ∙ ap (max (block_weight b)) (sym (regrouped _ _ _)),
    (λ a ws. omega arith, close_deep b),
  ),
)
rows-deep closing_if = (λ a ws. omega arith, tt)
rows-deep (an_expression c) = followed_deep (an_expression c) a_factor (a_tail c ∷ []) (λ f ws. (expression f ws.0.0, ws.0.1)) factor_rows (omega arith) (λ v vs. omega arith) (λ vs. omega arith) factor-deep
rows-deep (a_tail c) = (λ a ws. omega arith, (λ a ws. omega arith, followed_deep (a_tail c) (an_end c) [] (λ a _. (alone, a)) (end_rows c) (omega arith) (λ v vs. omega arith) (λ vs. omega arith) (end_deep c)))
rows-deep (a_more d c) = (λ a ws. omega arith, followed_deep (a_more d c) (an_end c) [] (λ a _. (enough, a)) (end_rows c) (omega arith) (λ v vs. omega arith) (λ vs. omega arith) (end_deep c))
rows-deep (an_end c) = end_deep c

pub deep : (X : Symbol) (t : Token) (s : Step Value X) → next X t ≡ some s → Deep X t s
deep X t s n = found (Deep X) (rows X) (rows-deep X) t s n
