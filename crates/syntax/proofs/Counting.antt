-- Refusal 4 read the other way: brackets and `if`s counted token by token, and 4 at the one that is the 33rd open.
-- The two readings agree: the same verdicts are right. Assumes nothing.
use mathlib.Core.Path.{◌≡◌, refl, sym, ap, ◌∙◌, subst}
use mathlib.Core.Bool.{Bool, true, false}
use mathlib.Core.Option.{Option, none, some}
use mathlib.Core.List.{List, [], ◌∷◌, ◌++◌, append_assoc}
use mathlib.Core.Logic.{◌↔◌}
use Prim.Native.Nat.{ℕ, zero, suc, ◌+◌, ◌-◌, ◌<◌, ◌≤◌}
use native.Mathlib.Omega.{arith}
use native.Mathlib.Decide.{dec_le}
use lib.ListN.{length, take}
use lib.Seq.{take_all}
use Rattle.laws.specs.Pick.{pick}
use Rattle.words.specs.Token.{Fixed, Fixed-discrete, END, BEGIN, PROCESS, IF, OPEN, CLOSE, SEMICOLON, THEN}
use Rattle.words.specs.Token.{Token, name, integer, literal, once, chain, unit, fixed, foreign}
use Rattle.syntax.specs.Tree.{expression, plain, alone, enough, immediate, unlisted, Design, design_text}
use Rattle.syntax.specs.Sentence.{most_open, Viable, Stuck, Verdict, accepted, refused3, refused4, Right}
use Rattle.syntax.proofs.Machine.{Values, Step, weights, weights-append, later, made, limited, taking}
use Rattle.syntax.proofs.Rows.{Place, in_brackets, in_condition, in_assignment, Block, in_process, in_then, in_else, entity_part, architecture_part}
use Rattle.syntax.proofs.Rows.{Symbol, a_design, a_name, an_integer, a_literal, a_unit, a_factor, a_primary, the_word, signals, more_signals, initial_value, processes, process_body, more_listed, beginning, closing_name, closing, statements, closing_if, an_expression, a_tail, a_more, an_end}
use Rattle.syntax.proofs.Rows.{Value, Row, row, rows, next, token_of, followed_by, word_rows, closing_name_rows, end_rows, close_rows, primary_rows, factor_rows, beginning_rows, Every, found}
use Rattle.syntax.proofs.Nesting.{weight}
use Rattle.syntax.proofs.Theorem.{run, read, read_right, one_tree, one_verdict, viable-within, not_stuck, last_viable, one_stuck}

-- COUNTING

abbrev same : {w u : Fixed} → Dec (w ≡ u) → Bool
same (yes _) = true
same (no _) = false

abbrev pub is : Fixed → Token → Bool
is w (name n) = false
is w (integer n) = false
is w (literal b) = false
is w (once o) = false
is w (chain c) = false
is w (unit u) = false
is w (fixed u) = same (Fixed-discrete w u)
is w foreign = false

-- how many are open after the token t, where n are open before it and p is the token before it:
-- `(` opens, but not behind `process`; `if` opens, but behind `end` it closes; `)` closes, where one is open (in a sensitivity list none is)
abbrev pub open_at : (p t : Token) → ℕ → ℕ
open_at p t n = pick (is OPEN t) (pick (is PROCESS p) n (suc n)) (pick (is IF t) (pick (is END p) (n - 1) (suc n)) (pick (is CLOSE t) (n - 1) n))

abbrev pub open_from : List Token → Token → ℕ → ℕ
open_from [] p n = n
open_from (t ∷ ts) p n = open_from ts t (open_at p t n)

-- how many brackets and `if`s the tokens leave open
abbrev pub open_after : List Token → ℕ
open_after ts = open_from ts (fixed SEMICOLON) 0

-- none of the first k tokens is the 33rd open
abbrev pub Shallow : List Token → ℕ → Type 0
Shallow ts k = (j : ℕ) → j ≤ k → open_after (take j ts) ≤ most_open

pub record Counted3 (ts : List Token) (k : ℕ) : Type 0 where
  pub viable : Viable (take k ts)
  pub here : Stuck ts k
  pub shallow : Shallow ts k

-- token k is the 33rd open, the first, and a sentence, sizes aside, can go on with it
pub record Counted4 (ts : List Token) (k : ℕ) : Type 0 where
  pub viable : Viable (take (suc k) ts)
  pub before : open_after (take k ts) ≡ most_open
  pub after : open_after (take (suc k) ts) ≡ suc most_open
  pub shallow : Shallow ts k

abbrev pub RightByCount : List Token → Verdict Design → Type 0
RightByCount ts (accepted d) = (design_text d ≡ ts) × Shallow ts (length ts)
RightByCount ts (refused3 k) = Counted3 ts k
RightByCount ts (refused4 k) = Counted4 ts k

-- WHAT A STACK HOLDS OPEN IS WHAT THE TOKENS BEFORE IT LEAVE OPEN

-- behind this token a bracket and an `if` open
abbrev Calm : Token → Type 0
Calm p = (is PROCESS p ≡ false) × (is END p ≡ false)

-- the symbol may stand behind the token p
abbrev Follows : Symbol → Token → Type 0
Follows a_design p = Unit
Follows a_name p = Unit
Follows an_integer p = Unit
Follows a_literal p = Unit
Follows a_unit p = Unit
Follows a_factor p = Calm p
Follows a_primary p = Calm p
Follows (the_word w) p = (n : ℕ) → open_at p (fixed w) n ≡ n
Follows signals p = Unit
Follows more_signals p = Unit
Follows initial_value p = Unit
Follows processes p = Unit
Follows process_body p = is PROCESS p ≡ true
Follows more_listed p = Unit
Follows beginning p = Unit
Follows closing_name p = Unit
Follows (closing u) p = Unit
Follows (statements b) p = Calm p
Follows closing_if p = is END p ≡ true
Follows (an_expression c) p = Calm p
Follows (a_tail c) p = Unit
Follows (a_more d c) p = Unit
Follows (an_end c) p = Unit

-- its text may end with the token q
abbrev Ends : Symbol → Token → Type 0
Ends a_design q = Calm q
Ends a_name q = Calm q
Ends an_integer q = Calm q
Ends a_literal q = Calm q
Ends a_unit q = Calm q
Ends a_factor q = Calm q
Ends a_primary q = Calm q
Ends (the_word w) q = q ≡ fixed w
Ends signals q = Calm q
Ends more_signals q = Calm q
Ends initial_value q = Calm q
Ends processes q = Unit
Ends process_body q = Calm q
Ends more_listed q = Calm q
Ends beginning q = Calm q
Ends closing_name q = Calm q
Ends (closing u) q = Calm q
Ends (statements b) q = Calm q
Ends closing_if q = Calm q
Ends (an_expression c) q = Calm q
Ends (a_tail c) q = Calm q
Ends (a_more d c) q = Calm q
Ends (an_end c) q = Calm q

-- it may stand where w are open
abbrev Level : Symbol → ℕ → Type 0
Level a_design w = w ≡ 0
Level a_name w = Unit
Level an_integer w = Unit
Level a_literal w = Unit
Level a_unit w = Unit
Level a_factor w = Unit
Level a_primary w = Unit
Level (the_word _) w = Unit
Level signals w = Unit
Level more_signals w = Unit
Level initial_value w = Unit
Level processes w = w ≡ 0
Level process_body w = w ≡ 0
Level more_listed w = w ≡ 0
Level beginning w = Unit
Level closing_name w = Unit
Level (closing u) w = Unit
Level (statements b) w = Unit
Level closing_if w = Unit
Level (an_expression c) w = Unit
Level (a_tail c) w = Unit
Level (a_more d c) w = Unit
Level (an_end c) w = Unit

-- the stack may stand behind the token p
abbrev Stands : Token → List Symbol → Type 0
Stands p [] = Unit
Stands p (X ∷ ss) = Follows X p × Level X (weights weight ss) × ((q : Token) → Ends X q → Stands q ss)

-- a step counts as the token does, and leaves a stack that may stand behind it
abbrev Keeps : (X : Symbol) → Token → Step Value X → Type 0
Keeps X t s = (p : Token) → Follows X p → (ss : List Symbol) → Level X (weights weight ss) → ((q : Token) → Ends X q → Stands q ss)
    → (open_at p t (weight X + weights weight ss) ≡ weights weight (s.push ++ ss)) × Stands t (s.push ++ ss)

bracket_opens : (p : Token) → is PROCESS p ≡ false → (n : ℕ) → open_at p (fixed OPEN) n ≡ suc n
bracket_opens p e n = ap (λ b. pick b n (suc n)) e

list_opens_none : (p : Token) → is PROCESS p ≡ true → (n : ℕ) → open_at p (fixed OPEN) n ≡ n
list_opens_none p e n = ap (λ b. pick b n (suc n)) e

if_opens : (p : Token) → is END p ≡ false → (n : ℕ) → open_at p (fixed IF) n ≡ suc n
if_opens p e n = ap (λ b. pick b (n - 1) (suc n)) e

end_if_closes : (p : Token) → is END p ≡ true → (n : ℕ) → open_at p (fixed IF) n ≡ n - 1
end_if_closes p e n = ap (λ b. pick b (n - 1) (suc n)) e

-- behind a word
behind : (P : Token → Type 0) {w : Fixed} {q : Token} → q ≡ fixed w → P (fixed w) → P q
behind P e h = subst P (sym e) h

followed_keeps : (X Y : Symbol) (zs : List Symbol) (g : Value Y → Values Value zs → Value X) (rs : List (Row Y)) → weight X ≡ weight Y + weights weight zs
    → ((p : Token) → Follows X p → Follows Y p) → ((w : ℕ) → Level X w → Level Y (weights weight zs + w))
    → ((ss : List Symbol) → ((q : Token) → Ends X q → Stands q ss) → (q : Token) → Ends Y q → Stands q (zs ++ ss))
    → Every (Keeps Y) rs → Every (Keeps X) (followed_by zs g rs)
followed_keeps X Y zs g [] e f l z h = tt
followed_keeps X Y zs g (row c ys b ∷ rs) e f l z h = (
  λ a p i ss j below.
      let w = weights-append weight zs ss in
      let (n, st) = h.0 a p (f p i) (zs ++ ss) (subst (Level Y) (sym w) (l _ j)) (z ss below) in
      rw append_assoc (ap (open_at p (token_of c a)) (omega arith) ∙ n, st),
  followed_keeps X Y zs g rs e f l z h.1,
)

word_keeps : (w : Fixed) → Every (Keeps (the_word w)) (word_rows w)
word_keeps w = (λ a p f ss _ below. (f _ ∙ omega arith, below (fixed w) refl), tt)

closing-name-keeps : Every (Keeps closing_name) closing_name_rows
closing-name-keeps = (
  λ a p _ ss _ below. (omega arith, (λ n. refl, tt, λ q z. below q (behind Calm z (refl, refl)))),
  followed_keeps closing_name (the_word SEMICOLON) [] (λ _ _. none) (word_rows SEMICOLON) (omega arith) (λ p _ n. refl) (λ w _. tt) (λ ss below q z. below q (behind Calm z (refl, refl))) (word_keeps SEMICOLON),
)

end_keeps : (c : Place) → Every (Keeps (an_end c)) (end_rows c)
end_keeps in_brackets = (λ a p _ ss _ below. (omega arith, below (fixed CLOSE) (refl, refl)), tt)
end_keeps in_condition = followed_keeps (an_end in_condition) (the_word THEN) [] (λ v _. v) (word_rows THEN) (omega arith) (λ p _ n. refl) (λ w _. tt) (λ ss below q z. below q (behind Calm z (refl, refl))) (word_keeps THEN)
end_keeps in_assignment = (
  λ a p _ ss _ below. (omega arith, (tt, tt, λ _ _. (tt, tt, λ _ _. (λ n. refl, tt, λ q z. below q (behind Calm z (refl, refl)))))),
  followed_keeps (an_end in_assignment) (the_word SEMICOLON) [] (λ _ _. immediate) (word_rows SEMICOLON) (omega arith) (λ p _ n. refl) (λ w _. tt) (λ ss below q z. below q (behind Calm z (refl, refl))) (word_keeps SEMICOLON),
)

primary-keeps : Every (Keeps a_primary) primary_rows
primary-keeps = (
  λ a p _ ss _ below. (omega arith, below (name a) (refl, refl)),
  (
    λ a p _ ss _ below. (omega arith, below (literal a) (refl, refl)),
    (λ a p f ss _ below. (bracket_opens p f.0 _ ∙ omega arith, ((refl, refl), tt, below)), tt),
  ),
)

factor-keeps : Every (Keeps a_factor) factor_rows
factor-keeps = (λ a p _ ss _ below. (omega arith, ((refl, refl), tt, below)), followed_keeps a_factor a_primary [] (λ p _. plain p) primary_rows (omega arith) (λ p h. h) (λ w _. tt) (λ ss below. below) primary-keeps)

beginning-keeps : Every (Keeps beginning) beginning_rows
beginning-keeps = (
  λ a p _ ss _ below. (omega arith, (λ n. refl, tt, λ q z. below q (behind Calm z (refl, refl)))),
  followed_keeps beginning (the_word BEGIN) [] (λ _ _. false) (word_rows BEGIN) (omega arith) (λ p _ n. refl) (λ w _. tt) (λ ss below q z. below q (behind Calm z (refl, refl))) (word_keeps BEGIN),
)

close_keeps : (b : Block) → Every (Keeps (statements b)) (close_rows b)
close_keeps in_process = (λ a p _ ss _ below. (omega arith, (λ n. refl, tt, λ _ _. (tt, tt, below))), tt)
close_keeps in_then = (
  λ a p _ ss _ below. (omega arith, ((refl, refl), tt, below)),
  (λ a p _ ss _ below. (omega arith, (refl, tt, below)), tt),
)
close_keeps in_else = (λ a p _ ss _ below. (omega arith, (refl, tt, below)), tt)

rows_keep : (X : Symbol) → Every (Keeps X) (rows X)
rows_keep a_design = (
  λ a p _ ss h below. (
    omega arith,
    (
      tt,
      tt,
      λ _ _. (
        λ n. refl,
        tt,
        λ _ _. (
          λ n. refl,
          tt,
          λ _ _. (
            tt,
            tt,
            λ _ _. (
              λ n. refl,
              tt,
              λ _ _. (
                tt,
                tt,
                λ _ _. (
                  λ n. refl,
                  tt,
                  λ _ _.
                      (tt, tt, λ _ _. (λ n. refl, tt, λ _ _. (tt, tt, λ _ _. (tt, omega arith, λ _ _. (tt, tt, below))))),
                ),
              ),
            ),
          ),
        ),
      ),
    ),
  ),
  tt,
)
rows_keep a_name = (λ a p _ ss _ below. (omega arith, below (name a) (refl, refl)), tt)
rows_keep an_integer = (λ a p _ ss _ below. (omega arith, below (integer a) (refl, refl)), tt)
rows_keep a_literal = (λ a p _ ss _ below. (omega arith, below (literal a) (refl, refl)), tt)
rows_keep a_unit = (λ a p _ ss _ below. (omega arith, below (unit a) (refl, refl)), tt)
rows_keep a_factor = factor-keeps
rows_keep a_primary = primary-keeps
rows_keep (the_word w) = word_keeps w
rows_keep signals = (
  λ a p _ ss _ below. (omega arith, (tt, tt, λ _ _. (tt, tt, λ _ _. (tt, tt, below)))),
  (λ a p _ ss _ below. (omega arith, below (fixed BEGIN) (refl, refl)), tt),
)
rows_keep more_signals = (
  λ a p _ ss _ below. (omega arith, (tt, tt, λ _ _. (tt, tt, below))),
  (λ a p _ ss _ below. (omega arith, (λ n. refl, tt, λ _ _. (tt, tt, below))), tt),
)
rows_keep initial_value = (
  λ a p _ ss _ below. (omega arith, (tt, tt, λ _ _. (λ n. refl, tt, λ q z. below q (behind Calm z (refl, refl))))),
  followed_keeps initial_value (the_word SEMICOLON) [] (λ _ _. none) (word_rows SEMICOLON) (omega arith) (λ p _ n. refl) (λ w _. tt) (λ ss below q z. below q (behind Calm z (refl, refl))) (word_keeps SEMICOLON),
)
rows_keep processes = (
  λ a p _ ss h below. (
    omega arith,
    (λ n. refl, tt, λ _ _. (λ n. refl, tt, λ q z. (behind (Follows process_body) z refl, omega arith, λ _ _. (tt, h, below)))),
  ),
  (
    λ a p _ ss h below. (omega arith, (refl, omega arith, λ _ _. (tt, h, below))),
    (λ a p _ ss _ below. (omega arith, below (fixed END) tt), tt),
  ),
)
rows_keep process_body = (
  λ a p f ss h below. (list_opens_none p f _ ∙ omega arith, (tt, tt, λ _ _. (tt, omega arith, λ _ _. (tt, tt, λ q z. (z, tt, below))))),
  followed_keeps process_body beginning (statements in_process ∷ []) (λ i ws. (unlisted, (i, ws.0))) beginning_rows (omega arith) (λ p _. tt) (λ w _. tt) (λ ss below q z. (z, tt, below)) beginning-keeps,
)
rows_keep more_listed = (
  λ a p _ ss h below. (omega arith, (tt, tt, λ _ _. (tt, h, below))),
  (λ a p _ ss h below. (omega arith, below (fixed CLOSE) (refl, refl)), tt),
)
rows_keep beginning = beginning-keeps
rows_keep closing_name = closing-name-keeps
rows_keep (closing entity_part) = (
  λ a p _ ss _ below. (omega arith, (tt, tt, below)),
  followed_keeps (closing entity_part) closing_name [] (λ o _. (false, o)) closing_name_rows (omega arith) (λ p h. h) (λ w _. tt) (λ ss below. below) closing-name-keeps,
)
rows_keep (closing architecture_part) = (
  λ a p _ ss _ below. (omega arith, (tt, tt, below)),
  followed_keeps (closing architecture_part) closing_name [] (λ o _. (false, o)) closing_name_rows (omega arith) (λ p h. h) (λ w _. tt) (λ ss below. below) closing-name-keeps,
)
rows_keep (statements b) = (
  λ a p _ ss _ below. (
    omega arith,
    (λ n. refl, tt, λ _ _. (λ n. refl, tt, λ q z. (behind Calm z (refl, refl), tt, λ q z. (z, tt, below)))),
  ),
  (
    λ a p f ss _ below. (if_opens p f.1 _ ∙ omega arith, ((refl, refl), tt, λ q z. (z, tt, λ q z. (z, tt, below)))),
    (λ a p _ ss _ below. (omega arith, (λ n. refl, tt, λ q z. (behind Calm z (refl, refl), tt, below))), close_keeps b),
  ),
)
rows_keep closing_if = (λ a p f ss _ below. (end_if_closes p f _ ∙ omega arith, (λ n. refl, tt, λ q z. below q (behind Calm z (refl, refl)))), tt)
rows_keep (an_expression c) = followed_keeps (an_expression c) a_factor (a_tail c ∷ []) (λ f ws. (expression f ws.0.0, ws.0.1)) factor_rows (omega arith) (λ p h. h) (λ w _. tt)
    (λ ss below q z. (tt, tt, below)) factor-keeps
rows_keep (a_tail c) = (
  λ a p _ ss _ below. (omega arith, ((refl, refl), tt, λ _ _. (tt, tt, below))),
  (λ a p _ ss _ below. (omega arith, ((refl, refl), tt, λ _ _. (tt, tt, below))), followed_keeps (a_tail c) (an_end c) [] (λ a _. (alone, a)) (end_rows c) (omega arith) (λ p h. h) (λ w _. tt) (λ ss below. below) (end_keeps c)),
)
rows_keep (a_more d c) = (
  λ a p _ ss _ below. (omega arith, ((refl, refl), tt, λ _ _. (tt, tt, below))),
  followed_keeps (a_more d c) (an_end c) [] (λ a _. (enough, a)) (end_rows c) (omega arith) (λ p h. h) (λ w _. tt) (λ ss below. below) (end_keeps c),
)
rows_keep (an_end c) = end_keeps c

keeps : (X : Symbol) (t : Token) (s : Step Value X) → next X t ≡ some s → Keeps X t s
keeps X t s n = found (Keeps X) (rows X) (rows_keep X) t s n

-- THE MACHINE COUNTS

abbrev ShallowFrom : List Token → Token → ℕ → ℕ → Type 0
ShallowFrom ts p n k = (j : ℕ) → j ≤ k → open_from (take j ts) p n ≤ most_open

-- what the count says of a verdict
abbrev Counted : {D : Type 0} → List Token → Token → ℕ → Verdict D → Type 0
Counted ts p n (accepted d) = ShallowFrom ts p n (length ts)
Counted ts p n (refused3 k) = ShallowFrom ts p n k
Counted ts p n (refused4 k) = ShallowFrom ts p n k × (most_open < open_from (take (suc k) ts) p n)

shallow-none : (ts : List Token) (p : Token) (n : ℕ) → n ≤ most_open → ShallowFrom ts p n 0
shallow-none ts p n h zero l = h
shallow-none ts p n h (suc j) l = absurd (omega arith)

shallow_more : (t : Token) (ts : List Token) (p : Token) (n k : ℕ) → n ≤ most_open → ShallowFrom ts t (open_at p t n) k → ShallowFrom (t ∷ ts) p n (suc k)
shallow_more t ts p n k h g zero l = h
shallow_more t ts p n k h g (suc j) l = g j (omega arith)

counted-later : {D : Type 0} (t : Token) (ts : List Token) (p : Token) (n : ℕ) → n ≤ most_open
    → (v : Verdict D) → Counted ts t (open_at p t n) v → Counted (t ∷ ts) p n (later v)
counted-later t ts p n h (accepted d) g = shallow_more t ts p n (length ts) h g
counted-later t ts p n h (refused3 k) g = shallow_more t ts p n k h g
counted-later t ts p n h (refused4 k) (g, l) = (shallow_more t ts p n k h g, l)

run-counted : {D : Type 0} (ts : List Token) (p : Token) (ss : List Symbol) (k : Values Value ss → D)
    → Stands p ss → weights weight ss ≤ most_open → Counted ts p (weights weight ss) (run ts ss k)
run-counted [] p [] k st h = shallow-none [] p 0 h
run-counted [] p (X ∷ ss) k st h = shallow-none [] p (weights weight (X ∷ ss)) h
run-counted (t ∷ ts) p [] k st h = shallow-none (t ∷ ts) p 0 h
run-counted (t ∷ ts) p (X ∷ ss) k (f, l, below) h = go (next X t) refl (λ s st h. run-counted ts t (s.push ++ ss) (λ us. k (made Value s ss us)) st h)
  where
    go : (o : Option (Step Value X)) → next X t ≡ o
        → ((s : Step Value X) → Stands t (s.push ++ ss) → weights weight (s.push ++ ss) ≤ most_open
        → Counted ts t (weights weight (s.push ++ ss)) (run ts (s.push ++ ss) (λ us. k (made Value s ss us))))
        → Counted (t ∷ ts) p (weights weight (X ∷ ss)) (taking Value next weight most_open o ts ss k)
    go none n ih = shallow-none (t ∷ ts) p (weights weight (X ∷ ss)) h
    go (some s) n ih = limit (dec_le (weights weight (s.push ++ ss)) most_open) (keeps X t s n p f ss l below)
      where
        limit : (d : Dec (weights weight (s.push ++ ss) ≤ most_open))
            → (open_at p t (weight X + weights weight ss) ≡ weights weight (s.push ++ ss)) × Stands t (s.push ++ ss)
            → Counted (t ∷ ts) p (weights weight (X ∷ ss)) (limited Value next weight most_open s d ts ss k)
        limit (yes m) (e, st) = counted-later t ts p (weights weight (X ∷ ss)) h (run ts (s.push ++ ss) (λ us. k (made Value s ss us)))
            (subst (λ n. Counted ts t n (run ts (s.push ++ ss) (λ us. k (made Value s ss us)))) (sym e) (ih s st m))
        limit (no m) (e, st) = (shallow-none (t ∷ ts) p (weights weight (X ∷ ss)) h, omega arith)

-- a token opens no more than one
open_one : (p t : Token) (n : ℕ) → open_at p t n ≤ suc n
open_one p t n = go (is OPEN t) (is PROCESS p) (is IF t) (is END p) (is CLOSE t)
  where
    go : (a b c d e : Bool) → pick a (pick b n (suc n)) (pick c (pick d (n - 1) (suc n)) (pick e (n - 1) n)) ≤ suc n
    go true true c d e = omega arith
    go true false c d e = omega arith
    go false b true true e = omega arith
    go false b true false e = omega arith
    go false b false d true = omega arith
    go false b false d false = omega arith

next_open : (ts : List Token) (p : Token) (n k : ℕ) → open_from (take (suc k) ts) p n ≤ suc (open_from (take k ts) p n)
next_open [] p n zero = omega arith
next_open [] p n (suc k) = omega arith
next_open (t ∷ ts) p n zero = open_one p t n
next_open (t ∷ ts) p n (suc k) = next_open ts t (open_at p t n) k

-- THE TWO READINGS AGREE

read_by_count : (ts : List Token) → RightByCount ts (read ts)
unfolding read
read_by_count ts = go (run ts (a_design ∷ []) (λ vs. vs.0)) (read_right ts)
    (run-counted ts (fixed SEMICOLON) (a_design ∷ []) (λ vs. vs.0) (tt, refl, λ _ _. tt) (omega arith))
  where
    go : (v : Verdict Design) → Right ts v → Counted ts (fixed SEMICOLON) 0 v → RightByCount ts v
    go (accepted d) r c = (r.0, c)
    go (refused3 k) r c = record { viable = viable-within ts k r.before; here = r.here; shallow = c }
    go (refused4 k) r (c, l) =
        let m = next_open ts (fixed SEMICOLON) 0 k in
        let z = c k (omega arith) in
        record { viable = r.viable; before = omega arith; after = omega arith; shallow = c }

module _ (ts : List Token) where
  place : (k : ℕ) → Counted4 ts k → suc k ≤ length ts
  place k a = go (dec_le (length ts) k)
    where
      go : Dec (length ts ≤ k) → suc k ≤ length ts
      go (no h) = omega arith
      go (yes h) = let e = ap open_after (take_all k ts h ∙ sym (take_all (suc k) ts (omega arith))) in omega (arith, a.before, a.after)

  not_3_and_4 : (j k : ℕ) → Counted3 ts j → ¬ Counted4 ts k
  not_3_and_4 j k a b =
      let l = a.shallow (suc k) (last_viable ts j (suc k) a.here (place k b) b.viable) in
      omega (arith, b.after)

  one_by_count : (u v : Verdict Design) → RightByCount ts u → RightByCount ts v → u ≡ v
  one_by_count (accepted d) (accepted d') a b = ap accepted (one_tree d d' (a.0 ∙ sym b.0))
  one_by_count (accepted d) (refused3 k) a b = absurd (not_stuck ts (d, a.0) k b.here)
  one_by_count (accepted d) (refused4 k) a b = absurd (omega (arith, a.1 (suc k) (place k b), b.after))
  one_by_count (refused3 k) (accepted d) a b = absurd (not_stuck ts (d, b.0) k a.here)
  one_by_count (refused3 j) (refused3 k) a b = ap refused3 (one_stuck ts j k a.here a.viable b.here b.viable)
  one_by_count (refused3 j) (refused4 k) a b = absurd (not_3_and_4 j k a b)
  one_by_count (refused4 k) (accepted d) a b = absurd (omega (arith, b.1 (suc k) (place k a), a.after))
  one_by_count (refused4 k) (refused3 j) a b = absurd (not_3_and_4 j k b a)
  one_by_count (refused4 j) (refused4 k) a b =
      let p : ¬ (j < k) = λ h. omega (arith, b.shallow (suc j) h, a.after) in
      let q : ¬ (k < j) = λ h. omega (arith, a.shallow (suc k) h, b.after) in
      ap refused4 (omega arith)

pub thirty_third : (ts : List Token) (v : Verdict Design) → Right ts v ↔ RightByCount ts v
thirty_third ts v = (
  λ r. subst (RightByCount ts) (one_verdict ts (read ts) v (read_right ts) r) (read_by_count ts),
  λ c. subst (Right ts) (one_by_count ts (read ts) v (read_by_count ts) c) (read_right ts),
)
