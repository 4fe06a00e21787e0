-- Refusals 5 to 10: a design's tokens judged from left to right, each in its role.
-- First in the text, and at one token the lower number first. Assumes nothing: these are definitions.
use Rattle.std.specs.Prelude.{ℕ, zero, suc, ◌+◌, ◌*◌, ◌<◌, ◌≡◌, Bool, true, false, not, ◌||◌, ◌⊎◌, List, [], ◌∷◌, ◌++◌, eqb, ltb, length}
use Rattle.std.proofs.Math.Option.{Option, none, some}
use Rattle.laws.specs.Pick.{pick, same_list}
use Rattle.words.specs.Token.{Name}
use Rattle.words.specs.Unit.{femtoseconds_of, longest}
use Rattle.syntax.specs.Tree.{Design}
use Rattle.rules.specs.Sizes.{most_signals, most_processes, most_instructions}
use Rattle.names.specs.Roles.{Role, declares, labels, listens, reads, assigns, belongs, closes, opens, delays, counts, passes, design_roles}

-- TESTS

abbrev pub is_among : Name → List Name → Bool
is_among n [] = false
is_among n (m ∷ ms) = same_list m n || is_among n ms

-- the number of a name in a list of names, counted from 0; the length of the list where it is not there
abbrev pub number_of : Name → List Name → ℕ
number_of n [] = 0
number_of n (m ∷ ms) = pick (same_list m n) 0 (suc (number_of n ms))

abbrev pub has : ℕ → List ℕ → Bool
has k [] = false
has k (j ∷ js) = eqb j k || has k js

-- a closing name must be the name of what it closes
abbrev pub differs : (opened : Option Name) (here : Name) → Bool
differs none n = true
differs (some m) n = not (same_list m n)

-- WHAT THE TOKENS SO FAR SAY

pub record State : Type 0 where
  -- the signals, in declared order, and the labels
  pub signal_names : List Name
  pub label_names : List Name
  -- how many processes have been opened
  pub processes : ℕ
  -- the numbers of the signals that the processes before this one assign, and of those that this one does
  pub earlier : List ℕ
  pub current : List ℕ
  pub instructions : ℕ

-- before the first token
abbrev pub nothing_yet : State
nothing_yet = record { signal_names = []; label_names = []; processes = 0; earlier = []; current = []; instructions = 0 }

abbrev pub declared : Name → State → State
declared n y =
    record {
      signal_names = y.signal_names ++ (n ∷ []);
      label_names = y.label_names;
      processes = y.processes;
      earlier = y.earlier;
      current = y.current;
      instructions = y.instructions;
    }

abbrev pub labelled : Name → State → State
labelled n y =
    record {
      signal_names = y.signal_names;
      label_names = n ∷ y.label_names;
      processes = y.processes;
      earlier = y.earlier;
      current = y.current;
      instructions = y.instructions;
    }

abbrev pub opened : State → State
opened y =
    record {
      signal_names = y.signal_names;
      label_names = y.label_names;
      processes = y.processes + 1;
      earlier = y.current ++ y.earlier;
      current = [];
      instructions = y.instructions;
    }

abbrev pub assigned : ℕ → State → State
assigned k y =
    record {
      signal_names = y.signal_names;
      label_names = y.label_names;
      processes = y.processes;
      earlier = y.earlier;
      current = k ∷ y.current;
      instructions = y.instructions;
    }

abbrev pub counted : ℕ → State → State
counted k y =
    record {
      signal_names = y.signal_names;
      label_names = y.label_names;
      processes = y.processes;
      earlier = y.earlier;
      current = y.current;
      instructions = y.instructions + k;
    }

-- a token has been judged: it changes what is known by its role
abbrev pub next : State → Role → State
next y (declares n) = declared n y
next y (labels n) = labelled n y
next y (listens n) = y
next y (reads n) = counted 1 y
next y (assigns n) = counted 1 (assigned (number_of n y.signal_names) y)
next y (belongs e n) = y
next y (closes o n) = y
next y opens = opened y
next y (delays n u) = y
next y (counts k) = counted k y
next y passes = y

-- THE TABLE: each number that a role may be refused with, and when, in rising order

abbrev pub undeclared : Name → State → Bool
undeclared n y = not (is_among n y.signal_names)

abbrev pub used : Name → State → Bool
used n y = is_among n y.signal_names || is_among n y.label_names

abbrev pub overfull : ℕ → State → Bool
overfull k y = ltb most_instructions (y.instructions + k)

abbrev pub faults : State → Role → List (ℕ × Bool)
faults y (declares n) = (6, used n y) ∷ (10, ltb most_signals (length y.signal_names + 1)) ∷ []
faults y (labels n) = (6, used n y) ∷ []
faults y (listens n) = (5, undeclared n y) ∷ []
faults y (reads n) = (5, undeclared n y) ∷ (10, overfull 1 y) ∷ []
faults y (assigns n) = (5, undeclared n y) ∷ (9, has (number_of n y.signal_names) y.earlier) ∷ (10, overfull 1 y) ∷ []
faults y (belongs e n) = (5, not (same_list e n)) ∷ []
faults y (closes o n) = (7, differs o n) ∷ []
faults y opens = (10, ltb most_processes (y.processes + 1)) ∷ []
faults y (delays n u) = (8, ltb longest (n * femtoseconds_of u)) ∷ []
faults y (counts k) = (10, overfull k y) ∷ []
faults y passes = []

-- THE FOLD, which computes what THE SENTENCES below say: `decides` of proofs/Verdict

pub data Judgement : Type 0 where
  fine : State → Judgement
  refused : (number place : ℕ) → Judgement

abbrev pub onward : Judgement → (State → Judgement) → Judgement
onward (fine y) f = f y
onward (refused n p) f = refused n p

-- the first number of the table that applies, at the place p; where none does, y
abbrev pub lowest : List (ℕ × Bool) → ℕ → State → Judgement
lowest [] p y = fine y
lowest (row ∷ rows) p y = pick row.1 (refused row.0 p) (lowest rows p y)

abbrev pub judge : State → Role → ℕ → Judgement
judge y r p = lowest (faults y r) p (next y r)

-- tokens with their roles and the places where they start, as many of both
unfoldable pub judged : State → List Role → List ℕ → Judgement
judged y [] ps = fine y
judged y (r ∷ rs) [] = fine y
judged y (r ∷ rs) (p ∷ ps) = onward (judge y r p) (λ z. judged z rs ps)

-- a design whose tokens start at the places ps
abbrev pub judged_design : Design → List ℕ → Judgement
judged_design d ps = judged nothing_yet (design_roles d) ps

-- THE SENTENCES: what the fold is said to decide

abbrev pub Holds : ℕ → List (ℕ × Bool) → Type 0
Holds n [] = ⊥
Holds n (row ∷ rows) = ((row.0 ≡ n) × (row.1 ≡ true)) ⊎ Holds n rows

-- refusal n applies at token k
abbrev pub AppliesFrom : State → List Role → ℕ → ℕ → Type 0
AppliesFrom y [] k n = ⊥
AppliesFrom y (r ∷ rs) zero n = Holds n (faults y r)
AppliesFrom y (r ∷ rs) (suc k) n = AppliesFrom (next y r) rs k n

abbrev pub Applies : Design → ℕ → ℕ → Type 0
Applies d k n = AppliesFrom nothing_yet (design_roles d) k n

-- at token k and no earlier one something applies, and the lowest that applies there is n
pub record First (Applying : ℕ → ℕ → Type 0) (k n : ℕ) : Type 0 where
  pub applies : Applying k n
  pub lower_not : (m : ℕ) → m < n → ¬ Applying k m
  pub earlier_not : (j m : ℕ) → j < k → ¬ Applying j m

-- none of refusals 5 to 10 applies anywhere
abbrev pub Faultless : Design → Type 0
Faultless d = (k n : ℕ) → ¬ Applies d k n
