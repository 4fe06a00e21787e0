-- Refusals 5 to 10, each with a design that gets it and one beside it that does not; P11 of document 01; and the circuit of case A.
-- An answer is its number and the number of its token; (0, 0) where the design is accepted. Assumes nothing.
use Rattle.std.specs.Prelude.{ℕ, zero, suc, ◌+◌, ◌≡◌, refl, true, false, List, [], ◌∷◌, ◌++◌}
use Rattle.std.proofs.Math.Option.{none, some}
use Rattle.laws.specs.Pick.{same_list}
use Rattle.laws.specs.Text.{bytes}
use Rattle.words.specs.declared.unit.TimeUnit.TheVariants.{Fs, Ns, Sec, Hr}
use Rattle.words.specs.Token.{Name, AND}
use Rattle.syntax.specs.Tree.{Expression, More, Factor, expression, alone, chained, enough, more, plain, negated, named, constant}
use Rattle.syntax.specs.Tree.{Delay, Statements, Statement, immediate, after, done, also, assignment, conditional, missing}
use Rattle.syntax.specs.Tree.{Declaration, Process, Design, declaration, unlisted, listed, process, design}
use Rattle.syntax.specs.Circuit.{Formula, Actions}
use Rattle.names.specs.Roles.{Role, design_roles}
use Rattle.names.specs.Judge.{Judgement, fine, refused, judged, judged_design}
use Rattle.names.specs.CircuitOf.{circuit_of, entity_name, signal_names}

-- tokens counted from k
abbrev count_from : ℕ → List Role → List ℕ
count_from k [] = []
count_from k (r ∷ rs) = k ∷ count_from (k + 1) rs

abbrev numbered : Judgement → ℕ × ℕ
numbered (fine y) = (0, 0)
numbered (refused n k) = (n, k)

answer : Design → ℕ × ℕ
unfolding judged same_list
answer d = numbered (judged_design d (count_from 0 (design_roles d)))

-- DESIGNS

abbrev q : Name
q = bytes "q"

abbrev d : Name
d = bytes "d"

-- entity e is end; architecture a of e is .. begin .. end; the first declaration begins at token 10
abbrev over : List Declaration → List Process → Design
over ds ps = design (bytes "e") false none (bytes "a") (bytes "e") ds ps false none

-- signal q, d : boolean; the first process begins at token 18
abbrev pair : List Process → Design
pair ps = over (declaration q (d ∷ []) none ∷ []) ps

-- process begin .. end process; the first statement begins two tokens after the process
abbrev does : Statements → Process
does ss = process none unlisted false ss none

abbrev just : Factor → Expression
just f = expression f alone

-- n <= transport m;
abbrev gets : Name → Name → Statement
gets n m = assignment n (just (plain (named m))) immediate

abbrev one : Statement → Statements
one s = also s done

-- 5: SIGNAL NAME NOT DECLARED, OR `of` NAMES ANOTHER ENTITY

declared : answer (pair (does (one (gets q d)) ∷ [])) ≡ (0, 0)
unfolding answer
declared = refl

undeclared-target : answer (pair (does (one (gets (bytes "x") d)) ∷ [])) ≡ (5, 20)
unfolding answer
undeclared-target = refl

undeclared-read : answer (pair (does (one (gets q (bytes "x"))) ∷ [])) ≡ (5, 23)
unfolding answer
undeclared-read = refl

undeclared-listed : answer (pair (process none (listed q (bytes "x" ∷ [])) false done none ∷ [])) ≡ (5, 22)
unfolding answer
undeclared-listed = refl

-- a label is no signal, nor is the entity
label_read : answer (pair (process (some (bytes "p")) unlisted false (one (gets q (bytes "p"))) none ∷ [])) ≡ (5, 25)
unfolding answer
label_read = refl

entity-read : answer (pair (does (one (gets q (bytes "e"))) ∷ [])) ≡ (5, 23)
unfolding answer
entity-read = refl

other_entity : answer (design (bytes "e") false none (bytes "a") (bytes "a") [] [] false none) ≡ (5, 8)
unfolding answer
other_entity = refl

-- 6: SIGNAL OR LABEL ALREADY USED

twice-declared : answer (over (declaration q [] none ∷ declaration q [] none ∷ []) []) ≡ (6, 16)
unfolding answer
twice-declared = refl

label_of_signal : answer (pair (process (some d) unlisted false done none ∷ [])) ≡ (6, 18)
unfolding answer
label_of_signal = refl

twice-labelled : answer (pair (process (some (bytes "p")) unlisted false done none ∷ process (some (bytes "p")) unlisted false done none ∷ [])) ≡ (6, 25)
unfolding answer
twice-labelled = refl

-- the entity's and the architecture's names are free
label_of_entity : answer (pair (process (some (bytes "e")) unlisted false done none ∷ process (some (bytes "a")) unlisted false done none ∷ [])) ≡ (0, 0)
unfolding answer
label_of_entity = refl

-- 7: CLOSING NAME DIFFERS, OR CLOSES A PROCESS WITHOUT A LABEL

closed : answer (design (bytes "e") true (some (bytes "e")) (bytes "a") (bytes "e") []
    (process (some (bytes "p")) unlisted true done (some (bytes "p")) ∷ []) true (some (bytes "a"))) ≡ (0, 0)
unfolding answer
closed = refl

entity_misclosed : answer (design (bytes "e") true (some (bytes "a")) (bytes "a") (bytes "e") [] [] false none) ≡ (7, 5)
unfolding answer
entity_misclosed = refl

architecture_misclosed : answer (design (bytes "e") false none (bytes "a") (bytes "e") [] [] false (some (bytes "e"))) ≡ (7, 12)
unfolding answer
architecture_misclosed = refl

process_misclosed : answer (pair (process (some (bytes "p")) unlisted false done (some (bytes "r")) ∷ [])) ≡ (7, 24)
unfolding answer
process_misclosed = refl

unlabelled-closed : answer (pair (process none unlisted false done (some (bytes "p")) ∷ [])) ≡ (7, 22)
unfolding answer
unlabelled-closed = refl

-- 8: DELAY ABOVE 10^18 FS (P11)

abbrev delayed : Delay → Design
delayed t = pair (does (one (assignment q (just (plain (constant true))) t)) ∷ [])

longest_seconds : answer (delayed (after 1000 Sec)) ≡ (0, 0)
unfolding answer
longest_seconds = refl

one_second_more : answer (delayed (after 1001 Sec)) ≡ (8, 25)
unfolding answer
one_second_more = refl

no_hours : answer (delayed (after 0 Hr)) ≡ (0, 0)
unfolding answer
no_hours = refl

one_femtosecond_more : answer (delayed (after 1_000_000_000_000_000_001 Fs)) ≡ (8, 25)
unfolding answer
one_femtosecond_more = refl

-- 9: ASSIGNMENT TO A SIGNAL THAT AN EARLIER PROCESS ASSIGNS

twice_in_one : answer (pair (does (also (gets q d) (one (gets q q))) ∷ does (one (gets d q)) ∷ [])) ≡ (0, 0)
unfolding answer
twice_in_one = refl

in_two : answer (pair (does (one (gets q d)) ∷ does (one (gets d q)) ∷ does (one (gets q q)) ∷ [])) ≡ (9, 40)
unfolding answer
in_two = refl

-- it goes by the text: an assignment that never runs counts
never_run : answer (pair (does (one (conditional (just (plain (constant false))) (one (gets q d)) missing)) ∷ does (one (gets q d)) ∷ [])) ≡ (9, 36)
unfolding answer
never_run = refl

-- 10: 65TH SIGNAL, 65TH PROCESS, 4,097TH INSTRUCTION

abbrev names : ℕ → List Name
names zero = []
names (suc k) = (k ∷ []) ∷ names k

abbrev signals : ℕ → Design
signals k = over (declaration q (names k) none ∷ []) []

sixty_four_signals : answer (signals 63) ≡ (0, 0)
unfolding answer
sixty_four_signals = refl

-- the 65th name stands 64 commas and names after the first
sixty_five_signals : answer (signals 64) ≡ (10, 139)
unfolding answer
sixty_five_signals = refl

-- at one token the lower number first: a 65th signal that repeats a name is 6
sixty_fifth_repeats : answer (over (declaration q (names 63 ++ (q ∷ [])) none ∷ []) []) ≡ (6, 139)
unfolding answer
sixty_fifth_repeats = refl

abbrev times : ℕ → Process → List Process
times zero p = []
times (suc k) p = p ∷ times k p

sixty_four_processes : answer (over [] (times 64 (does done))) ≡ (0, 0)
unfolding answer
sixty_four_processes = refl

-- at its word `process`, after its label
sixty_five_processes : answer (over [] (times 64 (does done) ++ (process (some (bytes "p")) unlisted false done none ∷ []))) ≡ (10, 333)
unfolding answer
sixty_five_processes = refl

-- `and q`, so many times: two instructions each
abbrev and_more : ℕ → More
and_more zero = enough
and_more (suc k) = more (plain (named q)) (and_more k)

-- q <= transport f and q and q ..: with 2,047 times `and q`, 4,095 instructions and those of f
abbrev long : Factor → Statement
long f = assignment q (expression f (chained AND (plain (named q)) (and_more 2046))) immediate

most_instructions_lem : answer (pair (does (one (long (plain (named q)))) ∷ [])) ≡ (0, 0)
unfolding answer
most_instructions_lem = refl

one_instruction_more : answer (pair (does (one (long (negated (named q)))) ∷ [])) ≡ (10, 4118)
unfolding answer
one_instruction_more = refl

-- q <= transport not q and q and q ..: 4,095 instructions
abbrev almost : Statement
almost = assignment q (expression (negated (named q)) (chained AND (plain (named q)) (and_more 2045))) immediate

-- an `if` counts as two at its word; an assignment counts at its target, and its expression after it
if_too_many : answer (pair (does (also almost (one (conditional (just (plain (named q))) done missing))) ∷ [])) ≡ (10, 4118)
unfolding answer
if_too_many = refl

target_fits : answer (pair (does (also almost (one (gets q q))) ∷ [])) ≡ (10, 4121)
unfolding answer
target_fits = refl

-- at one token the lower number first: a 4,097th instruction that is an undeclared name is 5
last_undeclared : answer (pair (does (also almost (one (gets q (bytes "x")))) ∷ [])) ≡ (5, 4121)
unfolding answer
last_undeclared = refl

-- THE CIRCUIT OF CASE A

abbrev case_a : Design
case_a =
    design (bytes "pair") false none (bytes "a") (bytes "pair") (declaration q (d ∷ []) none ∷ [])
    (process none (listed q []) false (one (assignment q (just (negated (named q))) (after 3 Ns))) none
    ∷ process none (listed q []) false (one (assignment d (just (negated (named q))) immediate)) none ∷ [])
    false none

accepted_a : answer case_a ≡ (0, 0)
unfolding answer
accepted_a = refl

circuit_a : circuit_of case_a
    ≡ record {
      initial = false ∷ false ∷ [];
      processes =
          record { wakes = 0 ∷ []; body = Actions.assign 0 (Formula.negated (Formula.signal 0)) 3_000_000 Actions.done }
          ∷ record { wakes = 0 ∷ []; body = Actions.assign 1 (Formula.negated (Formula.signal 0)) 0 Actions.done } ∷ [];
    }
unfolding same_list
circuit_a = refl

names_a : signal_names case_a ≡ bytes "q" ∷ bytes "d" ∷ []
names_a = refl

entity_a : entity_name case_a ≡ bytes "pair"
entity_a = refl
