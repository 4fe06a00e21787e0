-- The translation of a circuit: for each process in the text's order one instruction for each name or literal in an expression, each
-- operator, each assignment, and two for each `if`; `null` gives none. Assumes nothing: these are definitions.
use Rattle.std.specs.Prelude.{ℕ, ◌+◌, ◌*◌, ◌≡◌, refl, Bool, true, false, List, [], ◌∷◌, map, length}
use Rattle.syntax.specs.Circuit.{AND, Formula, signal, constant, negated, combined, Actions, done, assign, branch, null, Activity, Circuit}
use Rattle.rules.specs.Formulas.{size}
use Rattle.rules.specs.Statements.{member}
use Rattle.rules.specs.Sized.{instructions}
use Rattle.table.specs.Instructions.{Instruction, name, literal, negation, binary, assignment, test, skip}
use Rattle.table.specs.Table.{Table, tabulate}

-- the instructions of a formula, in front of those that follow
unfoldable pub formula_code : Formula → List Instruction → List Instruction
formula_code (signal k) more = name k ∷ more
formula_code (constant b) more = literal b ∷ more
formula_code (negated e) more = formula_code e (negation ∷ more)
formula_code (combined o a b) more = formula_code a (formula_code b (binary o ∷ more))

-- the instructions of statements at address x, in front of those that follow: the skip after the first arm is there with or without `else`
unfoldable pub code : ℕ → Actions → List Instruction → List Instruction
code x done more = more
code x (assign k e delay rest) more = formula_code e (assignment k delay ∷ code (x + (size e + 1)) rest more)
code x (branch e first second rest) more =
    let y = x + (size e + 1) in
    let z = y + (instructions first + 1) in
    let w = z + instructions second in
    formula_code e (test z ∷ code y first (skip w ∷ code z second (code w rest more)))
code x (null rest) more = code x rest more

-- processes from address x on: their ends, and all their instructions
unfoldable pub ends_from : ℕ → List Activity → List ℕ
ends_from x [] = []
ends_from x (a ∷ more) = let y = x + instructions a.body in y ∷ ends_from y more

unfoldable pub code_from : ℕ → List Activity → List Instruction
code_from x [] = []
code_from x (a ∷ more) = code x a.body (code_from (x + instructions a.body) more)

abbrev pub number : Bool → ℕ
number true = 1
number false = 0

-- the word of these yes-or-nos, the first lowest
unfoldable pub word : List Bool → ℕ
word [] = 0
word (b ∷ bs) = number b + 2 * word bs

-- the word of the processes that signal k wakes
unfoldable pub listeners_of : List Activity → ℕ → ℕ
listeners_of processes k = word (map (λ a. member a.wakes k) processes)

unfoldable pub translate : Circuit → Table
translate c =
    record {
      initial = c.initial;
      listeners = tabulate (listeners_of c.processes) 0 (length c.initial);
      ends = ends_from 0 c.processes;
      code = code_from 0 c.processes;
    }

-- `if a and b then c <= transport true; end if;` at address 10
if_and : code 10 (branch (combined AND (signal 0) (signal 1)) (assign 2 (constant true) 0 done) done done) []
    ≡ name 0 ∷ name 1 ∷ binary AND ∷ test 17 ∷ literal true ∷ assignment 2 0 ∷ skip 17 ∷ []
unfolding code formula_code size instructions
if_and = refl
