-- A circuit that keeps the sizes, as every accepted text gives one. Assumes nothing: these are definitions.
use Rattle.std.specs.Prelude.{ℕ, ◌+◌, ◌≤◌, ◌<◌, max, ◌≡◌, refl, true, List, [], ◌∷◌, length, get_or}
use Rattle.syntax.specs.Circuit.{AND, Formula, signal, constant, negated, combined, Actions, done, assign, branch, null, Activity, Circuit}
use Rattle.words.specs.Unit.{longest}
use Rattle.rules.specs.Sizes.{most_signals, most_processes, most_instructions, most_operands}
use Rattle.rules.specs.Formulas.{size}
use Rattle.rules.specs.Statements.{assigns}

-- one instruction for each name or literal, each operator, each assignment, and two for each `if`
unfoldable pub instructions : Actions → ℕ
instructions done = 0
instructions (assign k e delay rest) = size e + 1 + instructions rest
instructions (branch e first second rest) = size e + 1 + (instructions first + 1) + instructions second + instructions rest
instructions (null rest) = instructions rest

unfoldable pub total : List Activity → ℕ
total [] = 0
total (a ∷ more) = instructions a.body + total more

-- how many values of a formula's parts are held at once, at most, while its value is found from the left
unfoldable pub operands : Formula → ℕ
operands (signal k) = 1
operands (constant b) = 1
operands (negated e) = operands e
operands (combined o a b) = max (operands a) (operands b + 1)

-- signal numbers are below n
unfoldable pub Known : ℕ → Formula → Type 0
Known n (signal k) = k < n
Known n (constant b) = Unit {0}
Known n (negated e) = Known n e
Known n (combined o a b) = Known n a × Known n b

-- in statements too, delays keep their size, and so do operands
unfoldable pub Keeps : ℕ → Actions → Type 0
Keeps n done = Unit {0}
Keeps n (assign k e delay rest) = (k < n) × (delay ≤ longest) × (operands e ≤ most_operands) × Known n e × Keeps n rest
Keeps n (branch e first second rest) = (operands e ≤ most_operands) × Known n e × Keeps n first × Keeps n second × Keeps n rest
Keeps n (null rest) = Keeps n rest

unfoldable pub Listed : ℕ → List ℕ → Type 0
Listed n [] = Unit {0}
Listed n (k ∷ ks) = (k < n) × Listed n ks

abbrev pub idle : Activity
idle = record { wakes = []; body = done }

pub record Sized (c : Circuit) : Type 0 where
  pub few_signals : length c.initial ≤ most_signals
  pub few_processes : length c.processes ≤ most_processes
  pub few_instructions : total c.processes ≤ most_instructions
  pub listed : (p : ℕ) → p < length c.processes → Listed (length c.initial) (get_or c.processes p idle).wakes
  pub keeps : (p : ℕ) → p < length c.processes → Keeps (length c.initial) (get_or c.processes p idle).body
  pub alone : (p q k : ℕ) → p < length c.processes → q < length c.processes
      → assigns (get_or c.processes p idle).body k ≡ true → assigns (get_or c.processes q idle).body k ≡ true → p ≡ q

-- `a and (b and c)` holds three values at once, and an `if` is two instructions
three-operands : operands (combined AND (signal 0) (combined AND (signal 1) (signal 2))) ≡ 3
unfolding operands
three-operands = refl

five_instructions : instructions (branch (signal 0) (assign 1 (constant true) 0 done) done done) ≡ 5
unfolding instructions size
five_instructions = refl
