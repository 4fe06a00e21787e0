-- A run of a process's statements: report 249, rules ss_i to ss_iv; its steps, counted over the statements; and what the process means.
-- Assumes nothing: these are definitions.
use Rattle.std.specs.Prelude.{ℕ, ◌+◌, ◌≡◌, refl, Bool, true, false, ◌||◌, List, [], ◌∷◌, eqb}
use Rattle.laws.specs.Pick.{pick}
use Rattle.syntax.specs.Circuit.{signal, constant, negated, Actions, done, assign, branch, null, Activity}
use Rattle.rules.specs.Outcome.{Outcome, gives, ◌then◌}
use Rattle.rules.specs.Formulas.{Values, value, size}
use Rattle.rules.specs.Pending.{Pending, change, before, post}
use Rattle.rules.specs.Runner.{Runner}

-- what the statements leave pending, run at the time now: ss_iv an assignment, ss_ii and ss_iii a conditional, ss_i one after another
unfoldable pub after : Values → ℕ → Actions → Pending → Outcome Pending
after vs now done p = gives p
after vs now (assign k e delay rest) p = post k (change (now + delay) (value vs e)) p then after vs now rest
after vs now (branch e first second rest) p = pick (value vs e) (after vs now first p) (after vs now second p) then after vs now rest
after vs now (null rest) p = after vs now rest p

-- one step per name, literal and operator of an expression evaluated, one per assignment, one per test, one more when the first arm was taken
unfoldable pub steps : Values → Actions → ℕ
steps vs done = 0
steps vs (assign k e delay rest) = size e + 1 + steps vs rest
steps vs (branch e first second rest) = size e + 1 + pick (value vs e) (steps vs first + 1) (steps vs second) + steps vs rest
steps vs (null rest) = steps vs rest

-- whether the statements assign signal k, in an arm that runs or not
unfoldable pub assigns : Actions → ℕ → Bool
assigns done k = false
assigns (assign i e delay rest) k = eqb i k || assigns rest k
assigns (branch e first second rest) k = assigns first k || (assigns second k || assigns rest k)
assigns (null rest) k = assigns rest k

unfoldable pub member : List ℕ → ℕ → Bool
member [] k = false
member (i ∷ is) k = eqb i k || member is k

unfoldable pub means : Activity → Runner
means a =
    record {
      wakes = member a.wakes;
      goes = λ vs now p n. after vs now a.body p then (λ q. gives (record { pending = q; steps = n + steps vs a.body }));
      drives = assigns a.body;
    }

-- `if true then q <= transport not q after 3 ns; end if;` run at 5 ns: 6 steps
if_true : after (false ∷ []) 5000000 (branch (constant true) (assign 0 (negated (signal 0)) 3000000 done) done done) ([] ∷ [])
    ≡ gives ((change 8000000 true ∷ []) ∷ [])
unfolding after post before value
if_true = refl

if_true_steps : steps (false ∷ []) (branch (constant true) (assign 0 (negated (signal 0)) 3000000 done) done done) ≡ 6
unfolding steps value size
if_true_steps = refl

-- with `false` it runs the second arm, which is missing, and skips nothing: 2 steps
if_false_steps : steps (false ∷ []) (branch (constant false) (assign 0 (negated (signal 0)) 3000000 done) done done) ≡ 2
unfolding steps value size
if_false_steps = refl
