-- The table of a circuit means what its processes mean, one by one; so all that is built on what they mean is the same. Assumes nothing.
use Prim.Native.Nat.{ℕ, zero, suc, ◌+◌, ◌-◌, ◌≤◌, ◌<◌}
use native.Mathlib.Omega.{arith}
use mathlib.Core.Path.{◌≡◌, refl, sym, ◌∙◌, ap}
use mathlib.Core.Bool.{Bool, false, ◌||◌, or_assoc, or-false}
use mathlib.Core.Logic.{⊎_elim}
use mathlib.Core.List.{List, [], ◌∷◌, ◌++◌, map}
use lib.ListN.{length, get_or, take, drop, get_or-eq_default}
use lib.Seq.{take_at, drop_at, drop-drop}
use borrow.Author.Tests.{ne_eqb}
use Rattle.laws.proofs.Cases.{side}
use Rattle.laws.proofs.Lists.{at_map}
use Rattle.syntax.specs.Circuit.{Formula, signal, constant, negated, combined, Actions, done, assign, branch, null, Activity, Circuit}
use Rattle.rules.specs.Statements.{assigns, member, means}
use Rattle.rules.specs.Sized.{instructions, total, Listed, idle, Sized}
use Rattle.table.specs.Instructions.{Instruction, negation, binary}
use Rattle.table.specs.Table.{bit, tabulate, begins, part, posts, runner, runners}
use Rattle.table.specs.Translation.{formula_code, code, ends_from, code_from, listeners_of, translate}
use Rattle.table.proofs.Tabulated.{length-tabulate, at_tabulate, map-tabulate, bit-zero, bit_word}
use Rattle.table.proofs.Translating.{meaning, length-code}

-- what follows the code of a formula or of statements is what follows it
formula_front : (e : Formula) (is js : List Instruction) → formula_code e (is ++ js) ≡ formula_code e is ++ js
unfolding formula_code
formula_front (signal k) is js = refl
formula_front (constant b) is js = refl
formula_front (negated e) is js = formula_front e (negation ∷ is) js
formula_front (combined o a b) is js =
    ap (formula_code a) (formula_front b (binary o ∷ is) js) ∙ formula_front a (formula_code b (binary o ∷ is)) js

pub front : (ss : Actions) (x : ℕ) (is js : List Instruction) → code x ss (is ++ js) ≡ code x ss is ++ js
unfolding code
front done x is js = refl
front (assign k e d ss) x is js = simp (← formula_front, ← front ss)
front (branch e a b ss) x is js = simp (← formula_front, ← front a, ← front b, ← front ss)
front (null ss) x is js = front ss x is js

-- the code posts to the signals that the statements assign
posts_formula : (e : Formula) (is : List Instruction) (k : ℕ) → posts (formula_code e is) k ≡ posts is k
unfolding formula_code posts
posts_formula (signal i) is k = refl
posts_formula (constant b) is k = refl
posts_formula (negated e) is k = posts_formula e (negation ∷ is) k
posts_formula (combined o a b) is k = posts_formula a (formula_code b (binary o ∷ is)) k ∙ posts_formula b (binary o ∷ is) k

pub posts-code : (ss : Actions) (x : ℕ) (is : List Instruction) (k : ℕ) → posts (code x ss is) k ≡ (assigns ss k || posts is k)
unfolding code posts assigns
posts-code done x is k = refl
posts-code (assign i e d ss) x is k = simp (posts_formula, posts-code ss, or_assoc)
posts-code (branch e a b ss) x is k = simp (posts_formula, posts-code a, posts-code b, posts-code ss, or_assoc)
posts-code (null ss) x is k = posts-code ss x is k

-- where process p begins, and its code
unfoldable pub base : List Activity → ℕ → ℕ
base l p = total (take p l)

length-ends : (l : List Activity) (x : ℕ) → length (ends_from x l) ≡ length l
unfolding ends_from
length-ends [] x = refl
length-ends (a ∷ l) x = ap suc (length-ends l (x + instructions a.body))

end_at : (l : List Activity) (x p : ℕ) → p < length l → get_or (ends_from x l) p 0 ≡ x + base l (suc p)
unfolding ends_from base total
end_at [] x p h = absurd (omega arith)
end_at (a ∷ l) x zero h = omega arith
end_at (a ∷ l) x (suc p) h = omega (arith, end_at l (x + instructions a.body) p (omega arith))

pub base_next : (l : List Activity) (p : ℕ) → p < length l → base l (suc p) ≡ base l p + instructions (get_or l p idle).body
unfolding base total
base_next [] p h = absurd (omega arith)
base_next (a ∷ l) zero h = omega arith
base_next (a ∷ l) (suc p) h = omega (arith, base_next l p (omega arith))

pub begin_at : (c : Circuit) (p : ℕ) → p ≤ length c.processes → begins (translate c) p ≡ base c.processes p
unfolding translate base total
begin_at c zero h = refl
begin_at c (suc p) h = omega (arith, end_at c.processes 0 p (omega arith))

cut : (l : List Activity) (x p : ℕ) → p < length l
    → take (instructions (get_or l p idle).body) (drop (base l p) (code_from x l)) ≡ code (x + base l p) (get_or l p idle).body []
unfolding code_from base total
cut [] x p h = absurd (omega arith)
cut (a ∷ l) x zero h =
    let e : x + 0 ≡ x = omega arith in
    rw (e, front a.body x [] (code_from (x + instructions a.body) l))
    (take_at (code x a.body []) _ (instructions a.body) (omega (arith, length-code a.body x [])))
cut (a ∷ l) x (suc p) h =
    let y = x + instructions a.body in
    let e : x + (instructions a.body + total (take p l)) ≡ y + total (take p l) = omega arith in
    rw (e, front a.body x [] (code_from y l), ← drop-drop (total (take p l)) (instructions a.body))
    (rw (drop_at (code x a.body []) (code_from y l) (instructions a.body) (omega (arith, length-code a.body x []))) (cut l y p (omega arith)))

cut-whole : (c : Circuit) (p : ℕ) → p < length c.processes
    → take (instructions (get_or c.processes p idle).body) (drop (base c.processes p) (translate c).code) ≡ code (base c.processes p) (get_or c.processes p idle).body []
unfolding translate
cut-whole c p h = cut c.processes 0 p h ∙ ap (λ x. code x (get_or c.processes p idle).body []) (omega arith)

-- the table's process p has the code of the statements' process p
pub part_at : (c : Circuit) (p : ℕ) → p < length c.processes
    → part (translate c) p ≡ code (begins (translate c) p) (get_or c.processes p idle).body []
part_at c p h =
    let b = begin_at c p (omega arith) in
    let n : begins (translate c) (suc p) - begins (translate c) p ≡ instructions (get_or c.processes p idle).body =
    omega (arith, begin_at c (suc p) (omega arith), base_next c.processes p h) in
    rw (n, b) (cut-whole c p h)

-- a signal wakes it in the table where it stands in the list
pub unlisted : (n : ℕ) (l : List ℕ) (k : ℕ) → Listed n l → n ≤ k → member l k ≡ false
unfolding Listed member
unlisted n [] k h g = refl
unlisted n (i ∷ l) k h g = rw (ne_eqb i k (λ e. omega arith)) (unlisted n l k h.1 g)

wakes_at : (c : Circuit) (p k : ℕ) → Listed (length c.initial) (get_or c.processes p idle).wakes → p < length c.processes
    → member (get_or c.processes p idle).wakes k ≡ bit (get_or (translate c).listeners k 0) p
unfolding translate listeners_of
wakes_at c p k s h =
    let l = c.processes in
    let n = length c.initial in
    let heard : List Bool = map (λ a. member a.wakes k) l in
    ⊎_elim
    (λ g.
    let e : get_or (tabulate (listeners_of l) 0 n) k 0 ≡ listeners_of l k =
    at_tabulate (listeners_of l) 0 0 n k g ∙ ap (listeners_of l) (omega arith) in
    rw e (sym (bit_word heard p ∙ at_map (λ a. member a.wakes k) l p idle false h)))
    (λ g.
    let e = get_or-eq_default (tabulate (listeners_of l) 0 n) 0 {n = k} (omega (arith, length-tabulate (listeners_of l) 0 n)) in
    rw e (unlisted n _ k s g ∙ sym (bit-zero p)))
    (side k n)

same_process : (c : Circuit) (p : ℕ) → Listed (length c.initial) (get_or c.processes p idle).wakes → p < length c.processes
    → means (get_or c.processes p idle) ≡ runner (translate c) p
unfolding means runner posts
same_process c p s h =
    let a = get_or c.processes p idle in
    let x = begins (translate c) p in
    rw (part_at c p h)
    (λ i.
    record {
      wakes = λ k. wakes_at c p k s h i;
      goes = λ vs now q n. sym (meaning vs now a.body x q n) i;
      drives = λ k. (sym (or-false (assigns a.body k)) ∙ sym (posts-code a.body x [] k)) i;
    })

pub as_many : (c : Circuit) → length (translate c).ends ≡ length c.processes
unfolding translate
as_many c = length-ends c.processes 0

-- the theorem: the translation means what the processes mean
pub faithful : (c : Circuit) → Sized c → map means c.processes ≡ runners (translate c)
unfolding runners
faithful c s =
    rw (as_many c)
    (map-tabulate means (runner (translate c)) idle c.processes 0
    (λ p h. same_process c p (s.listed p h) h ∙ ap (runner (translate c)) (omega arith)))
