-- The translation of a circuit that keeps the sizes is fit. Assumes nothing.
use Prim.Native.Nat.{ℕ, zero, suc, ◌+◌, ◌-◌, ◌^◌, ◌<◌}
use native.Mathlib.Omega.{arith}
use mathlib.Core.Path.{◌≡◌, refl, sym, ◌∙◌, ap, subst}
use mathlib.Core.Bool.{Bool, true, or-false}
use mathlib.Core.Logic.{⊎_elim}
use mathlib.Core.List.{List, [], ◌∷◌, map}
use lib.ListN.{length, get_or, drop, length-map, get_or-eq_default}
use lib.Seq.{get_or-take, get_or-drop, take-length}
use Rattle.laws.proofs.Cases.{side}
use Rattle.syntax.specs.Circuit.{Formula, signal, constant, negated, combined, Actions, done, assign, branch, null, Activity, Circuit}
use Rattle.rules.specs.Statements.{assigns, member}
use Rattle.rules.specs.Sized.{instructions, total, Known, Keeps, idle, Sized}
use Rattle.table.specs.Instructions.{Instruction, negation}
use Rattle.table.specs.Table.{tabulate, begins, part, posts}
use Rattle.table.specs.Fit.{at, Exists, Sound, FitTable}
use Rattle.table.specs.Translation.{formula_code, code, code_from, word, listeners_of, translate}
use Rattle.table.proofs.Tabulated.{length-tabulate, at_tabulate, word_below}
use Rattle.table.proofs.Translating.{length-code}
use Rattle.table.proofs.Faithful.{as_many, base, base_next, begin_at, part_at, posts-code}
use Rattle.table.proofs.Heights.{sound-code}

-- all instructions exist
unfoldable pub AllExist : ℕ → List Instruction → Type 0
AllExist n [] = Unit {0}
AllExist n (i ∷ is) = Exists n i × AllExist n is

exist_at : (n : ℕ) (is : List Instruction) (x : ℕ) → AllExist n is → x < length is → Exists n (at is x)
unfolding AllExist
exist_at n [] x a l = absurd (omega arith)
exist_at n (i ∷ is) zero a l = a.0
exist_at n (i ∷ is) (suc x) a l = exist_at n is x a.1 (omega arith)

formula_exists : (n : ℕ) (e : Formula) (is : List Instruction) → Known n e → AllExist n is → AllExist n (formula_code e is)
unfolding Known AllExist formula_code
formula_exists n (signal k) is h a = (h, a)
formula_exists n (constant b) is h a = (tt, a)
formula_exists n (negated e) is h a = formula_exists n e _ h (tt, a)
formula_exists n (combined o e f) is h a = formula_exists n e _ h.0 (formula_exists n f _ h.1 (tt, a))

code-exists : (n : ℕ) (ss : Actions) (x : ℕ) (is : List Instruction) → Keeps n ss → AllExist n is → AllExist n (code x ss is)
unfolding Keeps AllExist code
code-exists n done x is h a = a
code-exists n (assign k e d ss) x is h a = formula_exists n e _ h.3 ((h.0, h.1), code-exists n ss _ is h.4 a)
code-exists n (branch e p q ss) x is h a =
    formula_exists n e _ h.1 (tt, code-exists n p _ _ h.2 (tt, code-exists n q _ _ h.3 (code-exists n ss _ is h.4 a)))
code-exists n (null ss) x is h a = code-exists n ss x is h a

all_exist : (n : ℕ) (l : List Activity) (x : ℕ) → ((p : ℕ) → p < length l → Keeps n (get_or l p idle).body) → AllExist n (code_from x l)
unfolding AllExist code_from
all_exist n [] x h = tt
all_exist n (a ∷ l) x h = code-exists n a.body x _ (h 0 (omega arith)) (all_exist n l _ (λ p g. h (suc p) (omega arith)))

length_all : (x : ℕ) (l : List Activity) → length (code_from x l) ≡ total l
unfolding code_from total
length_all x [] = refl
length_all x (a ∷ l) = omega (arith, length-code a.body x (code_from (x + instructions a.body) l), length_all (x + instructions a.body) l)

module _ (c : Circuit) (s : Sized c) where
  all_code : length (translate c).code ≡ total c.processes
  unfolding translate
  all_code = length_all 0 c.processes

  wakes-few : (k : ℕ) → get_or (translate c).listeners k 0 < 2 ^ length c.processes
  unfolding translate listeners_of
  wakes-few k =
      let l = c.processes in
      let n = length c.initial in
      let heard : List Bool = map (λ a. member a.wakes k) l in
      let below : word heard < 2 ^ length l = subst (λ m. word heard < 2 ^ m) (length-map l (λ a. member a.wakes k)) (word_below heard) in
      ⊎_elim
      (λ g.
      let e : get_or (tabulate (listeners_of l) 0 n) k 0 ≡ listeners_of l k =
      at_tabulate (listeners_of l) 0 0 n k g ∙ ap (listeners_of l) (omega arith) in
      rw e below)
      (λ g.
      let e = get_or-eq_default (tabulate (listeners_of l) 0 n) 0 {n = k} (omega (arith, length-tabulate (listeners_of l) 0 n)) in
      rw e (omega (arith, below)))
      (side k n)

  ends_at : (p : ℕ) → p < length c.processes
      → begins (translate c) (suc p) ≡ begins (translate c) p + instructions (get_or c.processes p idle).body
  ends_at p h = omega (arith, begin_at c p (omega arith), begin_at c (suc p) (omega arith), base_next c.processes p h)

  covers : begins (translate c) (length c.processes) ≡ total c.processes
  unfolding base
  covers = begin_at c (length c.processes) (omega arith) ∙ ap total (take-length c.processes)

  part_sound : (p : ℕ) → p < length c.processes → Sound (translate c).code (begins (translate c) p) (begins (translate c) (suc p))
  part_sound p h =
      let x = begins (translate c) p in
      let b = (get_or c.processes p idle).body in
      let n = length-code b x [] in
      let e = part_at c p h in
      let z : x + length (code x b []) ≡ begins (translate c) (suc p) = omega (arith, ends_at p h) in
      subst (λ y. Sound (translate c).code x y) z
      (sound-code (length c.initial) b (translate c).code x (s.keeps p h)
      (λ k l. sym
      (ap (λ is. at is k) (sym e)
      ∙ get_or-take (begins (translate c) (suc p) - x) (drop x (translate c).code) k negation (omega arith)
      ∙ get_or-drop x (translate c).code k negation)))

  posts-alone : (p k : ℕ) → p < length c.processes → posts (part (translate c) p) k ≡ true → assigns (get_or c.processes p idle).body k ≡ true
  unfolding posts
  posts-alone p k h g =
      let b = (get_or c.processes p idle).body in
      let x = begins (translate c) p in
      sym (or-false (assigns b k)) ∙ sym (posts-code b x [] k) ∙ sym (ap (λ is. posts is k) (part_at c p h)) ∙ g

  exists_all : (x : ℕ) → x < length (translate c).code → Exists (length c.initial) (at (translate c).code x)
  unfolding translate
  exists_all x h = exist_at (length c.initial) (code_from 0 c.processes) x (all_exist (length c.initial) c.processes 0 s.keeps) h

  -- the theorem
  pub fit_translation : FitTable (translate c)
  unfolding translate
  fit_translation =
      let n = as_many c in
      let m = all_code in
      record {
        few_signals = s.few_signals;
        few_processes = omega (arith, s.few_processes);
        few_instructions = omega (arith, s.few_instructions);
        listening = length-tabulate (listeners_of c.processes) 0 (length c.initial);
        woken = λ k. rw n (wakes-few k);
        rising = λ p h. omega (arith, ends_at p (omega arith));
        cover = rw n (covers ∙ sym m);
        exists = λ x h. exists_all x h;
        sound = λ p h. part_sound p (omega arith);
        alone = λ p q k h g a b. s.alone p q k (omega arith) (omega arith) (posts-alone p k (omega arith) a) (posts-alone q k (omega arith) b);
      }
