-- What the words of a ledger stand for after a token of each role.
-- Assumes nothing.
use mathlib.Core.Path.{◌≡◌, refl, sym, ap, ◌∙◌, subst}
use mathlib.Core.Bool.{Bool, false, ◌||◌}
use mathlib.Core.List.{List, [], ◌∷◌, ◌++◌}
use Prim.Native.Nat.{ℕ, ◌+◌, ◌*◌, ◌<◌, ◌≤◌}
use native.Mathlib.Omega.{arith}
use native.Mathlib.Decide.{dec_lt, ℕ_discrete}
use borrow.Author.Tests.{eq-eqb, ne_eqb}
use lib.Dec.{eqb}
use lib.ListN.{get_or, set, length-set}
use lib.Seq.{get_or-set_same, get_or-set_other}
use Rattle.laws.specs.Pick.{within, same_list}
use Rattle.laws.proofs.Ranges.{within-inside, within-below, within-above}
use Rattle.words.specs.Token.{Name}
use Rattle.look.specs.Inside.Looks.{name_at}
use Rattle.names.specs.Judge.{State, is_among, has, declared, labelled, opened, assigned, counted}
use Rattle.names.proofs.Kept.{has-append}
use Rattle.ledger.specs.Inside.Standing.{Span, Shelf, names_from, added, Driven, Standing}
use Rattle.ledger.proofs.Shelves.{names_same, shelf_same, among_last, added-size, added_other, added-count, added-names, added_shelf}

-- NAMES: one more signal, one more label

module _ {t l : List ℕ} {y : State} (s : Standing 0 t l y) (start end : ℕ) (p : Span t start end) where
  -- the drivers stay
  drivers_same : (m : List ℕ) (z : State) → ((k : ℕ) → 264 ≤ k → get_or m k 0 ≡ get_or l k 0) → (z.earlier ≡ y.earlier) → (z.current ≡ y.current) → (z.processes ≡ y.processes)
      → (k : ℕ) → k < 64 → Driven (get_or m (264 + k) 0) k z
  drivers_same m z f a b c k h =
      let d = s.drivers k h in
      rw (f (264 + k) (omega arith)) record { earlier_ones = rw (a, c) d.earlier_ones; last_one = rw (b, c) d.last_one; known = rw c d.known }

  pub declared-stands : (get_or l 2 0 ≡ 64 → ⊥) → Standing 0 t (added l 2 6 start end) (declared (name_at t start end) y)
  declared-stands f =
      let m : List ℕ = added l 2 6 start end in
      let few : get_or l 2 0 < 64 = omega (arith, s.few_signals) in
      let size = s.signals.size in
      let other : (k : ℕ) → (k ≡ 2 → ⊥) → (k < 6) → get_or m k 0 ≡ get_or l k 0 =
      λ k g h. added_other l 2 6 start end size (omega arith) (omega arith) (omega arith) k g (λ z. omega arith) (λ z. omega arith) in
      let later : (k : ℕ) → 134 ≤ k → get_or m k 0 ≡ get_or l k 0 =
      λ k h. added_other l 2 6 start end size (omega arith) (omega arith) (omega arith) k (λ z. omega arith) (λ z. omega arith) (λ z. omega arith) in
      let count : get_or m 2 0 ≡ get_or l 2 0 + 1 = added-count l 2 6 start end size (omega arith) (omega arith) (omega arith) in
      let same : get_or m 3 0 ≡ get_or l 3 0 = other 3 (λ z. omega arith) (omega arith) in
      record {
        clear = other 0 (λ z. omega arith) (omega arith) ∙ s.clear;
        signals = subst (Shelf t m 6) (sym count) (added_shelf l 2 6 start end size (omega arith) (omega arith) (omega arith) t s.signals p);
        signals_are = ap (λ (ns : List Name). ns ++ (name_at t start end ∷ [])) s.signals_are
            ∙ sym (added-names l 2 6 start end size (omega arith) (omega arith) (omega arith) t) ∙ ap (names_from t m 6) (sym count);
        few_signals = omega arith;
        labels = subst (Shelf t m 134) (sym same) (shelf_same t l m 134 (get_or l 3 0) (added-size l 2 6 start end size (omega arith) (omega arith) (omega arith) ∙ sym size) (λ k h g. later k h) s.labels);
        labels_are = λ n. s.labels_are n ∙ ap (is_among n) (sym (names_same t l m 134 (get_or l 3 0) (λ k h g. later k h)) ∙ ap (names_from t m 134) (sym same));
        few_labels = omega (arith, s.few_labels);
        processes_are = other 4 (λ z. omega arith) (omega arith) ∙ s.processes_are;
        few_processes = s.few_processes;
        instructions_are = other 5 (λ z. omega arith) (omega arith) ∙ s.instructions_are;
        few_instructions = s.few_instructions;
        drivers = drivers_same m (declared (name_at t start end) y) (λ k h. later k (omega arith)) refl refl refl;
      }

  pub labelled-stands : Standing 1 t (added l 3 134 start end) (labelled (name_at t start end) y)
  labelled-stands =
      let m : List ℕ = added l 3 134 start end in
      let few : get_or l 3 0 ≤ 64 = omega (arith, s.few_labels, s.few_processes) in
      let size = s.signals.size in
      let other : (k : ℕ) → (k ≡ 3 → ⊥) → (k < 134) → get_or m k 0 ≡ get_or l k 0 =
      λ k g h. added_other l 3 134 start end size (omega arith) (omega arith) (omega arith) k g (λ z. omega arith) (λ z. omega arith) in
      let later : (k : ℕ) → 264 ≤ k → get_or m k 0 ≡ get_or l k 0 =
      λ k h. added_other l 3 134 start end size (omega arith) (omega arith) (omega arith) k (λ z. omega arith) (λ z. omega arith) (λ z. omega arith) in
      let count : get_or m 3 0 ≡ get_or l 3 0 + 1 = added-count l 3 134 start end size (omega arith) (omega arith) (omega arith) in
      let same : get_or m 2 0 ≡ get_or l 2 0 = other 2 (λ z. omega arith) (omega arith) in
      let within : (k : ℕ) → 6 ≤ k → k < 6 + 2 * get_or l 2 0 → get_or m k 0 ≡ get_or l k 0 = λ k h g. other k (λ z. omega arith) (omega (arith, s.few_signals)) in
      record {
        clear = other 0 (λ z. omega arith) (omega arith) ∙ s.clear;
        signals = subst (Shelf t m 6) (sym same) (shelf_same t l m 6 (get_or l 2 0) (added-size l 3 134 start end size (omega arith) (omega arith) (omega arith) ∙ sym size) within s.signals);
        signals_are = s.signals_are ∙ sym (names_same t l m 6 (get_or l 2 0) within) ∙ ap (names_from t m 6) (sym same);
        few_signals = omega (arith, s.few_signals);
        labels = subst (Shelf t m 134) (sym count) (added_shelf l 3 134 start end size (omega arith) (omega arith) (omega arith) t s.labels p);
        labels_are = λ n. ap (λ (b : Bool). same_list (name_at t start end) n || b) (s.labels_are n)
            ∙ sym (among_last n (name_at t start end) (names_from t l 134 (get_or l 3 0)))
            ∙ ap (is_among n) (sym (added-names l 3 134 start end size (omega arith) (omega arith) (omega arith) t) ∙ ap (names_from t m 134) (sym count));
        few_labels = omega (arith, s.few_labels);
        processes_are = other 4 (λ z. omega arith) (omega arith) ∙ s.processes_are;
        few_processes = s.few_processes;
        instructions_are = other 5 (λ z. omega arith) (omega arith) ∙ s.instructions_are;
        few_instructions = s.few_instructions;
        drivers = drivers_same m (labelled (name_at t start end) y) (λ k h. later k h) refl refl refl;
      }

-- ONE WORD MORE: the processes, the instructions, a signal's process

-- the names stay where the words of names do
module _ {b : ℕ} {t l : List ℕ} {y : State} (s : Standing b t l y) (i v : ℕ) (out : (k : ℕ) → k < 264 → (k ≡ 4 → ⊥) → (k ≡ 5 → ⊥) → k ≡ i → ⊥) (roomy : get_or l 3 0 ≤ 65) where
  abbrev changed : List ℕ
  changed = set l i v

  same : (k : ℕ) → k < 264 → (k ≡ 4 → ⊥) → (k ≡ 5 → ⊥) → get_or changed k 0 ≡ get_or l k 0
  same k h f g = get_or-set_other l i k v 0 (out k h f g)

  changed-stands : (a : ℕ) (z : State) → z.signal_names ≡ y.signal_names → z.label_names ≡ y.label_names → get_or l 3 0 ≤ z.processes + a
      → get_or changed 4 0 ≡ z.processes → z.processes ≤ 64 → get_or changed 5 0 ≡ z.instructions → z.instructions ≤ 4096
      → ((k : ℕ) → k < 64 → Driven (get_or changed (264 + k) 0) k z) → Standing a t changed z
  changed-stands a z e f few process most instruction full driven =
      let signals : get_or changed 2 0 ≡ get_or l 2 0 = same 2 (omega arith) (λ z. omega arith) (λ z. omega arith) in
      let others : get_or changed 3 0 ≡ get_or l 3 0 = same 3 (omega arith) (λ z. omega arith) (λ z. omega arith) in
      let first : (k : ℕ) → 6 ≤ k → k < 6 + 2 * get_or l 2 0 → get_or changed k 0 ≡ get_or l k 0 =
      λ k h g. same k (omega (arith, s.few_signals)) (λ z. omega arith) (λ z. omega arith) in
      let second : (k : ℕ) → 134 ≤ k → k < 134 + 2 * get_or l 3 0 → get_or changed k 0 ≡ get_or l k 0 =
      λ k h g. same k (omega arith) (λ z. omega arith) (λ z. omega arith) in
      record {
        clear = same 0 (omega arith) (λ z. omega arith) (λ z. omega arith) ∙ s.clear;
        signals = subst (Shelf t changed 6) (sym signals) (shelf_same t l changed 6 (get_or l 2 0) (length-set l i v) first s.signals);
        signals_are = e ∙ s.signals_are ∙ sym (names_same t l changed 6 (get_or l 2 0) first) ∙ ap (names_from t changed 6) (sym signals);
        few_signals = omega (arith, s.few_signals);
        labels = subst (Shelf t changed 134) (sym others) (shelf_same t l changed 134 (get_or l 3 0) (length-set l i v) second s.labels);
        labels_are = λ n. ap (is_among n) f ∙ s.labels_are n ∙ ap (is_among n) (sym (names_same t l changed 134 (get_or l 3 0) second) ∙ ap (names_from t changed 134) (sym others));
        few_labels = omega arith;
        processes_are = process;
        few_processes = most;
        instructions_are = instruction;
        few_instructions = full;
        drivers = driven;
      }

-- instructions: the word of instructions
pub counted-stands : {t l : List ℕ} {y : State} → Standing 0 t l y → (k : ℕ) → get_or l 5 0 + k ≤ 4096 → Standing 0 t (set l 5 (get_or l 5 0 + k)) (counted k y)
counted-stands {t} {l} {y} s k h =
    let size = s.signals.size in
    let all : ℕ = get_or l 5 0 + k in
    let word : (j : ℕ) → (j ≡ 5 → ⊥) → get_or (set l 5 all) j 0 ≡ get_or l j 0 = λ j f. get_or-set_other l 5 j all 0 f in
    changed-stands s 5 all (λ j h f g z. g z) (omega (arith, s.few_labels, s.few_processes)) 0 (counted k y) refl refl s.few_labels
    (word 4 (λ z. omega arith) ∙ s.processes_are) s.few_processes
    (get_or-set_same l 5 all 0 (omega arith) ∙ ap (λ (n : ℕ). n + k) s.instructions_are) (omega (arith, s.instructions_are))
    (λ j g. let d = s.drivers j g in rw (word (264 + j) (λ z. omega arith)) record { earlier_ones = d.earlier_ones; last_one = d.last_one; known = d.known })

-- PROCESSES

-- what the last process assigns is assigned by an earlier one as soon as another is opened
grown : (d p : ℕ) → d ≤ p + 1 → (eqb d (p + 1) || within 1 p d) ≡ within 1 (p + 1) d
grown d p h = elim (dec_lt d 1) [
  | yes g ↦ rw (ne_eqb d (p + 1) (λ z. omega arith), within-below 1 p d g, within-below 1 (p + 1) d g)
  | no g ↦ elim (dec_lt p d) [
    | yes f ↦ rw (eq-eqb d (p + 1) (omega arith), within-inside 1 (p + 1) d (omega arith) h)
    | no f ↦ rw (ne_eqb d (p + 1) (λ z. omega arith), within-inside 1 p d (omega arith) (omega arith), within-inside 1 (p + 1) d (omega arith) h)
  ]
]

opened-driven : (d k : ℕ) (y : State) → Driven d k y → Driven d k (opened y)
opened-driven d k y r =
    record {
      earlier_ones = has-append k y.current y.earlier ∙ rw (r.earlier_ones, r.last_one) (grown d y.processes r.known);
      last_one = sym (ne_eqb d (y.processes + 1 + 1) (λ z. omega (arith, r.known)));
      known = omega (arith, r.known);
    }

pub opened-stands : {t l : List ℕ} {y : State} → Standing 1 t l y → (get_or l 4 0 ≡ 64 → ⊥) → Standing 0 t (set l 4 (get_or l 4 0 + 1)) (opened y)
opened-stands {t} {l} {y} s f =
    let size = s.signals.size in
    let all : ℕ = get_or l 4 0 + 1 in
    let word : (j : ℕ) → (j ≡ 4 → ⊥) → get_or (set l 4 all) j 0 ≡ get_or l j 0 = λ j f. get_or-set_other l 4 j all 0 f in
    changed-stands s 4 all (λ j h f g z. f z) (omega (arith, s.few_labels, s.few_processes)) 0 (opened y) refl refl (omega (arith, s.few_labels))
    (get_or-set_same l 4 all 0 (omega arith) ∙ ap (λ (n : ℕ). n + 1) s.processes_are) (omega (arith, s.processes_are, s.few_processes))
    (word 5 (λ z. omega arith) ∙ s.instructions_are) s.few_instructions
    (λ j g. rw (word (264 + j) (λ z. omega arith)) (opened-driven (get_or l (264 + j) 0) j y (s.drivers j g)))

-- ASSIGNMENTS

assigned_same : (d j k : ℕ) (y : State) → (k ≡ j → ⊥) → Driven d j y → Driven d j (assigned k y)
assigned_same d j k y f r = record { earlier_ones = r.earlier_ones; last_one = rw (ne_eqb k j f) r.last_one; known = r.known }

assigned-here : (k : ℕ) (y : State) → has k y.earlier ≡ false → Driven (y.processes + 1) k (assigned k y)
assigned-here k y e =
    record {
      earlier_ones = e ∙ sym (within-above 1 y.processes (y.processes + 1) (omega arith));
      last_one = rw (eq-eqb k k refl, eq-eqb (y.processes + 1) (y.processes + 1) refl);
      known = omega arith;
    }

pub assigned-stands : {t l : List ℕ} {y : State} → Standing 0 t l y → (k : ℕ) → k < 64 → has k y.earlier ≡ false
    → Standing 0 t (set l (264 + k) (get_or l 4 0 + 1)) (assigned k y)
assigned-stands {t} {l} {y} s k h e =
    let size = s.signals.size in
    let all : ℕ = get_or l 4 0 + 1 in
    let word : (j : ℕ) → (j ≡ 264 + k → ⊥) → get_or (set l (264 + k) all) j 0 ≡ get_or l j 0 = λ j f. get_or-set_other l (264 + k) j all 0 f in
    changed-stands s (264 + k) all (λ j h f g z. omega arith) (omega (arith, s.few_labels, s.few_processes)) 0 (assigned k y) refl refl s.few_labels
    (word 4 (λ z. omega arith) ∙ s.processes_are) s.few_processes
    (word 5 (λ z. omega arith) ∙ s.instructions_are) s.few_instructions
    (λ j g. elim (ℕ_discrete k j) [
      | yes z ↦ rw (← z, get_or-set_same l (264 + k) all 0 (omega arith), s.processes_are) (assigned-here k y e)
      | no f ↦ rw (word (264 + j) (λ z. f (omega arith))) (assigned_same (get_or l (264 + j) 0) j k y f (s.drivers j g))
    ])
