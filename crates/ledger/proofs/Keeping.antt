-- When the words of a ledger stand for a judgement, and what they say then.
-- Assumes nothing.
use mathlib.Core.Path.{◌≡◌, refl, ap, ◌∙◌}
use mathlib.Core.Bool.{true, false, not}
use mathlib.Core.List.{List, ◌∷◌}
use Prim.Native.Nat.{ℕ, ◌+◌, ◌<◌}
use native.Mathlib.Omega.{arith}
use borrow.Author.Tests.{lt-ltb, le-ltb}
use lib.ListN.{length, get_or, set, length-set, replicate, length-replicate}
use Rattle.laws.proofs.Lists.{zero_at}
use lib.Seq.{get_or-set_same, get_or-set_other}
use Rattle.words.specs.Token.{Name}
use Rattle.look.specs.declared.Look.{Look}
use Rattle.look.proofs.Looks.{There}
use Rattle.names.specs.Roles.{Role, passes}
use Rattle.names.specs.Judge.{State, nothing_yet, Judgement, fine, refused, onward, judge, judged, number_of, used, undeclared}
use Rattle.ledger.specs.Inside.Standing.{Span, names_from, used_in, Standing, Refusing, Keeps, keeps_fine, keeps_refused, Sound, Held, Judges, Numbers}
use Rattle.ledger.proofs.Shelves.{names-length, among-number, number_most}

-- JUDGEMENTS, one after the other

pub onward-passes : (j : Judgement) (p : ℕ) → onward j (λ y. judge y passes p) ≡ j
onward-passes (fine y) p = refl
onward-passes (refused n q) p = refl

pub onward-onward : (j : Judgement) (f g : State → Judgement) → onward (onward j f) g ≡ onward j (λ y. onward (f y) g)
onward-onward (fine y) f g = refl
onward-onward (refused n p) f g = refl

-- a role and its place first, then the others
pub onward_first : (j : Judgement) (r : Role) (rs : List Role) (p : ℕ) (ps : List ℕ)
    → onward j (λ y. judged y (r ∷ rs) (p ∷ ps)) ≡ onward (onward j (λ y. judge y r p)) (λ y. judged y rs ps)
unfolding judged
onward_first (fine y) r rs p ps = refl
onward_first (refused n q) r rs p ps = refl

-- WHAT A LEDGER SAYS

-- the words stand for some state
pub record Stands (unopened : ℕ) (text ledger : List ℕ) : Type 0 where
  pub state : State
  pub stands : Standing unopened text ledger state

module _ {u : ℕ} {t l : List ℕ} where
  -- no refusal yet
  pub kept_fine : {j : Judgement} → Keeps u t l j → get_or l 0 0 ≡ 0 → (s : Stands u t l) × (j ≡ fine s.state)
  kept_fine (keeps_fine {y} s) e = (record { state = y; stands = s }, refl)
  kept_fine (keeps_refused r) e = absurd (omega (arith, r.number_is, r.some))

  -- a refusal, with its number and place
  pub kept-refused : {j : Judgement} → Keeps u t l j → (get_or l 0 0 ≡ 0 → ⊥) → j ≡ refused (get_or l 0 0) (get_or l 1 0)
  kept-refused (keeps_fine s) f = absurd (f s.clear)
  kept-refused (keeps_refused r) f = rw (r.number_is, r.place_is)

  kept-size : {j : Judgement} → Keeps u t l j → length l ≡ 328
  kept-size (keeps_fine s) = s.signals.size
  kept-size (keeps_refused r) = r.size

  pub standing : Sound u t l → get_or l 0 0 ≡ 0 → Stands u t l
  standing s e = (kept_fine s.keeps e).0

  pub sound-size : Sound u t l → length l ≡ 328
  sound-size s = kept-size s.keeps

  pub held : Sound u t l → Held u l
  held s = record { text = t; sound = s }

-- a process without a label is opened as one with a label is
pub unlabelled : {t l : List ℕ} {j : Judgement} → Keeps 0 t l j → Keeps 1 t l j
unlabelled (keeps_fine {y} s) =
    keeps_fine {y = y} record {
      clear = s.clear;
      signals = s.signals;
      signals_are = s.signals_are;
      few_signals = s.few_signals;
      labels = s.labels;
      labels_are = s.labels_are;
      few_labels = omega (arith, s.few_labels);
      processes_are = s.processes_are;
      few_processes = s.few_processes;
      instructions_are = s.instructions_are;
      few_instructions = s.few_instructions;
      drivers = s.drivers;
    }
unlabelled (keeps_refused r) = keeps_refused r

pub sound-unlabelled : {t l : List ℕ} → Sound 0 t l → Sound 1 t l
sound-unlabelled s = record { judgement = s.judgement; keeps = unlabelled s.keeps }

-- a token that a look sees is a part of the text
pub there-span : {s : List ℕ} {at : ℕ} {l : Look} → There s at l → Span s l.start l.end
there-span x = record { rising = omega (arith, x.some); inside = x.inside }

-- A FRESH LEDGER

all_zero : (t l : List ℕ) → length l ≡ 328 → ((k : ℕ) → get_or l k 0 ≡ 0) → Keeps 0 t l (fine nothing_yet)
unfolding names_from
all_zero t l e f =
    keeps_fine {y = nothing_yet} record {
      clear = f 0;
      signals = rw (f 2) record { size = e; room = omega arith; spans = λ i h. absurd (omega arith) };
      signals_are = rw (f 2);
      few_signals = omega (arith, f 2);
      labels = rw (f 3) record { size = e; room = omega arith; spans = λ i h. absurd (omega arith) };
      labels_are = λ n. rw (f 3);
      few_labels = omega (arith, f 3);
      processes_are = f 4;
      few_processes = omega arith;
      instructions_are = f 5;
      few_instructions = omega arith;
      drivers = λ k h. rw (f (264 + k)) record { earlier_ones = refl; last_one = refl; known = omega arith };
    }

pub fresh_keeps : (t : List ℕ) → Keeps 0 t (replicate 328 0) (fine nothing_yet)
fresh_keeps t = all_zero t (replicate 328 0) (length-replicate {A = ℕ} 328 0) (zero_at 328)

-- WHAT A STATE IS by the words

module _ {u : ℕ} {t l : List ℕ} {y : State} (s : Standing u t l y) where
  pub signals-count : length y.signal_names ≡ get_or l 2 0
  signals-count = ap length s.signals_are ∙ names-length t l 6 (get_or l 2 0)

  pub used_is : (n : Name) → used n y ≡ used_in t l n
  used_is n = rw (s.signals_are, s.labels_are n)

  module _ (n : Name) (r : ℕ) (e : r ≡ number_of n (names_from t l 6 (get_or l 2 0))) where
    pub number_is_lem : r ≡ number_of n y.signal_names
    number_is_lem = rw s.signals_are e

    pub is_undeclared : r ≡ get_or l 2 0 → undeclared n y ≡ true
    is_undeclared h = ap not (among-number n y.signal_names ∙ le-ltb (number_of n y.signal_names) (length y.signal_names) (omega (arith, number_is_lem, signals-count)))

    pub is_declared : (r ≡ get_or l 2 0 → ⊥) → undeclared n y ≡ false
    is_declared f =
        let z = number_most n y.signal_names in
        ap not (among-number n y.signal_names ∙ lt-ltb (number_of n y.signal_names) (length y.signal_names) (omega (arith, number_is_lem, signals-count)))

-- JUDGING A TOKEN

-- the words of a refusal say so
pub refusing : (l : List ℕ) {m : List ℕ} (p n : ℕ) → m ≡ set (set l 0 n) 1 p → 0 < n → length l ≡ 328 → Refusing m n p
refusing l {m} p n e h size =
    rw e record {
      size = length-set (set l 0 n) 1 p ∙ length-set l 0 n ∙ size;
      number_is = get_or-set_other (set l 0 n) 1 0 p 0 (λ z. omega arith) ∙ get_or-set_same l 0 n 0 (omega arith);
      place_is = get_or-set_same (set l 0 n) 1 p 0 (omega (arith, length-set l 0 n));
      some = h;
    }

module _ {b a : ℕ} {t : List ℕ} {role : Role} {p : ℕ} {l : List ℕ} where
  -- after a refusal nothing changes
  pub stays : (get_or l 0 0 ≡ 0 → ⊥) → Judges b a t role p l l
  stays f = record { keeps = go }
    where
      go : (j : Judgement) → Keeps b t l j → Keeps a t l (onward j (λ y. judge y role p))
      go (fine y) (keeps_fine s) = absurd (f s.clear)
      go (refused n q) (keeps_refused r) = keeps_refused r

  -- the token is refused
  pub refuses : (n : ℕ) {m : List ℕ} → m ≡ set (set l 0 n) 1 p → 0 < n → length l ≡ 328 → get_or l 0 0 ≡ 0
      → ((y : State) → Standing b t l y → judge y role p ≡ refused n p) → Judges b a t role p l m
  refuses n {m} e h size clear f = record { keeps = go }
    where
      go : (j : Judgement) → Keeps b t l j → Keeps a t m (onward j (λ y. judge y role p))
      go (fine y) (keeps_fine s) = rw (f y s) (keeps_refused (refusing l p n e h size))
      go (refused k q) (keeps_refused r) = absurd (omega (arith, r.number_is, r.some))

  -- the token is fine
  pub moves : {m : List ℕ} → get_or l 0 0 ≡ 0 → (z : State → State) → ((y : State) → Standing b t l y → judge y role p ≡ fine (z y))
      → ((y : State) → Standing b t l y → Standing a t m (z y)) → Judges b a t role p l m
  moves {m} clear z e f = record { keeps = go }
    where
      go : (j : Judgement) → Keeps b t l j → Keeps a t m (onward j (λ y. judge y role p))
      go (fine y) (keeps_fine s) = rw (e y s) (keeps_fine (f y s))
      go (refused k q) (keeps_refused r) = absurd (omega (arith, r.number_is, r.some))

  -- the token is judged as of one role and then as of another
  pub both : {c : ℕ} {role1 role2 : Role} {k m : List ℕ} → ((y : State) → judge y role p ≡ onward (judge y role1 p) (λ z. judge z role2 p))
      → Judges b c t role1 p l k → Judges c a t role2 p k m → Judges b a t role p l m
  both {role1 = role1} {m = m} e d f = record { keeps = go }
    where
      go : (j : Judgement) → Keeps b t l j → Keeps a t m (onward j (λ y. judge y role p))
      go (fine y) x = rw (e y) (f.keeps (judge y role1 p) (d.keeps (fine y) x))
      go (refused n q) x = f.keeps (refused n q) (d.keeps (refused n q) x)

  -- and the words after it stand for some judgement too
  pub sound-after : {m : List ℕ} → Judges b a t role p l m → Sound b t l → Sound a t m
  sound-after d s = record { judgement = onward s.judgement (λ y. judge y role p); keeps = d.keeps s.judgement s.keeps }

-- THE NUMBER OF A SIGNAL

module _ {t l : List ℕ} {n : Name} where
  pub no_number : (get_or l 0 0 ≡ 0 → ⊥) → Numbers t l n 0
  no_number f = record { number_is = go; few = omega arith }
    where
      go : (y : State) → Keeps 0 t l (fine y) → 0 ≡ number_of n y.signal_names
      go y (keeps_fine s) = absurd (f s.clear)

  pub numbers : (r : ℕ) → Stands 0 t l → r ≡ number_of n (names_from t l 6 (get_or l 2 0)) → Numbers t l n r
  numbers r x e = record { number_is = go; few = omega (arith, number_most n (names_from t l 6 (get_or l 2 0)), names-length t l 6 (get_or l 2 0), x.stands.few_signals) }
    where
      go : (y : State) → Keeps 0 t l (fine y) → r ≡ number_of n y.signal_names
      go y (keeps_fine s) = number_is_lem s n r e
