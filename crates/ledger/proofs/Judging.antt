-- Each way that a function judges a token: what the tests say of the words, and what the words stand for then.
-- Assumes nothing.
use mathlib.Core.Path.{◌≡◌, refl, sym, ◌∙◌}
use mathlib.Core.Bool.{Bool, true, false, not}
use mathlib.Core.List.{List}
use Prim.Native.Nat.{ℕ, ◌+◌, ◌*◌, ◌<◌, ◌≤◌}
use native.Mathlib.Omega.{arith}
use borrow.Author.Tests.{lt-ltb, le-ltb}
use lib.ListN.{length, get_or, set}
use Rattle.laws.specs.Pick.{pick, within}
use Rattle.words.specs.Token.{Name}
use Rattle.words.specs.Unit.{femtoseconds_of, longest, delay_of}
use Rattle.words.specs.declared.unit.TimeUnit.{TimeUnit}
use Rattle.std.specs.Prelude.{Some, None}
use Rattle.look.specs.Inside.Looks.{name_at}
use Rattle.names.specs.Roles.{Role, declares, labels, listens, reads, assigns, opens, delays, counts}
use Rattle.names.specs.Judge.{State, Judgement, fine, refused, onward, judge, number_of, has, undeclared, declared, labelled, opened, assigned, counted}
use Rattle.ledger.specs.Inside.Standing.{Span, names_from, added, used_in, Standing, Keeps, keeps_fine, keeps_refused, Sound, Judges, Numbers, driven, Drives}
use Rattle.ledger.proofs.Keeping.{refusing, refuses, moves, signals-count, used_is, is_undeclared, is_declared}
use Rattle.ledger.proofs.Delays.{timed, untimed}
use Rattle.ledger.proofs.Roles.{declared-stands, labelled-stands, counted-stands, opened-stands, assigned-stands}

-- no token is refused yet, and the next one starts at p
module _ (t l : List ℕ) (p : ℕ) (size : length l ≡ 328) (clear : get_or l 0 0 ≡ 0) where
  -- INSTRUCTIONS AND PROCESSES

  pub count-refused : (k : ℕ) {m : List ℕ} → 4096 < get_or l 5 0 + k → m ≡ set (set l 0 10) 1 p → Judges 0 0 t (counts k) p l m
  count-refused k h e =
      refuses 10 e (omega arith) size clear (λ y s. rw (lt-ltb 4096 (y.instructions + k) (omega (arith, s.instructions_are))))

  pub count-fine : (k : ℕ) {m : List ℕ} → get_or l 5 0 + k ≤ 4096 → m ≡ set l 5 (get_or l 5 0 + k) → Judges 0 0 t (counts k) p l m
  count-fine k h e =
      rw e (moves clear (counted k) (λ y s. rw (le-ltb 4096 (y.instructions + k) (omega (arith, s.instructions_are)))) (λ y s. counted-stands s k h))

  pub open_refused : {m : List ℕ} → get_or l 4 0 ≡ 64 → m ≡ set (set l 0 10) 1 p → Judges 1 0 t opens p l m
  open_refused h e = refuses 10 e (omega arith) size clear (λ y s. rw (lt-ltb 64 (y.processes + 1) (omega (arith, s.processes_are))))

  pub open_fine : {m : List ℕ} → (get_or l 4 0 ≡ 64 → ⊥) → m ≡ set l 4 (get_or l 4 0 + 1) → Judges 1 0 t opens p l m
  open_fine f e =
      rw e (moves clear opened (λ y s. rw (le-ltb 64 (y.processes + 1) (omega (arith, s.processes_are, s.few_processes)))) (λ y s. opened-stands s f))

  -- NAMES THAT ARE NEW

  module _ (end : ℕ) (span : Span t p end) (b : Bool) (e : b ≡ used_in t l (name_at t p end)) where
    pub declare_used : {m : List ℕ} → b ≡ true → m ≡ set (set l 0 6) 1 p → Judges 0 0 t (declares (name_at t p end)) p l m
    declare_used h f = refuses 6 f (omega arith) size clear (λ y s. rw (used_is s (name_at t p end) ∙ sym e ∙ h))

    pub declare_full : {m : List ℕ} → b ≡ false → get_or l 2 0 ≡ 64 → m ≡ set (set l 0 10) 1 p → Judges 0 0 t (declares (name_at t p end)) p l m
    declare_full h g f =
        refuses 10 f (omega arith) size clear
        (λ y s. rw (used_is s (name_at t p end) ∙ sym e ∙ h, lt-ltb 64 (length y.signal_names + 1) (omega (arith, signals-count s))))

    pub declare_fine : {m : List ℕ} → b ≡ false → (get_or l 2 0 ≡ 64 → ⊥) → m ≡ added l 2 6 p end → Judges 0 0 t (declares (name_at t p end)) p l m
    declare_fine h g f =
        rw f (moves clear (declared (name_at t p end))
        (λ y s. rw (used_is s (name_at t p end) ∙ sym e ∙ h, le-ltb 64 (length y.signal_names + 1) (omega (arith, signals-count s, s.few_signals))))
        (λ y s. declared-stands s p end span g))

    pub label_used : {m : List ℕ} → b ≡ true → m ≡ set (set l 0 6) 1 p → Judges 0 1 t (labels (name_at t p end)) p l m
    label_used h f = refuses 6 f (omega arith) size clear (λ y s. rw (used_is s (name_at t p end) ∙ sym e ∙ h))

    pub label_fine : {m : List ℕ} → b ≡ false → m ≡ added l 3 134 p end → Judges 0 1 t (labels (name_at t p end)) p l m
    label_fine h f =
        rw f (moves clear (labelled (name_at t p end)) (λ y s. rw (used_is s (name_at t p end) ∙ sym e ∙ h)) (λ y s. labelled-stands s p end span))

  -- NAMES OF SIGNALS, of which r is the number

  module _ (n : Name) (r : ℕ) (e : r ≡ number_of n (names_from t l 6 (get_or l 2 0))) where
    -- 5 goes before what else there is
    pub undeclared-refused : (role : Role) (others : State → Judgement) → ((y : State) → judge y role p ≡ pick (undeclared n y) (refused 5 p) (others y))
        → {m : List ℕ} → r ≡ get_or l 2 0 → m ≡ set (set l 0 5) 1 p → Judges 0 0 t role p l m
    undeclared-refused role others f h g = refuses 5 g (omega arith) size clear (λ y s. f y ∙ rw (is_undeclared s n r e h))

    pub listen_fine : r < get_or l 2 0 → Judges 0 0 t (listens n) p l l
    listen_fine h = moves clear (λ y. y) (λ y s. rw (is_declared s n r e (λ z. omega arith))) (λ y s. s)

  -- WHAT A PROCESS ASSIGNS

  module _ (k : ℕ) (few : k < 64) (b : Bool) (f : b ≡ within 1 (get_or l 4 0) (get_or l (264 + k) 0)) where
    earlier_is : {y : State} → Standing 0 t l y → has k y.earlier ≡ b
    earlier_is s = (s.drivers k few).earlier_ones ∙ rw (← s.processes_are) (sym f)

    pub drive-refused : {m : List ℕ} → b ≡ true → m ≡ set (set l 0 9) 1 p → Drives t k p l m
    drive-refused {m} h g = record { keeps = go }
      where
        go : (j : Judgement) → Keeps 0 t l j → Keeps 0 t m (onward j (λ y. driven k p y))
        go (fine y) (keeps_fine s) = rw (earlier_is s ∙ h) (keeps_refused (refusing l p 9 g (omega arith) size))
        go (refused n q) (keeps_refused r) = absurd (omega (arith, r.number_is, r.some))

    pub drive-fine : {m : List ℕ} → b ≡ false → m ≡ set l (264 + k) (get_or l 4 0 + 1) → Drives t k p l m
    drive-fine {m} h g = record { keeps = go }
      where
        go : (j : Judgement) → Keeps 0 t l j → Keeps 0 t m (onward j (λ y. driven k p y))
        go (fine y) (keeps_fine s) = rw (earlier_is s ∙ h, g) (keeps_fine (assigned-stands s k few (earlier_is s ∙ h)))
        go (refused n q) (keeps_refused r) = absurd (omega (arith, r.number_is, r.some))

  -- NAMES THAT MUST BE THE SAME

  module _ (role : Role) (n : ℕ) (b : Bool) (f : (y : State) → judge y role p ≡ pick (not b) (refused n p) (fine y)) where
    pub same_fine : b ≡ true → Judges 0 0 t role p l l
    same_fine h = moves clear (λ y. y) (λ y s. f y ∙ rw h) (λ y s. s)

    pub same_refused : {m : List ℕ} → 0 < n → b ≡ false → m ≡ set (set l 0 n) 1 p → Judges 0 0 t role p l m
    same_refused h e g = refuses n g h size clear (λ y s. f y ∙ rw e)

  -- DELAYS

  module _ (v : ℕ) (u : TimeUnit) where
    pub delay-fine : (n : ℕ) → delay_of v u ≡ Some n → Judges 0 0 t (delays v u) p l l
    delay-fine n e =
        moves clear (λ y. y) (λ y s. rw (le-ltb longest (v * femtoseconds_of u) (timed v u n e).0)) (λ y s. s)

    pub delay-refused : {m : List ℕ} → delay_of v u ≡ None → m ≡ set (set l 0 8) 1 p → Judges 0 0 t (delays v u) p l m
    delay-refused e g =
        refuses 8 g (omega arith) size clear (λ y s. rw (lt-ltb longest (v * femtoseconds_of u) (untimed v u e)))

-- A NAME THAT IS READ OR ASSIGNED is one that is looked up, and more

pub reads_as : (n : Name) (p : ℕ) (y : State) → judge y (reads n) p ≡ onward (judge y (listens n) p) (λ z. judge z (counts 1) p)
reads_as n p y = go (undeclared n y)
  where
    go : (b : Bool) → pick b (refused 5 p) (judge y (counts 1) p) ≡ onward (pick b (refused 5 p) (fine y)) (λ z. judge z (counts 1) p)
    go true = refl
    go false = refl

assigns_as : (n : Name) (p : ℕ) (y : State)
    → judge y (assigns n) p ≡ onward (onward (judge y (listens n) p) (λ z. driven (number_of n y.signal_names) p z)) (λ z. judge z (counts 1) p)
assigns_as n p y = go (undeclared n y)
  where
    further : (b : Bool) → pick b (refused 9 p) (judge (assigned (number_of n y.signal_names) y) (counts 1) p)
        ≡ onward (pick b (refused 9 p) (fine (assigned (number_of n y.signal_names) y))) (λ z. judge z (counts 1) p)
    further true = refl
    further false = refl

    go : (b : Bool) → pick b (refused 5 p) (pick (has (number_of n y.signal_names) y.earlier) (refused 9 p) (judge (assigned (number_of n y.signal_names) y) (counts 1) p))
        ≡ onward (onward (pick b (refused 5 p) (fine y)) (λ z. driven (number_of n y.signal_names) p z)) (λ z. judge z (counts 1) p)
    go true = refl
    go false = further (has (number_of n y.signal_names) y.earlier)

pub assign-judges : {t l l1 l2 m : List ℕ} (n : Name) (p : ℕ) {r : ℕ} → Numbers t l n r → Judges 0 0 t (listens n) p l l1 → Drives t r p l1 l2 → Judges 0 0 t (counts 1) p l2 m
    → Judges 0 0 t (assigns n) p l m
assign-judges {t} {l} {m = m} n p x d f g = record { keeps = go }
  where
    go : (j : Judgement) → Keeps 0 t l j → Keeps 0 t m (onward j (λ y. judge y (assigns n) p))
    go (fine y) k = rw (assigns_as n p y, ← (x.number_is y k)) (g.keeps _ (f.keeps _ (d.keeps (fine y) k)))
    go (refused i q) k = g.keeps _ (f.keeps _ (d.keeps (refused i q) k))

pub drive-stays : {t l : List ℕ} (k p : ℕ) → (get_or l 0 0 ≡ 0 → ⊥) → Drives t k p l l
drive-stays {t} {l} k p h = record { keeps = go }
  where
    go : (j : Judgement) → Keeps 0 t l j → Keeps 0 t l (onward j (λ y. driven k p y))
    go (fine y) (keeps_fine s) = absurd (h s.clear)
    go (refused n q) (keeps_refused r) = keeps_refused r

pub drives-sound : {t l m : List ℕ} {k p : ℕ} → Drives t k p l m → Sound 0 t l → Sound 0 t m
drives-sound {k = k} {p = p} d s = record { judgement = onward s.judgement (λ y. driven k p y); keeps = d.keeps s.judgement s.keeps }
