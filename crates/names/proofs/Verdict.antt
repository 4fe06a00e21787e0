-- What the fold decides: it refuses with n at a token exactly where n applies there, no lower number does, and no number applies before;
-- and it accepts exactly where no number applies. Assumes nothing.
use Prim.Native.Nat.{ℕ, zero, suc, ◌≤◌, ◌<◌}
use native.Mathlib.Omega.{arith}
use mathlib.Core.Path.{◌≡◌, refl}
use mathlib.Core.Bool.{Bool, true, false}
use mathlib.Core.Logic.{inl, inr}
use mathlib.Core.List.{List, [], ◌∷◌}
use lib.ListN.{length, get_or}
use Rattle.laws.specs.Pick.{pick}
use Rattle.names.specs.Roles.{Role, declares, labels, listens, reads, assigns, belongs, closes, opens, delays, counts, passes}
use Rattle.names.specs.Judge.{State, Judgement, fine, refused, onward, lowest, judge, judged, faults, next, Holds, AppliesFrom, First}

-- no row of the table applies
abbrev pub Clear : List (ℕ × Bool) → Type 0
Clear [] = Unit {0}
Clear (row ∷ rows) = (row.1 ≡ false) × Clear rows

-- no number applies to any token
abbrev pub Fine : State → List Role → Type 0
Fine y [] = Unit {0}
Fine y (r ∷ rs) = Clear (faults y r) × Fine (next y r) rs

-- the state after all tokens
abbrev pub after_all : State → List Role → State
after_all y [] = y
after_all y (r ∷ rs) = after_all (next y r) rs

-- the numbers of the rows are above n; they rise
abbrev pub Above : ℕ → List (ℕ × Bool) → Type 0
Above n [] = Unit {0}
Above n (row ∷ rows) = (n < row.0) × Above n rows

abbrev pub Rising : List (ℕ × Bool) → Type 0
Rising [] = Unit {0}
Rising (row ∷ rows) = Above row.0 rows × Rising rows

-- ONE TOKEN

pub data OneToken (rows : List (ℕ × Bool)) (p : ℕ) (y : State) : Judgement → Type 0 where
  accepted : Clear rows → OneToken rows p y (fine y)
  turned : {n : ℕ} → Holds n rows → ((m : ℕ) → m < n → ¬ Holds m rows) → OneToken rows p y (refused n p)

pub differ : {b : Bool} → b ≡ true → b ≡ false → ⊥
differ e f = let z : ◌≡◌ {A = ℕ} 0 1 = cc in omega arith

clear_none : (rows : List (ℕ × Bool)) → Clear rows → (n : ℕ) → ¬ Holds n rows
clear_none [] c n h = h
clear_none (row ∷ rows) c n (inl e) = differ e.1 c.0
clear_none (row ∷ rows) c n (inr h) = clear_none rows c.1 n h

above : (rows : List (ℕ × Bool)) (m n : ℕ) → Above m rows → Holds n rows → m < n
above [] m n a h = absurd h
above (row ∷ rows) m n a (inl e) = omega (arith, e.0, a.0)
above (row ∷ rows) m n a (inr h) = above rows m n a.1 h

rising : (y : State) (r : Role) → Rising (faults y r)
rising y (declares n) = omega arith
rising y (labels n) = omega arith
rising y (listens n) = omega arith
rising y (reads n) = omega arith
rising y (assigns n) = omega arith
rising y (belongs e n) = omega arith
rising y (closes o n) = omega arith
rising y opens = omega arith
rising y (delays n u) = omega arith
rising y (counts k) = omega arith
rising y passes = omega arith

pub one_token : (rows : List (ℕ × Bool)) (p : ℕ) (y : State) → Rising rows → OneToken rows p y (lowest rows p y)
one_token [] p y r = accepted tt
one_token (row ∷ rows) p y r = go row.1 refl (one_token rows p y r.1)
  where
    later : {j : Judgement} → row.1 ≡ false → OneToken rows p y j → OneToken (row ∷ rows) p y j
    later e (accepted c) = accepted (e, c)
    later e (turned {n} h f) = turned (inr h) (λ m l. λ g. not-here m l g)
      where
        not-here : (m : ℕ) → m < n → ¬ Holds m (row ∷ rows)
        not-here m l (inl g) = differ g.1 e
        not-here m l (inr g) = f m l g

    go : (b : Bool) → row.1 ≡ b → OneToken rows p y (lowest rows p y) → OneToken (row ∷ rows) p y (pick b (refused row.0 p) (lowest rows p y))
    go true e o = turned (inl (refl, e)) (λ m l. below m l)
      where
        below : (m : ℕ) → m < row.0 → ¬ Holds m (row ∷ rows)
        below m l (inl g) = omega (arith, g.0)
        below m l (inr g) = omega (arith, above rows row.0 m r.0 g)
    go false e o = later e o

-- every number is one of 5 to 10
abbrev Ranged : List (ℕ × Bool) → Type 0
Ranged [] = Unit {0}
Ranged (row ∷ rows) = (5 ≤ row.0) × (row.0 ≤ 10) × Ranged rows

ranged : (y : State) (r : Role) → Ranged (faults y r)
ranged y (declares n) = omega arith
ranged y (labels n) = omega arith
ranged y (listens n) = omega arith
ranged y (reads n) = omega arith
ranged y (assigns n) = omega arith
ranged y (belongs e n) = omega arith
ranged y (closes o n) = omega arith
ranged y opens = omega arith
ranged y (delays n u) = omega arith
ranged y (counts k) = omega arith
ranged y passes = omega arith

in_range : (rows : List (ℕ × Bool)) (n : ℕ) → Ranged rows → Holds n rows → (5 ≤ n) × (n ≤ 10)
in_range [] n a h = absurd h
in_range (row ∷ rows) n a (inl e) = (omega (arith, e.0, a.0), omega (arith, e.0, a.1))
in_range (row ∷ rows) n a (inr h) = in_range rows n a.2 h

pub five_to_ten : (rs : List Role) (y : State) (k n : ℕ) → AppliesFrom y rs k n → (5 ≤ n) × (n ≤ 10)
five_to_ten [] y k n a = absurd a
five_to_ten (r ∷ rs) y zero n a = in_range (faults y r) n (ranged y r) a
five_to_ten (r ∷ rs) y (suc k) n a = five_to_ten rs (next y r) k n a

-- ALL TOKENS

pub data Decides (y : State) (rs : List Role) (ps : List ℕ) : Judgement → Type 0 where
  all_fine : Fine y rs → Decides y rs ps (fine (after_all y rs))
  first_due : (k : ℕ) {n : ℕ} → First (AppliesFrom y rs) k n → Decides y rs ps (refused n (get_or ps k 0))

pub decides : (rs : List Role) (y : State) (ps : List ℕ) → length rs ≤ length ps → Decides y rs ps (judged y rs ps)
unfolding judged
decides [] y ps l = all_fine tt
decides (r ∷ rs) y [] l = absurd (omega arith)
decides (r ∷ rs) y (p ∷ ps) l = go (judge y r p) (one_token (faults y r) p (next y r) (rising y r)) (decides rs (next y r) ps (omega arith))
  where
    later : {j : Judgement} → Clear (faults y r) → Decides (next y r) rs ps j → Decides y (r ∷ rs) (p ∷ ps) j
    later c (all_fine f) = all_fine (c, f)
    later c (first_due k {n} f) =
        first_due (suc k)
        (record {
          applies = f.applies;
          lower_not = f.lower_not;
          earlier_not = λ j. elim j as (λ j. (m : ℕ) → j < suc k → AppliesFrom y (r ∷ rs) j m → ⊥) [ zero ↦ λ m i. clear_none (faults y r) c m | suc i ↦ λ m h. f.earlier_not i m (omega arith) ];
        })

    go : (j : Judgement) → OneToken (faults y r) p (next y r) j → Decides (next y r) rs ps (judged (next y r) rs ps)
        → Decides y (r ∷ rs) (p ∷ ps) (onward j (λ z. judged z rs ps))
    go (fine z) (accepted c) d = later c d
    go (refused n q) (turned h f) d =
        first_due 0 (record { applies = h; lower_not = f; earlier_not = λ j m i. absurd (omega arith) })

-- accepted is that no number applies
pub fine-none : (rs : List Role) (y : State) → Fine y rs → (k n : ℕ) → ¬ AppliesFrom y rs k n
fine-none [] y f k n a = a
fine-none (r ∷ rs) y f zero n a = clear_none (faults y r) f.0 n a
fine-none (r ∷ rs) y f (suc k) n a = fine-none rs (next y r) f.1 k n a

clear_all : (rows : List (ℕ × Bool)) → ((n : ℕ) → ¬ Holds n rows) → Clear rows
clear_all [] f = tt
clear_all (row ∷ rows) f = (go row.1 refl, clear_all rows (λ n h. f n (inr h)))
  where
    go : (b : Bool) → row.1 ≡ b → b ≡ false
    go true e = absurd (f row.0 (inl (refl, e)))
    go false e = refl

pub none-fine : (rs : List Role) (y : State) → ((k n : ℕ) → ¬ AppliesFrom y rs k n) → Fine y rs
none-fine [] y f = tt
none-fine (r ∷ rs) y f = (clear_all (faults y r) (f 0), none-fine rs (next y r) (λ k. f (suc k)))

-- there is one first
pub one_first : (A : ℕ → ℕ → Type 0) (j k m n : ℕ) → First A j m → First A k n → (j ≡ k) × (m ≡ n)
one_first A j k m n a b =
    let early : ¬ (j < k) = λ h. b.earlier_not j m h a.applies in
    let late : ¬ (k < j) = λ h. a.earlier_not k n h b.applies in
    let same : j ≡ k = omega arith in
    let there = rw same at a.applies in
    let low : ¬ (m < n) = λ h. b.lower_not m h there in
    let high : ¬ (n < m) = λ h. a.lower_not n h (rw same b.applies) in
    (same, omega arith)
